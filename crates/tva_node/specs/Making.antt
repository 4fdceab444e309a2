-- Kit: what each step owes in which a router's changes are made.
use Rattle.std.specs.Prelude.{◌≡◌, ℕ, ◌+◌, ◌<◌, ◌≤◌, List, map, take, length, get_or, Option, MatchOption}
use Rattle.std.specs.List.{AllByRecursion}
use Rattle.tva_base.specs.declared.addresses.Prefix.{Prefix}
use Rattle.tva_base.specs.declared.packet.Time.{Time}
use Rattle.tva_base.specs.Changes.{boot_at, in_force, last_of}
use Rattle.tva_node.specs.declared.changes.Changes.{Changes}
use Rattle.tva_node.specs.declared.role.Routed.{Routed}
use Rattle.tva_node.specs.Changes.{restart_time}
use Rattle.tva_node.specs.Besides.{IsRoutedBy, StandsAsRouter}
use Rattle.tva_run.specs.Entries.{Entry}

-- the change behind the first so many is later than a time, where there is one
abbrev pub IsNextLater : {X : Type 0} → (X → ℕ) → List X → ℕ → ℕ → Type 0
IsNextLater {X = X} time changes count now = (d : X) → count < length changes → now < time (get_or changes count d)

-- restarts are made, from so many on to so many, and the last of these has that master
pub record IsRestarted (restarts : List (Time × List ℕ)) (now from to : ℕ) (master : Option (List ℕ)) : Type 0 where
  pub on : (from ≤ to) × (to ≤ length restarts)
  pub come : AllByRecursion (λ c. restart_time c ≤ now) (take from restarts)
      → AllByRecursion (λ c. restart_time c ≤ now) (take to restarts)
  pub last : MatchOption master (to ≡ from)
      (λ m. (from < to) × ((d : List ℕ) → last_of d (map (λ c. c.1) (take to restarts)) ≡ m))

-- the next change of a route is made, which is that of a prefix to a link
pub record IsMoved (now : ℕ) (old new : Changes) (to : Prefix × ℕ) : Type 0 where
  pub within : old.moved < length old.moves.items
  pub on : new.moved ≡ old.moved + 1
  pub rest : (new.moves ≡ old.moves) × (new.boot ≡ old.boot)
  pub time : (d : Time × Prefix × ℕ) → (get_or old.moves.items old.moved d).0.0 ≤ now
  pub prefix : (d : Time × Prefix × ℕ) → (get_or old.moves.items old.moved d).1 ≡ to.0
  pub link : (d : Time × Prefix × ℕ) → (get_or old.moves.items old.moved d).2 ≡ to.1

-- what stays while changes are made: the router stands for the log that it stood for
pub record StandsOn (now : ℕ) (old new : Routed) : Type 0 where
  pub by : IsRoutedBy now new
  pub stands : (log : List Entry) → StandsAsRouter old log → StandsAsRouter new log
  pub same : (new.router.built ≡ old.router.built) × (new.next ≡ old.next) × (new.changes.moves ≡ old.changes.moves)

-- all changes up to a time are made
pub record IsUpTo (now : ℕ) (r : Routed) : Type 0 where
  pub boot : r.changes.boot ≡ boot_at r.router.built now
  pub plan : r.router.plan ≡ in_force r.router.built now
