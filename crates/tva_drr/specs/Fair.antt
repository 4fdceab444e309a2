-- Product: what is true of all fair queues, at every moment.
use Rattle.std.specs.Prelude.{◌≡◌, ℕ, ◌+◌, ◌<◌, ◌≤◌, false, List, [], ◌∷◌, length}
use Rattle.std.specs.List.{AllByRecursion}
use Rattle.tva_base.specs.declared.limits.DrrLimits.{DrrLimits}
use Rattle.tva_base.specs.Plan.{AreDrrLimits}
use Rattle.tva_drr.specs.Queues.{Queue, Fair, has_key, bytes_in, all_bytes}

module _ {T : Type 0} (measure : T → ℕ) (l : DrrLimits) where
  -- each item has a length from 1 to the greatest
  abbrev pub AreMeasured : List T → Type 0
  AreMeasured items = AllByRecursion (λ x. (1 ≤ measure x) × (measure x ≤ l.max)) items

  -- a queue is within its limits, and not empty
  pub record IsQueue (q : Queue T) : Type 0 where
    pub filled : 1 ≤ length q.items
    pub ring : length q.items ≤ l.ring
    pub bytes : bytes_in measure q.items ≤ l.queue_bytes
    pub measured : AreMeasured q.items

  -- each queue is within its limits and has a key of its own
  abbrev pub AreQueues : List (Queue T) → Type 0
  AreQueues [] = Unit {0}
  AreQueues (q ∷ qs) = IsQueue q × (has_key q.key qs ≡ false) × AreQueues qs

  -- the deficit of a queue behind the front is below the greatest length
  abbrev pub AreBehind : List (Queue T) → Type 0
  AreBehind qs = AllByRecursion (λ q. q.deficit < l.max) qs

  -- the deficit covers the first item
  abbrev pub Covers : ℕ → List T → Type 0
  Covers deficit [] = Unit {0}
  Covers deficit (x ∷ xs) = measure x ≤ deficit

  -- the front's deficit covers its head. It is below the greatest length and the quantum
  -- together, so no deficit passes 2 ^ 31
  abbrev pub HasTurn : List (Queue T) → Type 0
  HasTurn [] = Unit {0}
  HasTurn (q ∷ qs) = Covers q.deficit q.items × (q.deficit < l.max + l.quantum) × AreBehind qs

  pub record AreFair (qs : List (Queue T)) : Type 0 where
    pub few : length qs ≤ l.queues
    pub each : AreQueues qs
    pub turn : HasTurn qs
    pub bytes : all_bytes measure qs ≤ l.class_bytes

-- the queues are within the limits, and the front may send its first item
pub record IsFair {T : Type 0} (measure : T → ℕ) (f : Fair T) : Type 0 where
  pub limits : AreDrrLimits f.limits
  pub queues : AreFair measure f.limits f.queues
