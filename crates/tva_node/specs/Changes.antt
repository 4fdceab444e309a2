-- Crate: which of the changes of a router's plan are made.
use Rattle.std.specs.Prelude.{◌≡◌, ℕ, ◌≤◌, List, All, Contains, map, take, length}
use Rattle.std.specs.List.{AllByRecursion}
use Rattle.tva_base.specs.declared.addresses.Prefix.{Prefix}
use Rattle.tva_base.specs.declared.packet.Time.{Time}
use Rattle.tva_base.specs.declared.plan.Route.{Route}
use Rattle.tva_base.specs.declared.plan.RouterPlan.{RouterPlan}
use Rattle.tva_base.specs.Changes.{changed_plan, last_of, of_prefix}
use Rattle.tva_run.specs.Joins.{NeverFalls}

abbrev pub restart_time : Time × List ℕ → ℕ
restart_time c = c.0.0

abbrev pub move_time : Time × Prefix × ℕ → ℕ
move_time c = c.0.0

-- changes of routes by time: they are those of a plan, and those of a prefix stay in their order
pub record AreByTime (file moves : List (Time × Prefix × ℕ)) : Type 0 where
  pub times : NeverFalls move_time moves
  pub same : (prefix : Prefix) → of_prefix prefix moves ≡ of_prefix prefix file
  pub there : All (Contains file) moves

-- the first so many of some changes are made, and none of these is later than a time
pub record AreMade {X : Type 0} (time : X → ℕ) (changes : List X) (count now : ℕ) : Type 0 where
  pub few : count ≤ length changes
  pub come : AllByRecursion (λ c. time c ≤ now) (take count changes)

-- a route after these changes
abbrev pub route_after : List (Time × Prefix × ℕ) → Route → Route
route_after moves route =
    record route { link = last_of route.link (map (λ c. c.2) (of_prefix route.prefix moves)) }

-- a plan after so many of its restarts, and after these changes of routes
abbrev pub plan_after : RouterPlan → ℕ → List (Time × Prefix × ℕ) → RouterPlan
plan_after plan boot moves =
    changed_plan (last_of plan.master (map (λ c. c.1) (take boot plan.restarts)))
    (map (route_after moves) plan.routes) plan
