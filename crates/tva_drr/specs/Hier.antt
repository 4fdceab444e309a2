-- Product: what is true of all two-level queues, at every moment.
use Rattle.std.specs.Prelude.{◌≡◌, ℕ, ◌+◌, ◌^◌, ◌<◌, ◌≤◌, false, List, [], ◌∷◌, length}
use Rattle.std.specs.List.{AllByRecursion}
use Rattle.tva_base.specs.declared.limits.DrrLimits.{DrrLimits}
use Rattle.tva_base.specs.Plan.{AreDrrLimits}
use Rattle.tva_drr.specs.Queues.{Fair}
use Rattle.tva_drr.specs.Fair.{IsFair}
use Rattle.tva_drr.specs.Service.{head_bytes}
use Rattle.tva_drr.specs.Groups.{Group, Hier, inner_limits, has_group, all_group_bytes}

module _ {T : Type 0} (measure : T → ℕ) (l : DrrLimits) (inner : ℕ) where
  -- the queues of a group are fair queues under the limits of one group, and something waits in them
  pub record AreInner (f : Fair T) : Type 0 where
    pub limits : f.limits ≡ inner_limits l inner
    pub fair : IsFair measure f
    pub filled : 1 ≤ length f.queues

  -- each group has such queues and a key of its own
  abbrev pub AreGroups : List (Group T) → Type 0
  AreGroups [] = Unit {0}
  AreGroups (g ∷ gs) = AreInner g.queues × (has_group g.key gs ≡ false) × AreGroups gs

  -- the deficit of a group behind the front is below the greatest length
  abbrev pub AreGroupsBehind : List (Group T) → Type 0
  AreGroupsBehind gs = AllByRecursion (λ g. g.deficit < l.max) gs

  -- the front's deficit covers what its queues send next. It is below the greatest length and the
  -- quantum together, so no deficit passes 2 ^ 31
  abbrev pub HasGroupTurn : List (Group T) → Type 0
  HasGroupTurn [] = Unit {0}
  HasGroupTurn (g ∷ gs) =
      (head_bytes measure g.queues.queues ≤ g.deficit) × (g.deficit < l.max + l.quantum) × AreGroupsBehind gs

  pub record AreHier (gs : List (Group T)) : Type 0 where
    pub few : length gs ≤ l.queues
    pub each : AreGroups gs
    pub turn : HasGroupTurn gs
    pub bytes : all_group_bytes measure gs ≤ l.class_bytes

-- the groups and their queues are within the limits, and the front may send its next item
pub record IsHier {T : Type 0} (measure : T → ℕ) (h : Hier T) : Type 0 where
  pub limits : AreDrrLimits h.limits
  pub inner : (1 ≤ h.inner) × (h.inner ≤ 2 ^ 30)
  pub groups : AreHier measure h.limits h.inner h.groups
