-- Product: two-level fair queues as one list in ring order: behind each outer key stand fair queues by inner keys.
use Rattle.std.specs.Prelude.{ℕ, ◌==◌, Bool, true, false, if◌then◌else◌, List, [], ◌∷◌, sum_by, Option, None}
use Rattle.tva_base.specs.declared.limits.DrrLimits.{DrrLimits}
use Rattle.tva_drr.specs.Queues.{Fair, fair, items_of, all_bytes, head}

-- an outer key, how many bytes its group may still send, and the group's fair queues
pub record Group (T : Type 0) : Type 0 where
  pub key : ℕ
  pub deficit : ℕ
  pub queues : Fair T

-- the groups in ring order, the front first, under their limits; a group has at most `inner` queues
pub record Hier (T : Type 0) : Type 0 where
  pub limits : DrrLimits
  pub inner : ℕ
  pub groups : List (Group T)

-- the limits of one group: so many queues, and all else as for the whole
abbrev pub inner_limits : DrrLimits → ℕ → DrrLimits
inner_limits l inner = record l { queues = inner }

module _ {T : Type 0} where
  abbrev pub group : ℕ → ℕ → Fair T → Group T
  group key deficit queues = record { key = key; deficit = deficit; queues = queues }

  abbrev pub hier : DrrLimits → ℕ → List (Group T) → Hier T
  hier limits inner groups = record { limits = limits; inner = inner; groups = groups }

  -- the outer key has a group
  abbrev pub has_group : ℕ → List (Group T) → Bool
  has_group outer [] = false
  has_group outer (g ∷ gs) = if g.key == outer then true else has_group outer gs

  -- the fair queues of the outer key's group, empty under these limits where it has none
  abbrev pub queues_of : DrrLimits → ℕ → List (Group T) → Fair T
  queues_of l outer [] = fair l []
  queues_of l outer (g ∷ gs) = if g.key == outer then g.queues else queues_of l outer gs

  abbrev pub fair_of : Hier T → ℕ → Fair T
  fair_of h outer = queues_of (inner_limits h.limits h.inner) outer h.groups

  -- the items under two keys, oldest first
  abbrev pub items_under : Hier T → ℕ → ℕ → List T
  items_under h outer inner = items_of inner (fair_of h outer).queues

  -- the bytes of a group, and of all groups
  abbrev pub group_bytes : (T → ℕ) → Group T → ℕ
  group_bytes measure g = all_bytes measure g.queues.queues

  abbrev pub all_group_bytes : (T → ℕ) → List (Group T) → ℕ
  all_group_bytes measure gs = sum_by (group_bytes measure) gs

  -- what the next take gives: the item that a take from the front's fair queues gives
  abbrev pub next : List (Group T) → Option T
  next [] = None
  next (g ∷ gs) = head g.queues.queues
