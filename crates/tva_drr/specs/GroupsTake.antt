-- Product: a take of the front's next item.
use Rattle.std.specs.Prelude.{ℕ, ◌+◌, ◌-◌, nat_lt, if◌then◌else◌, List, [], ◌∷◌, ◌++◌}
use Rattle.tva_drr.specs.Queues.{Queue}
use Rattle.tva_drr.specs.Take.{take_leaves}
use Rattle.tva_drr.specs.Service.{first_bytes, head_bytes}
use Rattle.tva_drr.specs.Groups.{Group, Hier, group, hier}

module _ {T : Type 0} where
  -- the group that now stands at the front gets the quantum
  abbrev pub group_refilled : ℕ → List (Group T) → List (Group T)
  group_refilled quantum [] = []
  group_refilled quantum (g ∷ gs) = group g.key (g.deficit + quantum) g.queues ∷ gs

  module _ (measure : T → ℕ) where
    -- an item is taken from the group's fair queues, and the group's deficit falls by the item's length
    abbrev pub group_popped : Group T → Group T
    group_popped g = group g.key (g.deficit - head_bytes measure g.queues.queues) (take_leaves measure g.queues)

    abbrev pub front_popped : List (Group T) → List (Group T)
    front_popped [] = []
    front_popped (g ∷ gs) = group_popped g ∷ gs

    -- a front without queues leaves the list, with its deficit; one whose deficit is below the length of
    -- what its queues send next goes last with its deficit; another stays
    abbrev pub group_settled : ℕ → Group T → List (Queue T) → List (Group T) → List (Group T)
    group_settled quantum g [] gs = group_refilled quantum gs
    group_settled quantum g (q ∷ qs) gs =
        if nat_lt g.deficit (first_bytes measure q.items) then group_refilled quantum (gs ++ g ∷ []) else g ∷ gs

    abbrev pub front_settled : ℕ → List (Group T) → List (Group T)
    front_settled quantum [] = []
    front_settled quantum (g ∷ gs) = group_settled quantum g g.queues.queues gs

    -- the groups after a take
    abbrev pub groups_taken : ℕ → List (Group T) → List (Group T)
    groups_taken quantum gs = front_settled quantum (front_popped gs)

    -- what a take leaves
    abbrev pub left_by_take : Hier T → Hier T
    left_by_take h = hier h.limits h.inner (groups_taken h.limits.quantum h.groups)
