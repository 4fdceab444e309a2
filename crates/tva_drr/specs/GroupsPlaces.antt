-- Kit: groups as turns over fair queues, and where an outer key's group stands in the list, for the invariant and the
-- contracts of the functions on them.
use Rattle.std.specs.Prelude.{◌≡◌, ℕ, ◌<◌, false, List, length, map, take, slice_index_or, Option, Some, None}
use Rattle.tva_drr.specs.declared.offered.Offered.{Offered}
use Rattle.tva_drr.specs.declared.offered.Offered.TheVariants.{Queued, NoQueue, QueueFull}
use Rattle.tva_drr.specs.declared.served.Served.{Served}
use Rattle.tva_drr.specs.Queues.{Fair}
use Rattle.tva_drr.specs.Groups.{Group, group, has_group}

module _ {T : Type 0} where
  -- the groups of some turns
  abbrev pub groups_in : List (Served (Fair T)) → List (Group T)
  groups_in ts = map (λ t. group t.key t.deficit t.source) ts

  -- the place of the outer key's group
  abbrev pub IsGroupPlace : ℕ → List (Group T) → Option ℕ → Type 0
  IsGroupPlace outer gs None = has_group outer gs ≡ false
  IsGroupPlace outer gs (Some at) =
      (at < length gs) × (has_group outer (take at gs) ≡ false) × ((g : Group T) → g ≡ slice_index_or gs at g → g.key ≡ outer)

  -- the bytes that are more after an offer with this answer
  abbrev pub added : Offered T → ℕ → ℕ
  added Queued m = m
  added (NoQueue x) m = 0
  added (QueueFull x) m = 0
