-- Product: an offer of an item with an outer and an inner key.
use Rattle.std.specs.Prelude.{ℕ, ◌+◌, ◌==◌, nat_lt, nat_le, Bool, not, ◌&&◌, ◌||◌, if◌then◌else◌, List, [], ◌∷◌, length}
use Rattle.tva_base.specs.declared.limits.DrrLimits.{DrrLimits}
use Rattle.tva_drr.specs.declared.offered.Offered.{Offered}
use Rattle.tva_drr.specs.declared.offered.Offered.TheVariants.{Queued, NoQueue, QueueFull}
use Rattle.tva_drr.specs.Queues.{Fair, fair}
use Rattle.tva_drr.specs.Offer.{lacks_queue, lacks_room, offer_leaves}
use Rattle.tva_drr.specs.Groups.{Group, Hier, group, hier, inner_limits, has_group, fair_of, all_group_bytes}

module _ {T : Type 0} where
  -- the outer key has no group, and there are as many groups as there may be
  abbrev pub lacks_group : Hier T → ℕ → Bool
  lacks_group h outer = not (has_group outer h.groups) && nat_le h.limits.queues (length h.groups)

  -- there is no group for the outer key, or no queue in its group for the inner key
  abbrev pub lacks_place : Hier T → ℕ → ℕ → Bool
  lacks_place h outer inner = lacks_group h outer || lacks_queue (fair_of h outer) inner

  -- with the item its queue would hold too many items or bytes, or all queues of all groups too many bytes
  abbrev pub lacks_space : (T → ℕ) → Hier T → ℕ → ℕ → T → Bool
  lacks_space measure h outer inner item =
      lacks_room measure (fair_of h outer) inner item
      || nat_lt h.limits.class_bytes (all_group_bytes measure h.groups + measure item)

  -- the outer key's fair queues become what `change` makes of them; a new outer key has empty ones and
  -- goes last in the list, with the deficit `start` where the list was empty, and else with 0
  abbrev pub changed : (Fair T → Fair T) → DrrLimits → ℕ → ℕ → List (Group T) → List (Group T)
  changed change l start outer [] = group outer start (change (fair l [])) ∷ []
  changed change l start outer (g ∷ gs) =
      if g.key == outer then group g.key g.deficit (change g.queues) ∷ gs else g ∷ changed change l 0 outer gs

  -- the item is offered to the fair queues of its outer key
  abbrev pub put_under : (T → ℕ) → Hier T → ℕ → ℕ → T → List (Group T)
  put_under measure h outer inner item =
      changed (λ f. offer_leaves measure f inner item) (inner_limits h.limits h.inner) h.limits.quantum outer h.groups

  -- what an offer answers
  abbrev pub answer_to_offer : (T → ℕ) → Hier T → ℕ → ℕ → T → Offered T
  answer_to_offer measure h outer inner item =
      if lacks_place h outer inner then NoQueue item
      else (if lacks_space measure h outer inner item then QueueFull item else Queued)

  -- what an offer leaves
  abbrev pub left_by_offer : (T → ℕ) → Hier T → ℕ → ℕ → T → Hier T
  left_by_offer measure h outer inner item =
      if lacks_place h outer inner then h
      else if lacks_space measure h outer inner item then h
      else hier h.limits h.inner (put_under measure h outer inner item)
