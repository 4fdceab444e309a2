-- Product: how two-level queues serve the items under two keys, whatever is offered to them: a measure of the bytes
-- that may still go, up to what the keys have yet to send. It falls at each take by what is taken, and no offer
-- changes it.
use Rattle.std.specs.Prelude.{◌≡◌, ℕ, zero, suc, ◌+◌, ◌≤◌, ◌==◌, Bool, false, ◌&&◌, if◌then◌else◌, List, [], ◌∷◌, map}
use Rattle.tva_base.specs.declared.limits.DrrLimits.{DrrLimits}
use Rattle.tva_drr.specs.Service.{is_front, first_bytes, head_bytes, most_until}
use Rattle.tva_drr.specs.Turns.{Turn, turn, ahead}
use Rattle.tva_drr.specs.Ahead.{bytes_ahead}
use Rattle.tva_drr.specs.Groups.{Group, Hier, inner_limits, fair_of, items_under}
use Rattle.tva_drr.specs.GroupsOffer.{left_by_offer}
use Rattle.tva_drr.specs.GroupsTake.{left_by_take}

-- an item is offered under two keys, or the next item is taken
pub data Step (T : Type 0) : Type 0 where
  Offer : (outer inner : ℕ) (item : T) → Step T
  Take : Step T

module _ {T : Type 0} where
  -- the turns of groups
  abbrev pub turns_of_groups : List (Group T) → List Turn
  turns_of_groups gs = map (λ g. turn g.key g.deficit) gs

  -- the bytes that may still go before and with the next so many bytes under two keys: what may go of
  -- their group before and with these, and what may go of all groups before and with that
  abbrev pub bytes_ahead_under : Hier T → ℕ → ℕ → ℕ → ℕ
  bytes_ahead_under h outer inner bytes =
      ahead h.limits outer (bytes_ahead (inner_limits h.limits h.inner) inner bytes (fair_of h outer).queues) (turns_of_groups h.groups)

  -- the outer key's group stands at the front, and in it the inner key's queue
  abbrev pub are_front : ℕ → ℕ → List (Group T) → Bool
  are_front outer inner [] = false
  are_front outer inner (g ∷ gs) = (g.key == outer) && is_front inner g.queues.queues

  module _ (measure : T → ℕ) where
    -- the bytes of the item that a take gives
    abbrev pub next_bytes : List (Group T) → ℕ
    next_bytes [] = 0
    next_bytes (g ∷ gs) = head_bytes measure g.queues.queues

    -- of so many bytes that two keys have yet to send, so many are left after a take: fewer by the item's
    -- where it is theirs, and no fewer than their next item has
    abbrev pub IsLeftUnder : Hier T → ℕ → ℕ → ℕ → ℕ → Type 0
    IsLeftUnder h outer inner bytes left =
        (left + (if are_front outer inner h.groups then next_bytes h.groups else 0) ≡ bytes)
        × (first_bytes measure (items_under (left_by_take measure h) outer inner) ≤ left)

    -- what a step leaves
    abbrev pub step_leaves : Hier T → Step T → Hier T
    step_leaves h (Offer outer inner item) = left_by_offer measure h outer inner item
    step_leaves h Take = left_by_take measure h

    -- each item that is offered has a length from 1 to the greatest
    abbrev pub AreOffers : ℕ → List (Step T) → Type 0
    AreOffers most [] = Unit {0}
    AreOffers most (Offer outer inner item ∷ ss) = ((1 ≤ measure item) × (measure item ≤ most)) × AreOffers most ss
    AreOffers most (Take ∷ ss) = AreOffers most ss

    -- the bytes that these steps take from all queues up to the n-th item under two keys, and with it
    abbrev pub bytes_until : ℕ → ℕ → ℕ → Hier T → List (Step T) → ℕ
    bytes_until outer inner zero h ss = 0
    bytes_until outer inner (suc n) h [] = 0
    bytes_until outer inner (suc n) h (Offer o i x ∷ ss) = bytes_until outer inner (suc n) (step_leaves h (Offer o i x)) ss
    bytes_until outer inner (suc n) h (Take ∷ ss) =
        next_bytes h.groups + bytes_until outer inner (if are_front outer inner h.groups then n else suc n) (step_leaves h Take) ss

-- the most bytes that go up to an item and with it, where so many wait under its keys up to it and with it:
-- the most of its group, and of all groups up to these
abbrev pub most_until_under : DrrLimits → ℕ → ℕ → ℕ
most_until_under l inner bytes = most_until l (most_until (inner_limits l inner) bytes)
