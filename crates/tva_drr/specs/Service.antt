-- Product: how fair queues serve a key, whatever is offered to them.
use Rattle.std.specs.Prelude.{◌≡◌, ℕ, zero, suc, ◌+◌, ◌-◌, ◌*◌, ◌≤◌, ◌==◌, Bool, true, false, if◌then◌else◌, List, []}
use Rattle.std.specs.Prelude.{◌∷◌}
use Rattle.std.specs.Int.{div_ceil}
use Rattle.tva_base.specs.declared.limits.DrrLimits.{DrrLimits}
use Rattle.tva_drr.specs.Queues.{Queue, Fair, has_key}
use Rattle.tva_drr.specs.Offer.{offer_leaves}
use Rattle.tva_drr.specs.Take.{take_leaves}

-- an item is offered under a key, or the next item is taken
pub data Step (T : Type 0) : Type 0 where
  Offer : (key : ℕ) (item : T) → Step T
  Take : Step T

module _ {T : Type 0} where
  -- the key's queue stands at the front
  abbrev pub is_front : ℕ → List (Queue T) → Bool
  is_front key [] = false
  is_front key (q ∷ qs) = q.key == key

  module _ (measure : T → ℕ) where
    abbrev pub first_bytes : List T → ℕ
    first_bytes [] = 0
    first_bytes (x ∷ xs) = measure x

    -- the bytes of the item that a take gives
    abbrev pub head_bytes : List (Queue T) → ℕ
    head_bytes [] = 0
    head_bytes (q ∷ qs) = first_bytes q.items

    -- what a step leaves
    abbrev pub step_leaves : Fair T → Step T → Fair T
    step_leaves f (Offer key item) = offer_leaves measure f key item
    step_leaves f Take = take_leaves measure f

    -- each item that is offered has a length from 1 to the greatest
    abbrev pub AreOffers : ℕ → List (Step T) → Type 0
    AreOffers most [] = Unit {0}
    AreOffers most (Offer key item ∷ ss) = ((1 ≤ measure item) × (measure item ≤ most)) × AreOffers most ss
    AreOffers most (Take ∷ ss) = AreOffers most ss

    -- the bytes that these steps take from all queues up to the n-th item of the key, and with it
    abbrev pub bytes_until : ℕ → ℕ → Fair T → List (Step T) → ℕ
    bytes_until key zero f ss = 0
    bytes_until key (suc n) f [] = 0
    bytes_until key (suc n) f (Offer k x ∷ ss) = bytes_until key (suc n) (step_leaves f (Offer k x)) ss
    bytes_until key (suc n) f (Take ∷ ss) =
        head_bytes f.queues + bytes_until key (if is_front key f.queues then n else suc n) (step_leaves f Take) ss

    -- the bytes that these steps take from the key
    abbrev pub bytes_from : ℕ → Fair T → List (Step T) → ℕ
    bytes_from key f [] = 0
    bytes_from key f (Offer k x ∷ ss) = bytes_from key (step_leaves f (Offer k x)) ss
    bytes_from key f (Take ∷ ss) = (if is_front key f.queues then head_bytes f.queues else 0) + bytes_from key (step_leaves f Take) ss

    -- before and after each step something waits under the key
    abbrev pub AlwaysWaits : ℕ → Fair T → List (Step T) → Type 0
    AlwaysWaits key f [] = has_key key f.queues ≡ true
    AlwaysWaits key f (s ∷ ss) = (has_key key f.queues ≡ true) × AlwaysWaits key (step_leaves f s) ss

-- the most bytes that go up to an item and with it, where its queue has so many up to it and with it:
-- before each turn that these need, each other queue sends a quantum, and once less than the greatest
-- length more
abbrev pub most_until : DrrLimits → ℕ → ℕ
most_until l bytes = (l.queues - 1) * (div_ceil bytes l.quantum * l.quantum + l.max) + bytes
