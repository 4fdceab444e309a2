-- Kit: where a key's queue stands in the list, for the contracts of the functions that look it up.
use Rattle.std.specs.Prelude.{◌≡◌, ℕ, ◌<◌, false, List, length, take, slice_index_or, Option, Some, None}
use Rattle.tva_drr.specs.Queues.{Queue, has_key}

module _ {T : Type 0} where
  -- the place of the key's queue
  abbrev pub IsPlace : ℕ → List (Queue T) → Option ℕ → Type 0
  IsPlace key qs None = has_key key qs ≡ false
  IsPlace key qs (Some at) = (at < length qs) × (has_key key (take at qs) ≡ false)
      × ((q : Queue T) → q ≡ slice_index_or qs at q → q.key ≡ key)
