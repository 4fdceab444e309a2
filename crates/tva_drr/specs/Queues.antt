-- Product: fair queues as one list in ring order.
use Rattle.std.specs.Prelude.{ℕ, ◌==◌, Bool, true, false, if◌then◌else◌, List, [], ◌∷◌, sum_by, Option, Some, None}
use Rattle.tva_base.specs.declared.limits.DrrLimits.{DrrLimits}

-- the items that wait under a key, oldest first, and how many bytes the queue may still send
pub record Queue (T : Type 0) : Type 0 where
  pub key : ℕ
  pub deficit : ℕ
  pub items : List T

-- the queues in ring order, the front first, under their limits
pub record Fair (T : Type 0) : Type 0 where
  pub limits : DrrLimits
  pub queues : List (Queue T)

module _ {T : Type 0} where
  abbrev pub queue : ℕ → ℕ → List T → Queue T
  queue key deficit items = record { key = key; deficit = deficit; items = items }

  abbrev pub fair : DrrLimits → List (Queue T) → Fair T
  fair limits queues = record { limits = limits; queues = queues }

  -- the key has a queue
  abbrev pub has_key : ℕ → List (Queue T) → Bool
  has_key key [] = false
  has_key key (q ∷ qs) = if q.key == key then true else has_key key qs

  -- the items of the key, none where it has no queue
  abbrev pub items_of : ℕ → List (Queue T) → List T
  items_of key [] = []
  items_of key (q ∷ qs) = if q.key == key then q.items else items_of key qs

  -- the bytes of some items, of a queue, and of all queues
  abbrev pub bytes_in : (T → ℕ) → List T → ℕ
  bytes_in measure items = sum_by measure items

  abbrev pub queue_bytes : (T → ℕ) → Queue T → ℕ
  queue_bytes measure q = bytes_in measure q.items

  abbrev pub all_bytes : (T → ℕ) → List (Queue T) → ℕ
  all_bytes measure qs = sum_by (queue_bytes measure) qs

  -- the first of some items
  abbrev pub first : List T → Option T
  first [] = None
  first (x ∷ xs) = Some x

  -- the front's first item, which a take gives
  abbrev pub head : List (Queue T) → Option T
  head [] = None
  head (q ∷ qs) = first q.items
