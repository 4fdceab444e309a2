-- Crate: a measure of the bytes that may still go, up to what a key has yet to send. It falls at each take by what
-- is taken, and no offer changes it.
use Rattle.std.specs.Prelude.{◌≡◌, ℕ, ◌+◌, ◌≤◌, List, map, MatchBool}
use Rattle.tva_base.specs.declared.limits.DrrLimits.{DrrLimits}
use Rattle.tva_drr.specs.Queues.{Queue, items_of}
use Rattle.tva_drr.specs.Take.{taken}
use Rattle.tva_drr.specs.Service.{is_front, first_bytes, head_bytes}
use Rattle.tva_drr.specs.Turns.{Turn, turn, ahead}

module _ {T : Type 0} where
  -- the turns of queues
  abbrev pub turns_of : List (Queue T) → List Turn
  turns_of qs = map (λ q. turn q.key q.deficit) qs

  -- the bytes that may still go before and with the key's next so many bytes
  abbrev pub bytes_ahead : DrrLimits → ℕ → ℕ → List (Queue T) → ℕ
  bytes_ahead l key bytes qs = ahead l key bytes (turns_of qs)

  -- of so many bytes that the key has yet to send, so many are left after a take: fewer by the item's
  -- where its own item goes, and then no fewer than its next item has
  abbrev pub IsLeft : (T → ℕ) → DrrLimits → ℕ → ℕ → ℕ → List (Queue T) → Type 0
  IsLeft measure l key bytes left qs =
      MatchBool (is_front key qs)
      ((head_bytes measure qs + left ≡ bytes) × (first_bytes measure (items_of key (taken measure l.quantum qs)) ≤ left))
      (left ≡ bytes)
