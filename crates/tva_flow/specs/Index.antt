-- Kit: entries at their places, each found by its flow and by a number that is no later than its end, for the
-- contracts of the functions on them.
use Rattle.std.specs.Prelude.{◌≡◌, ℕ, ◌+◌, ◌*◌, ◌<◌, ◌≤◌, List, length, slice_index, slice_index_or, Option, Some, None}
use Rattle.tva_index.specs.Buckets.{Placed, home}
use Rattle.tva_flow.specs.declared.hash.HashKey.{HashKey}
use Rattle.tva_flow.specs.declared.kept.Entry.{Entry}
use Rattle.tva_flow.specs.Hash.{bucket_of}

-- the entries, how many there may be, and the key by which they are found
pub record Kept : Type 0 where
  pub slots : ℕ
  pub key : HashKey
  pub items : List Entry

abbrev pub kept : ℕ → HashKey → List Entry → Kept
kept slots key items = record { slots = slots; key = key; items = items }

-- the number at a place is no later than the end of the entry there
abbrev pub AreNoLater : List ℕ → List Entry → Type 0
AreNoLater ends es = (i : ℕ) (e : Entry) → i < length es → e ≡ slice_index_or es i e → slice_index ends i ≤ e.end

-- each place stands in the bucket of its entry's flow, and has a number that is no later than its entry's end
pub record AreIndexed (slots : ℕ) (key : HashKey) (es : List Entry) (buckets : Placed) (ends : List ℕ) : Type 0 where
  pub count : buckets.count ≡ 2 * slots + 1
  pub homes : length buckets.homes ≡ slots
  pub numbers : length ends ≡ slots
  pub few : length es ≤ slots
  pub found : (i : ℕ) (e : Entry) → i < length es → e ≡ slice_index_or es i e
      → home buckets.homes i ≡ Some (bucket_of (2 * slots + 1) key e.grant.flow)
  pub within : (i b : ℕ) → home buckets.homes i ≡ Some b → i < length es
  pub until : AreNoLater ends es

-- what a walk through a bucket has left, from that place down
abbrev pub IsUpTo : Option ℕ → ℕ → Type 0
IsUpTo None i = ⊥
IsUpTo (Some p) i = i ≤ p
