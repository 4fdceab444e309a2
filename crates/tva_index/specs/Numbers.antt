-- Kit: the numbers by which the places of keys in a ring are found.
use Rattle.std.specs.Prelude.{◌≡◌, ℕ, ◌+◌, ◌%◌, ◌^◌, ◌<◌, ◌≤◌, List, length, slice_index, Option, Some}
use Rattle.tva_index.specs.declared.bits.Numbered.{Numbered}
use Rattle.tva_index.specs.Bits.{entry_at, numbered, IsKeyTree}

-- the keys have the numbers from the first on, and no other key has one
pub record AreNumbered (places first : ℕ) (keys : List ℕ)
    (links : List (Option ℕ)) (es : List (Option Numbered)) (free : List ℕ) : Type 0 where
  pub few : places ≤ 2 ^ 30
  pub start : first < 2 ^ 32
  pub tree : IsKeyTree links es free
  pub count : length free + length keys ≡ places
  pub each : (i : ℕ) → i < length keys
      → (p : ℕ) × (entry_at es p ≡ Some (numbered (slice_index keys i) ((first + i) % 2 ^ 32)))
  pub only : (p : ℕ) (n : Numbered) → entry_at es p ≡ Some n
      → (i : ℕ) × (i < length keys) × (slice_index keys i ≡ n.key) × (n.number ≡ (first + i) % 2 ^ 32)
