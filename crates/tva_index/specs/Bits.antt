-- Kit: a tree of keys by their bits, for the invariant and the contracts of the functions on it.
use Rattle.std.specs.Prelude.{◌≡◌, ℕ, zero, suc, ◌+◌, ◌*◌, ◌/◌, ◌%◌, ◌^◌, ◌<◌, ◌≤◌, List, [], ◌∷◌, length, map}
use Rattle.std.specs.Prelude.{slice_index, slice_index_or, slice_set, Option, Some, None, option_and_then}
use Rattle.tva_index.specs.declared.bits.Numbered.{Numbered}
use Rattle.tva_index.specs.declared.bits.Place.{Place}
use Rattle.tva_index.specs.declared.bits.Led.{Led}
use Rattle.tva_index.specs.declared.bits.End.{End}
use Rattle.tva_index.specs.declared.bits.End.TheVariants.{Found, Missing}

abbrev pub numbered : ℕ → ℕ → Numbered
numbered key number = record { key = key; number = number }

-- where a number of a link leads, and by a bit the one or the other link of a place
abbrev pub led_to : ℕ → Option ℕ
led_to zero = None
led_to (suc p) = Some (suc p)

abbrev pub way_on : Place → ℕ → Option ℕ
way_on place zero = led_to place.low
way_on place (suc _) = led_to place.high

-- the links of places, two of each, and their entries
abbrev pub links_of : List Place → List (Option ℕ)
links_of [] = []
links_of (p ∷ ps) = led_to p.low ∷ led_to p.high ∷ links_of ps

abbrev pub entries_of : List Place → List (Option Numbered)
entries_of ps = map (λ p. p.entry) ps

-- a place at first
abbrev pub unused_place : Place
unused_place = record { low = 0; high = 0; entry = None }

-- where a link leads, and what stands at a place
abbrev pub link_at : List (Option ℕ) → ℕ → Option ℕ
link_at links link = slice_index_or links link None

abbrev pub entry_at : List (Option Numbered) → ℕ → Option Numbered
entry_at es p = slice_index_or es p None

-- the entry is the key's, and no entry is
abbrev pub HasKey : ℕ → Option Numbered → Type 0
HasKey key None = ⊥
HasKey key (Some n) = n.key ≡ key

abbrev pub IsAbsent : List (Option Numbered) → ℕ → Type 0
IsAbsent es key = (p : ℕ) → HasKey key (entry_at es p) → ⊥

-- a key without so many of its lowest bits
abbrev pub bits_past : ℕ → ℕ → ℕ
bits_past key zero = key
bits_past key (suc depth) = bits_past key depth / 2

-- the link that a walk to the key takes from a place after so many steps
abbrev pub link_by : ℕ → ℕ → ℕ → ℕ
link_by key depth at = 2 * at + bits_past key depth % 2

-- where so many steps lead from the first place
abbrev pub spot : List (Option ℕ) → ℕ → ℕ → Option ℕ
spot links key zero = Some 0
spot links key (suc depth) = option_and_then (λ at. link_at links (link_by key depth at)) (spot links key depth)

-- a free place has no entry, and no link leads on from it
pub record IsFree (links : List (Option ℕ)) (es : List (Option Numbered)) (p : ℕ) : Type 0 where
  pub behind : 0 < p
  pub within : p < length es
  pub entry : entry_at es p ≡ None
  pub low : link_at links (2 * p) ≡ None
  pub high : link_at links (2 * p + 1) ≡ None

-- a link leads to a place with an entry, which no other link leads to, and the walk to each key to its
-- place; the first place has no entry; the free places are different ones
pub record IsKeyTree (links : List (Option ℕ)) (es : List (Option Numbered)) (free : List ℕ) : Type 0 where
  pub sizes : length links ≡ 2 * length es
  pub some : 1 ≤ length es
  pub few : length es ≤ 2 ^ 31
  pub first : entry_at es 0 ≡ None
  pub leads : (e p : ℕ) → link_at links e ≡ Some p
      → (0 < p) × (p < length es) × (n : Numbered) × (entry_at es p ≡ Some n)
  pub once : (e f p : ℕ) → link_at links e ≡ Some p → link_at links f ≡ Some p → e ≡ f
  pub reached : (p : ℕ) (n : Numbered) → entry_at es p ≡ Some n
      → (depth : ℕ) × (depth ≤ 32) × (spot links n.key depth ≡ Some p)
  pub alone : (p q : ℕ) (n m : Numbered) → entry_at es p ≡ Some n → entry_at es q ≡ Some m → n.key ≡ m.key → p ≡ q
  pub small : (p : ℕ) (n : Numbered) → entry_at es p ≡ Some n → n.key < 2 ^ 32
  pub spare : (i : ℕ) → i < length free → IsFree links es (slice_index free i)
  pub apart : (i j : ℕ) → i < j → j < length free → slice_index free i ≡ slice_index free j → ⊥

-- a walk that ends at the key's place
pub record IsFound (links : List (Option ℕ)) (es : List (Option Numbered)) (key : ℕ) (led : Led) : Type 0 where
  pub depth : ℕ
  pub deep : (1 ≤ depth) × (depth ≤ 32)
  pub path : spot links key depth ≡ Some led.at
  pub link : link_at links led.link ≡ Some led.at
  pub entry : HasKey key (entry_at es led.at)

-- and one that ends at a link that leads nowhere
pub record IsMissing (links : List (Option ℕ)) (es : List (Option Numbered)) (key link : ℕ) : Type 0 where
  pub depth : ℕ
  pub deep : depth < 32
  pub at : ℕ
  pub path : spot links key depth ≡ Some at
  pub by : link ≡ link_by key depth at
  pub nowhere : link_at links link ≡ None
  pub within : link < length links
  pub absent : IsAbsent es key

abbrev pub IsEnd : List (Option ℕ) → List (Option Numbered) → ℕ → End → Type 0
IsEnd links es key (Found led) = IsFound links es key led
IsEnd links es key (Missing link) = IsMissing links es key link

-- the walk to the key at the place goes by that one, after so many steps or more
pub record IsBelow (links : List (Option ℕ)) (es : List (Option Numbered)) (above : ℕ) (led : Led) (steps : ℕ)
    : Type 0 where
  pub key : Numbered
  pub entry : entry_at es led.at ≡ Some key
  pub link : link_at links led.link ≡ Some led.at
  pub depth : ℕ
  pub path : spot links key.key depth ≡ Some led.at
  pub passed : ℕ
  pub by : spot links key.key passed ≡ Some above
  pub long : passed + steps ≤ depth
  pub deep : (1 ≤ passed) × (depth ≤ 32)

-- and no link leads on
pub record IsLeafBelow (links : List (Option ℕ)) (es : List (Option Numbered)) (above : ℕ) (led : Led) : Type 0 where
  pub below : IsBelow links es above led 0
  pub low : link_at links (2 * led.at) ≡ None
  pub high : link_at links (2 * led.at + 1) ≡ None

-- the key got a place that had no entry
pub record IsPut (key number : ℕ) (old new : List (Option Numbered)) : Type 0 where
  pub at : ℕ
  pub within : at < length old
  pub free : entry_at old at ≡ None
  pub is : new ≡ slice_set old at (Some (numbered key number))

-- the key has another number, at its place
pub record IsWritten (key number : ℕ) (old new : List (Option Numbered)) : Type 0 where
  pub at : ℕ
  pub within : at < length old
  pub entry : HasKey key (entry_at old at)
  pub is : new ≡ slice_set old at (Some (numbered key number))

-- the key is gone, and what else there was is there
pub record IsWithout (key : ℕ) (old new : List (Option Numbered)) : Type 0 where
  pub gone : IsAbsent new key
  pub kept : (p : ℕ) (n : Numbered) → entry_at old p ≡ Some n → (n.key ≡ key → ⊥) → (q : ℕ) × (entry_at new q ≡ Some n)
  pub was : (q : ℕ) (n : Numbered) → entry_at new q ≡ Some n → (p : ℕ) × (entry_at old p ≡ Some n)
