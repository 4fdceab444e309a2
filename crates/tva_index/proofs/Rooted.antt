-- The tree of keys at first.
use Rattle.tva_index.proofs.Common.{◌≡◌, ℕ, ◌+◌, ◌*◌, ◌^◌, ◌<◌, ◌≤◌, List, length, get_or, replicate, Option, None, arith, cases_lt, get_or_past, get_or-replicate, length-replicate, Numbered, IsKeyTree}
use Rattle.tva_index.proofs.Paths.{no_entry, no_link}

abbrev pub nothing : {X : Type 0} → Option X
nothing = None

pub none_at : {X : Type 0} (xs : List (Option X)) (n q : ℕ) → xs ≡ replicate n None → get_or xs q None ≡ None
none_at {X} xs n q e = grind (arith, cases_lt, get_or-replicate, get_or_past, length-replicate)

pub rooted_tree : (places : ℕ) (links : List (Option ℕ)) (es : List (Option Numbered)) (free : List ℕ) → places ≤ 2 ^ 30 → links ≡ replicate (2 * (places + 1)) None → es ≡ replicate (places + 1) None
    → length free ≡ places → ((i : ℕ) → i < places → get_or free i 0 ≡ i + 1) → IsKeyTree links es free
rooted_tree places links es free most f g n each = grind (arith, length-replicate, none_at, no_link, no_entry)
