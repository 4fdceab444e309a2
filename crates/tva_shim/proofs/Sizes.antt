-- How many bytes a layout has.
use Rattle.tva_shim.proofs.Common.{◌≡◌, ℕ, ◌+◌, ◌*◌, List, [], ◌∷◌, length, refl, arith, length-append, flat_map, length-bytes_high_first, Rights, rights_number, rights_size, Entry, Shown, Kind, ReturnInfo, ShimData, two_bytes, six_bytes, eight_bytes, number_bytes, rights_bytes, entry_bytes, shown_bytes, kind_bytes, return_bytes, layout, kind_size, return_size, shim_size}

pub length-two_bytes : (n : ℕ) → length (two_bytes n) ≡ 2
unfolding two_bytes
length-two_bytes n = refl

pub length-six_bytes : (n : ℕ) → length (six_bytes n) ≡ 6
unfolding six_bytes
length-six_bytes n = refl

pub length-eight_bytes : (n : ℕ) → length (eight_bytes n) ≡ 8
unfolding eight_bytes
length-eight_bytes n = refl

length-rights : (version : ℕ) (r : Rights) → length (rights_bytes version r) ≡ rights_size version
unfolding number_bytes
length-rights version r = length-bytes_high_first (rights_size version) (rights_number version r)

-- what is made of each element has the same number of bytes
pub length-flat_map : {A : Type 0} (k : ℕ) (f : A → List ℕ) → ((a : A) → length (f a) ≡ k) → (xs : List A) → length (flat_map f xs) ≡ k * length xs
length-flat_map k f each [] = omega arith
length-flat_map k f each (x ∷ xs) = grind (arith, length-append, flat_map, length-flat_map k f each xs)

length-entry : (e : Entry) → length (entry_bytes e) ≡ 10
length-entry e = omega (arith, length-append (two_bytes e.tag) (eight_bytes e.precap), length-two_bytes e.tag, length-eight_bytes e.precap)

length-shown : (version : ℕ) (s : Shown) → length (shown_bytes version s) ≡ 8 + rights_size version + 8 * length s.caps
length-shown version s = simp length-append (omega (arith, length-six_bytes s.nonce, length-rights version s.rights, length-flat_map 8 eight_bytes length-eight_bytes s.caps))

length-kind : (version : ℕ) (kind : Kind) → 2 + length (kind_bytes version kind) ≡ kind_size version kind
length-kind version kind = grind (arith, length-flat_map, length-entry, length-shown, length-six_bytes)

length-return : (version : ℕ) (back : ReturnInfo) → length (return_bytes version back) ≡ return_size version back
length-return version back = grind (arith, length-append, length-rights, length-flat_map, length-eight_bytes)

-- the layout has as many bytes as are counted
pub length-layout : (s : ShimData) → length (layout s) ≡ shim_size s
unfolding layout
length-layout s = simp length-append (omega (arith, length-kind s.version s.kind, length-return s.version s.back))

pub ruleset sizes = (length-layout)
