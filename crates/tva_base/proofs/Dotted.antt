-- The texts of addresses are those of four numbers joined by dots.
use Rattle.tva_base.proofs.Common.{refl, sym, ap, ◌∙◌, ◌≡◌, ℕ, zero, suc, ◌+◌, ◌^◌, ◌<◌, ◌≤◌, Bool, true, false, cond, List, [], ◌∷◌, ◌++◌, length, get_or, Option, Some, None, arith, length-append, nat_tests, take-append-drop, ◌&&◌, ◌==◌, not, nat_le, nat_lt, position, list_all, position_or_len, is_ascii_digit, number_in, is_decimal, decimal_of, has_leading_zero, plain_decimal_of}
use Rattle.std.proofs.Math.Seq.{take-append_seam, drop-append-add, drop-cons}
use Rattle.std.proofs.lemmas.List.Quantifiers.{position-Some}
use Rattle.std.proofs.lemmas.Option.{same_Some}
use Rattle.std.proofs.lemmas.Fmt.{first_decimal, decimal_digit, decimal_nonempty, length-decimal-le, digits_decimal, digits_value-decimal, decimal-digits_value}
use Rattle.std.proofs.lemmas.Str.Parse.{IsDigitsTest, IsNumeralModel, numerals_by_weight}
use Rattle.std.specs.Prelude.{take, drop}
use Rattle.std.specs.Int.{IsInRange}
use Rattle.std.specs.Fmt.{decimal}
use Rattle.std.specs.Option.{option_map}
use Rattle.tva_base.specs.declared.addresses.Address.{Address}
use Rattle.tva_base.proofs.Digits.{both}
use Rattle.tva_base.specs.Options.{◌>>=◌}
use Rattle.tva_base.specs.Addresses.{parted, octet_of, address_of, joined, Writes}

-- ---- numbers

in_range : (c : ℕ) → is_ascii_digit c ≡ true → IsInRange 48 57 c
in_range c h = (grind (arith, nat_tests), grind (arith, nat_tests))

is_digit : (c : ℕ) → IsInRange 48 57 c → is_ascii_digit c ≡ true
is_digit c h = grind (arith, nat_tests)

tells : IsDigitsTest (λ ds. list_all is_ascii_digit ds ≡ true)
tells = record {
  empty = refl;
  parts = λ c cs e. let k = both (is_ascii_digit c) (list_all is_ascii_digit cs) e in (in_range c k.0, k.1);
  more = λ c cs k e. ap (λ b. b && list_all is_ascii_digit cs) (is_digit c k) ∙ e;
}

numeral : IsNumeralModel (λ ds. list_all is_ascii_digit ds ≡ true) number_in
numeral = numerals_by_weight _ tells number_in (record { empty = refl; more = λ c cs k. refl })

leads : (n : ℕ) → n < 2 ^ 64 → get_or (decimal n) 0 0 ≡ 48 → length (decimal n) ≡ 1
leads zero small e = ap length (decimal_digit 0 (omega arith))
leads (suc n) small e = absurd (omega (arith, e, first_decimal (suc n) (omega arith) small))

no_zero : (ds : List ℕ) → (get_or ds 0 0 ≡ 48 → length ds ≡ 1) → has_leading_zero ds ≡ false
no_zero [] h = refl
no_zero (c ∷ []) h = refl
no_zero (c ∷ d ∷ ds) h = let other : c ≡ 48 → ⊥ = λ e. absurd (omega (arith, h e)) in grind (arith, nat_tests)

zero_alone : (ds : List ℕ) → 0 < length ds → has_leading_zero ds ≡ false → get_or ds 0 0 ≡ 48 → length ds ≡ 1
zero_alone [] some h e = absurd (omega arith)
zero_alone (c ∷ []) some h e = refl
zero_alone (c ∷ d ∷ ds) some h e = absurd (grind (arith, nat_tests))

-- the digits of a number are read as it
plain_taken : (n max : ℕ) → n ≤ max → max < 2 ^ 64 → plain_decimal_of (decimal n) max ≡ Some n
unfolding plain_decimal_of decimal_of
plain_taken n max within wide =
    let small : n < 2 ^ 64 = omega arith in
    let some : nat_le 1 (length (decimal n)) ≡ true = let q = decimal_nonempty n small in grind (arith, nat_tests) in
    let few : nat_le (length (decimal n)) 20 ≡ true = let q = length-decimal-le 20 n (omega arith) (omega arith) small in grind (arith, nat_tests) in
    let digits : list_all is_ascii_digit (decimal n) ≡ true = digits_decimal numeral n small in
    let value : number_in (decimal n) ≡ n = digits_value-decimal numeral n small in
    let fits : nat_le n max ≡ true = grind (arith, nat_tests) in
    rw (no_zero (decimal n) (leads n small), some, few, digits, value, fits) refl

chosen : (z d l : Bool) (v n : ℕ) → cond z None (cond (d && l) (Some v) None) ≡ Some n → (z ≡ false) × (d ≡ true) × (l ≡ true) × (v ≡ n)
chosen true d l v n h = absurd (cc)
chosen false true true v n h = (refl, refl, refl, cc)
chosen false true false v n h = absurd (cc)
chosen false false l v n h = absurd (cc)

-- what is read as a number is its digits
plain_given : (text : List ℕ) (max n : ℕ) → max < 2 ^ 64 → plain_decimal_of text max ≡ Some n → (text ≡ decimal n) × (n ≤ max)
unfolding plain_decimal_of decimal_of
plain_given text max n wide h =
    let c = chosen (has_leading_zero text) (is_decimal text) (nat_le (number_in text) max) (number_in text) n h in
    let fits : number_in text ≤ max = let q = c.2 in grind (arith, nat_tests) in
    let form = both (nat_le 1 (length text) && nat_le (length text) 20) (list_all is_ascii_digit text) c.1 in
    let some : 0 < length text = let q = (both (nat_le 1 (length text)) (nat_le (length text) 20) form.0).0 in grind (arith, nat_tests) in
    let spelt : decimal (number_in text) ≡ text = decimal-digits_value numeral text form.1 some (zero_alone text some c.0) (omega arith) in
    (sym spelt ∙ ap decimal c.3, omega (arith, c.3))

-- ---- parts

dot_free : (ds : List ℕ) → list_all is_ascii_digit ds ≡ true → list_all (λ c. not (c == 46)) ds ≡ true
dot_free [] h = refl
dot_free (c ∷ cs) h =
    let k = both (is_ascii_digit c) (list_all is_ascii_digit cs) h in
    let other : not (c == 46) ≡ true = let q = k.0 in grind (arith, nat_tests) in
    rw other (dot_free cs k.1)

before : (ds rest : List ℕ) → list_all (λ c. not (c == 46)) ds ≡ true → position_or_len (λ b. b == 46) (ds ++ 46 ∷ rest) ≡ length ds
before [] rest h = refl
before (c ∷ cs) rest h =
    let k = both (not (c == 46)) (list_all (λ b. not (b == 46)) cs) h in
    rw k.0 (omega (arith, before cs rest k.1))

parted_joined : (ds rest : List ℕ) → list_all (λ c. not (c == 46)) ds ≡ true → parted 46 (joined ds rest) ≡ Some (ds, rest)
unfolding parted
parted_joined ds rest h =
    let within : nat_lt (length ds) (length (ds ++ 46 ∷ rest)) ≡ true = let q = length-append ds (46 ∷ rest) in grind (arith, nat_tests) in
    rw (before ds rest h, within, take-append_seam ds (46 ∷ rest), drop-append-add ds (46 ∷ rest) 1) refl

drop_more : (i : ℕ) (text : List ℕ) → i < length text → drop i text ≡ get_or text i 0 ∷ drop (i + 1) text
drop_more i text within = let next : suc i ≡ i + 1 = omega arith in drop-cons text i 0 within ∙ ap (λ n. get_or text i 0 ∷ drop n text) next

joined_parted : (text : List ℕ) (p : List ℕ × List ℕ) → parted 46 text ≡ Some p → text ≡ joined p.0 p.1
unfolding parted
joined_parted text p h = by_place (position (λ b. b == 46) text) refl h
  where
    by_place : (o : Option ℕ) → position (λ b. b == 46) text ≡ o → option_map (λ at. (take at text, drop (at + 1) text)) o ≡ Some p → text ≡ joined p.0 p.1
    by_place None e k = absurd (cc)
    by_place (Some i) e k =
        let at = position-Some (λ b. b == 46) text i 0 e in
        let dot : get_or text i 0 ≡ 46 = let q = at.1 in grind (arith, nat_tests) in
        let parts : (take i text, drop (i + 1) text) ≡ p = same_Some _ _ k in
        sym (take-append-drop i text) ∙ ap (λ r. take i text ++ r) (drop_more i text at.0 ∙ ap (λ c. c ∷ drop (i + 1) text) dot)
        ∙ ap (λ (q : List ℕ × List ℕ). joined q.0 q.1) parts

-- ---- addresses

spelt_taken : (n : ℕ) (rest : List ℕ) → n ≤ 255 → parted 46 (joined (decimal n) rest) ≡ Some (decimal n, rest)
spelt_taken n rest small = parted_joined (decimal n) rest (dot_free (decimal n) (digits_decimal numeral n (omega arith)))

-- four numbers joined by dots are read as their address
pub dotted_taken : (text : List ℕ) (x : Address) → Writes text x → address_of text ≡ Some x
unfolding address_of
dotted_taken text x w =
    rw (
      w.spelt,
      w.number,
      spelt_taken w.a (joined (decimal w.b) (joined (decimal w.c) (decimal w.d))) w.octets.0,
      spelt_taken w.b (joined (decimal w.c) (decimal w.d)) w.octets.1,
      spelt_taken w.c (decimal w.d) w.octets.2,
      plain_taken w.a 255 w.octets.0 (omega arith),
      plain_taken w.b 255 w.octets.1 (omega arith),
      plain_taken w.c 255 w.octets.2 (omega arith),
      plain_taken w.d 255 w.octets.3 (omega arith),
    ) refl

step : {A B : Type 0} (o : Option A) (f : A → Option B) (x : B) → (o >>= f) ≡ Some x → (a : A) × (o ≡ Some a) × (f a ≡ Some x)
step None f x h = absurd (cc)
step (Some a) f x h = (a, refl, h)

-- what is read as an address is four numbers joined by dots
pub dotted_given : (text : List ℕ) (x : Address) → address_of text ≡ Some x → Writes text x
unfolding address_of
dotted_given text x h =
    let first = step (parted 46 text) _ x h in
    let second = step (parted 46 first.0.1) _ x first.2 in
    let third = step (parted 46 second.0.1) _ x second.2 in
    let a = step (octet_of first.0.0) _ x third.2 in
    let b = step (octet_of second.0.0) _ x a.2 in
    let c = step (octet_of third.0.0) _ x b.2 in
    let d = step (octet_of third.0.1) _ x c.2 in
    let first_is = plain_given first.0.0 255 a.0 (omega arith) a.1 in
    let second_is = plain_given second.0.0 255 b.0 (omega arith) b.1 in
    let third_is = plain_given third.0.0 255 c.0 (omega arith) c.1 in
    let fourth_is = plain_given third.0.1 255 d.0 (omega arith) d.1 in
    record {
      a = a.0;
      b = b.0;
      c = c.0;
      d = d.0;
      octets = (first_is.1, second_is.1, third_is.1, fourth_is.1);
      spelt =
          joined_parted text first.0 first.1 ∙ ap (joined first.0.0) (joined_parted first.0.1 second.0 second.1 ∙ ap (joined second.0.0) (joined_parted second.0.1 third.0 third.1))
          ∙ ap (λ t. joined t (joined second.0.0 (joined third.0.0 third.0.1))) first_is.0
          ∙ ap (λ t. joined (decimal a.0) (joined t (joined third.0.0 third.0.1))) second_is.0
          ∙ ap (λ t. joined (decimal a.0) (joined (decimal b.0) (joined t third.0.1))) third_is.0
          ∙ ap (λ t. joined (decimal a.0) (joined (decimal b.0) (joined (decimal c.0) t))) fourth_is.0;
      number = sym (same_Some _ _ d.2);
    }
