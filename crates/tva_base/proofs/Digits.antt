-- The number that digits write, digit by digit.
use Rattle.tva_base.proofs.Common.{refl, ◌≡◌, ℕ, ◌+◌, ◌-◌, ◌*◌, ◌^◌, ◌<◌, ◌≤◌, Bool, true, false, List, [], ◌∷◌, ◌++◌, length, take, drop, get_or, add-one, arith, length-append, nat_tests, take_more, take-append-drop, length-take-le, pow-suc, pow-le-pow_right, ◌&&◌, list_all, is_ascii_digit, number_in}
use Rattle.std.proofs.lemmas.List.Folds.{list_all-append}

push_step : (x p n e : ℕ) → x * (p * 10) + (n * 10 + e) ≡ (x * p + n) * 10 + e
push_step x p n e = omega arith

-- one more digit makes ten times the number, and the digit
pub number_in_push : (digits : List ℕ) (digit : ℕ) → number_in (digits ++ digit ∷ []) ≡ number_in digits * 10 + (digit - 48)
number_in_push [] digit = omega arith
number_in_push (d ∷ ds) digit =
    rw (length-append ds (digit ∷ []), add-one (length ds), pow-suc 10 (length ds), number_in_push ds digit)
    (push_step (d - 48) (10 ^ length ds) (number_in ds) (digit - 48))

pub both : (a b : Bool) → (a && b) ≡ true → (a ≡ true) × (b ≡ true)
both true b h = (refl, h)
both false b h = absurd (cc)

digit_below : (d : ℕ) → is_ascii_digit d ≡ true → d - 48 ≤ 9
digit_below d h = grind (arith, nat_tests)

below_step : (x p m : ℕ) → x ≤ 9 → m < p → x * p + m < p * 10
below_step x p m small below = grind arith

-- so many digits write a number below that power of ten
pub number_in_below : (digits : List ℕ) → list_all is_ascii_digit digits ≡ true → number_in digits < 10 ^ length digits
number_in_below [] all = omega arith
number_in_below (d ∷ ds) all =
    let parts : (is_ascii_digit d ≡ true) × (list_all is_ascii_digit ds ≡ true) = both _ _ all in
    rw (pow-suc 10 (length ds)) (below_step (d - 48) (10 ^ length ds) (number_in ds) (digit_below d parts.0) (number_in_below ds parts.1))

all_take : (i : ℕ) (digits : List ℕ) → list_all is_ascii_digit digits ≡ true → list_all is_ascii_digit (take i digits) ≡ true
all_take i digits all =
    let cut : list_all is_ascii_digit (take i digits ++ drop i digits) ≡ true = rw (take-append-drop i digits) all in
    (both _ _ (rw (list_all-append is_ascii_digit (take i digits) (drop i digits)) at cut)).0

-- the number of the first i + 1 digits
pub number_in_more : (digits : List ℕ) (i : ℕ) → i < length digits → number_in (take (i + 1) digits) ≡ number_in (take i digits) * 10 + (get_or digits i 0 - 48)
number_in_more digits i within = rw (take_more digits i 0 within) (number_in_push (take i digits) (get_or digits i 0))

-- of at most 20 digits the first ones write a number below 10^20
pub number_in_room : (digits : List ℕ) (i : ℕ) → i ≤ length digits → list_all is_ascii_digit digits ≡ true → length digits ≤ 20 → number_in (take i digits) < 10 ^ 20
number_in_room digits i within all few =
    let below : number_in (take i digits) < 10 ^ length (take i digits) = number_in_below (take i digits) (all_take i digits all) in
    let count : length (take i digits) ≡ i = length-take-le i digits within in
    let wide : 10 ^ length (take i digits) ≤ 10 ^ 20 = rw count (pow-le-pow_right {n = 10} (omega arith) {i = i} {j = 20} (omega arith)) in
    omega arith
