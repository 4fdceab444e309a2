-- The bytes of a number that was read are those that were read.
use Rattle.tva_shim.proofs.Common.{◌≡◌, ℕ, zero, suc, ◌+◌, ◌-◌, ◌*◌, ◌/◌, ◌%◌, ◌^◌, ◌<◌, ◌≤◌, List, [], ◌∷◌, ◌++◌, length, get_or, take, drop, Some, None, refl, sym, ap, ◌∙◌, arith, take-append-drop, take-append-le, take_all, drop_at, big_from, big_bytes, big_number, big_from-cons, big_from-lt, big_from-take, big_number-reads_back, length-bytes_high_first, rights_size, two_bytes, six_bytes, eight_bytes, number_bytes, Reads, IsBelow}
use Rattle.std.proofs.Math.Nat.{div-one, mod-eq_of_lt, mul-add-div_right, mul-add-mod_self_right, mul_assoc, one-le-pow, pow-succ'}
use Rattle.std.proofs.lemmas.Nat.{div-mul-add, pow-add}
use Rattle.std.specs.Int.{byte_at, bytes_high_first}
use Rattle.std.proofs.lemmas.List.{length-append}

abbrev pub AreBytes : List ℕ → Type 0
AreBytes bytes = (i : ℕ) → get_or bytes i 0 < 256

byte_at-pow : (k x : ℕ) → byte_at k x ≡ x / 256 ^ k % 256
byte_at-pow k x = grind (arith, div-one)

pow-above_zero : (n : ℕ) → zero < 256 ^ n
pow-above_zero n = omega (arith, one-le-pow n 256 (omega arith))

-- what stands from a place on is no part of the bytes below it
byte_at-below : (k m high low : ℕ) → k < m → byte_at k (high * 256 ^ m + low) ≡ byte_at k low
byte_at-below k m high low h =
    let over : m ≡ (m - suc k) + suc k = omega arith in
    let split : 256 ^ m ≡ 256 ^ (m - suc k) * (256 * 256 ^ k) =
    ap (λ (x : ℕ). 256 ^ x) over ∙ pow-add 256 (m - suc k) (suc k) ∙ ap (λ (y : ℕ). 256 ^ (m - suc k) * y) (pow-succ' 256 k) in
    let worth : high * 256 ^ m ≡ high * 256 ^ (m - suc k) * 256 * 256 ^ k =
    ap (λ (y : ℕ). high * y) split ∙ regroup high (256 ^ (m - suc k)) (256 ^ k) in
    byte_at-pow k (high * 256 ^ m + low)
    ∙ ap (λ (y : ℕ). (y + low) / 256 ^ k % 256) worth
    ∙ ap (λ (y : ℕ). y % 256) (mul-add-div_right (pow-above_zero k) (high * 256 ^ (m - suc k) * 256) low)
    ∙ mul-add-mod_self_right (high * 256 ^ (m - suc k)) 256 (low / 256 ^ k)
    ∙ sym (byte_at-pow k low)
  where
    regroup : (a b c : ℕ) → a * (b * (256 * c)) ≡ a * b * 256 * c
    regroup a b c = sym (mul_assoc a b (256 * c)) ∙ sym (mul_assoc (a * b) 256 c)

bytes-below : (n m high low : ℕ) → n ≤ m → bytes_high_first n (high * 256 ^ m + low) ≡ bytes_high_first n low
bytes-below zero m high low h = refl
bytes-below (suc n) m high low h = cc (byte_at-below n m high low (omega arith), bytes-below n m high low (omega arith))

-- the highest byte is what stands above the others
byte_at-high : (n high low : ℕ) → high < 256 → low < 256 ^ n → byte_at n (high * 256 ^ n + low) ≡ high
byte_at-high n high low h l = cc (byte_at-pow n (high * 256 ^ n + low), div-mul-add high (256 ^ n) low l, mod-eq_of_lt h)

-- the bytes of the number in the first n bytes are those bytes
bytes-of_number : (n : ℕ) (xs : List ℕ) → AreBytes xs → n ≤ length xs → big_bytes n (big_number n xs) ≡ take n xs
bytes-of_number zero xs are long = refl
bytes-of_number (suc n) [] are long = absurd (omega arith)
bytes-of_number (suc n) (x ∷ xs) are long =
    let later : AreBytes xs = λ i. are (suc i) in
    let moved : big_from 1 n (x ∷ xs) ≡ big_from 0 n xs = big_from-cons 0 n x xs in
    let low : big_from 0 n xs < 256 ^ n = big_from-lt 0 n xs later in
    let first = byte_at-high n x (big_from 0 n xs) (are 0) low in
    let rest = bytes-below n n x (big_from 0 n xs) (omega arith) ∙ bytes-of_number n xs later (omega arith) in
    rw (moved, first, rest) refl

-- fewer bytes than a number has begin with none
pub number_missing : (n limit : ℕ) (bytes_of : ℕ → List ℕ) → ((x : ℕ) → bytes_of x ≡ big_bytes n x) → (bytes : List ℕ) → length bytes < n → Reads (IsBelow limit) bytes_of bytes None
number_missing n limit bytes_of are bytes short = grind (arith, length-append, big_bytes, length-bytes_high_first)

-- other bytes begin with the number that they read as, and with no other
pub number_read : (n limit : ℕ) (bytes_of : ℕ → List ℕ) → ((x : ℕ) → bytes_of x ≡ big_bytes n x) → limit ≡ 256 ^ n → (bytes front rest : List ℕ) (x : ℕ)
    → AreBytes bytes → n ≤ length bytes → front ≡ take n bytes → rest ≡ drop n bytes → x ≡ big_number n front → Reads (IsBelow limit) bytes_of bytes (Some (x, rest))
number_read n limit bytes_of are top bytes front rest x fits long front-is rest-is x-is = grind (arith, big_number, big_from-take, big_from-lt, big_bytes, bytes-of_number, take-append-drop, big_number-reads_back, drop_at, length-bytes_high_first)

pub two_bytes-is : (n : ℕ) → two_bytes n ≡ big_bytes 2 n
unfolding two_bytes
two_bytes-is n = refl

pub six_bytes-is : (n : ℕ) → six_bytes n ≡ big_bytes 6 n
unfolding six_bytes
six_bytes-is n = refl

pub eight_bytes-is : (n : ℕ) → eight_bytes n ≡ big_bytes 8 n
unfolding eight_bytes
eight_bytes-is n = refl

pub number_bytes-is : (version n : ℕ) → number_bytes version n ≡ big_bytes (rights_size version) n
unfolding number_bytes
number_bytes-is version n = refl

-- a number that was written to the front of some bytes stands there
pub front_written : (version n size : ℕ) (rest written : List ℕ) → size ≡ rights_size version → written ≡ big_bytes size n ++ rest → take size written ≡ number_bytes version n
front_written version n size rest written is all = grind (arith, big_bytes, length-bytes_high_first, take-append-le, take_all, number_bytes-is)
