-- What is made in a second shows that second's stamp, so its age is the seconds since then.
use Rattle.tva_caps.proofs.Common.{◌≡◌, ℕ, zero, suc, ◌+◌, ◌-◌, ◌*◌, ◌/◌, ◌%◌, ◌^◌, ◌<◌, List, [], ◌∷◌, take, ap, ◌∙◌, arith, mod-lt, Flow, Rights, age_of, capability_of, precap_of, precap_under, stamp_at, stamp_of, stamped}
use Rattle.byteorder.specs.Endian.{big_from, big_number}
use Rattle.byteorder.specs.Numbers.{big_from-lt}
use Rattle.sha2.specs.Sha256.{sha256}
use Rattle.tva_caps.proofs.Bytes.{AreBytes, AreBytes-digest}

AreBytes-take : (n : ℕ) (xs : List ℕ) → AreBytes xs → AreBytes (take n xs)
AreBytes-take zero xs p i = omega arith
AreBytes-take (suc n) [] p i = omega arith
AreBytes-take (suc n) (x ∷ xs) p zero = p 0
AreBytes-take (suc n) (x ∷ xs) p (suc i) = AreBytes-take n xs (λ k. p (suc k)) i

AreBytes-cons : (x : ℕ) (xs : List ℕ) → x < 256 → AreBytes xs → AreBytes (x ∷ xs)
AreBytes-cons x xs h p zero = h
AreBytes-cons x xs h p (suc i) = p i

top_byte : (s rest : ℕ) → rest < 72057594037927936 → (s * 72057594037927936 + rest) / 72057594037927936 ≡ s
top_byte s rest h = omega arith

top_of : (s : ℕ) (xs : List ℕ) → s < 256 → AreBytes xs → stamp_of (big_number 8 (s ∷ xs)) ≡ s
top_of s xs h p = top_byte s (big_from 1 7 (s ∷ xs)) (big_from-lt 1 7 (s ∷ xs) (AreBytes-cons s xs h p))

-- a stamped value shows its stamp
pub stamp_of-stamped : (s : ℕ) (message : List ℕ) → s < 256 → stamp_of (stamped s message) ≡ s
unfolding stamped
stamp_of-stamped s message h = top_of s (take 7 (sha256 message)) h (AreBytes-take 7 _ (AreBytes-digest message))

-- it has 8 bytes
stamped-lt : (s : ℕ) (message : List ℕ) → s < 256 → stamped s message < 2 ^ 64
unfolding stamped
stamped-lt s message h = big_from-lt 0 8 (s ∷ take 7 (sha256 message)) (AreBytes-cons s _ h (AreBytes-take 7 _ (AreBytes-digest message)))

pub stamp_at-lt : (second : ℕ) → stamp_at second < 256
stamp_at-lt second = mod-lt second (omega arith)

stamp_of-under : (secret : List ℕ) (flow : Flow) (second : ℕ) → stamp_of (precap_under secret flow second) ≡ stamp_at second
unfolding precap_under
stamp_of-under secret flow second = stamp_of-stamped (stamp_at second) _ (stamp_at-lt second)

-- a pre-capability shows the stamp of its second
pub stamp_of-precap : (master : List ℕ) (flow : Flow) (second : ℕ) → stamp_of (precap_of master flow second) ≡ stamp_at second
unfolding precap_of
stamp_of-precap master flow second = stamp_of-under _ flow second

under-lt : (secret : List ℕ) (flow : Flow) (second : ℕ) → precap_under secret flow second < 2 ^ 64
unfolding precap_under
under-lt secret flow second = stamped-lt (stamp_at second) _ (stamp_at-lt second)

-- a pre-capability has 64 bits
pub precap_of-lt : (master : List ℕ) (flow : Flow) (second : ℕ) → precap_of master flow second < 2 ^ 64
unfolding precap_of
precap_of-lt master flow second = under-lt _ flow second

-- so has the capability of one
pub capability_of-lt : (precap : ℕ) (rights : Rights) → precap < 2 ^ 64 → capability_of precap rights < 2 ^ 64
unfolding capability_of
capability_of-lt precap rights h = stamped-lt (stamp_of precap) _ (omega arith)

-- a capability shows the stamp of its pre-capability
pub stamp_of-capability : (precap : ℕ) (rights : Rights) → stamp_of precap < 256 → stamp_of (capability_of precap rights) ≡ stamp_of precap
unfolding capability_of
stamp_of-capability precap rights h = stamp_of-stamped (stamp_of precap) _ h

since : (m k : ℕ) → k < 256 → (m + k + 256 - m % 256) % 256 ≡ k
since m k h = omega arith

-- the age of a value with the stamp of a second, so many seconds later
pub age_of-later : (shown second k : ℕ) → stamp_of shown ≡ stamp_at second → k < 256 → age_of (second + k) shown ≡ k
unfolding age_of
age_of-later shown second k e h = ap (λ (s : ℕ). (second + k + 256 - s) % 256) e ∙ since second k h
