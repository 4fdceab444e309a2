-- The bytes of numbers and of digests.
use Rattle.tva_caps.proofs.Common.{ℕ, zero, suc, ◌<◌, List, [], ◌∷◌, ◌++◌, get_or, arith, mod-lt}
use Rattle.std.specs.Int.{byte_at, bytes_high_first}
use Rattle.sha2.specs.Sha256.{digest_bytes, sha256}

-- the elements are bytes
abbrev pub AreBytes : List ℕ → Type 0
AreBytes xs = (i : ℕ) → get_or xs i 0 < 256

pub AreBytes-append : (xs ys : List ℕ) → AreBytes xs → AreBytes ys → AreBytes (xs ++ ys)
AreBytes-append [] ys p q i = q i
AreBytes-append (x ∷ xs) ys p q zero = p 0
AreBytes-append (x ∷ xs) ys p q (suc i) = AreBytes-append xs ys (λ k. p (suc k)) q i

byte_at-lt : (k n : ℕ) → byte_at k n < 256
byte_at-lt zero n = mod-lt n (omega arith)
byte_at-lt (suc k) n = mod-lt _ (omega arith)

pub AreBytes-number : (k n : ℕ) → AreBytes (bytes_high_first k n)
AreBytes-number zero n i = omega arith
AreBytes-number (suc k) n zero = byte_at-lt k n
AreBytes-number (suc k) n (suc i) = AreBytes-number k n i

AreBytes-words : (h : List ℕ) (n : ℕ) → AreBytes (digest_bytes h n)
unfolding digest_bytes
AreBytes-words h zero i = omega arith
AreBytes-words h (suc n) i =
    AreBytes-append (digest_bytes h n) _ (AreBytes-words h n) (AreBytes-number 4 _) i

-- a digest is bytes
pub AreBytes-digest : (message : List ℕ) → AreBytes (sha256 message)
unfolding sha256
AreBytes-digest message = AreBytes-words _ 8
