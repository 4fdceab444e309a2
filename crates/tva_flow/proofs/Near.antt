-- An entry's end stays near.
use Rattle.tva_flow.proofs.Common.{◌≡◌, ℕ, ◌+◌, ◌*◌, ◌^◌, ◌<◌, ◌≤◌, false, not, ◌&&◌, cond, leb, List, [], ◌∷◌, ◌++◌, length, get_or, set, sym, ap, subst, zero, suc, arith, nat_tests, div_ceil_times, le-mul_of_pos_right, mul-le-mul_left, mul-le-mul_right, le_of_mul-le-mul_right, Rights, Grant, credit_of, Entry, same_grant, IsChargeable, IsNear, AreNear, blocks, counted, renewed, opened}
use Rattle.tva_flow.proofs.Same.{by_bool, same_is, same_grant-self}

pub near-later : (last now : ℕ) (es : List Entry) → last ≤ now → AreNear last es → AreNear now es
near-later last now [] l n = tt
near-later last now (e ∷ es) l n = (record { end = omega (arith, n.0.end, mul-le-mul_right (20480 * e.grant.rights.n) l); used = n.0.used; units = n.0.units; some = n.0.some; seconds = n.0.seconds; second = n.0.second }, near-later last now es l n.1)

pub near-get : (now : ℕ) (es : List Entry) (i : ℕ) (e : Entry) → AreNear now es → i < length es → e ≡ get_or es i e → IsNear now e
near-get now [] i e n h s = absurd (omega arith)
near-get now (x ∷ xs) zero e n h s = subst (IsNear now) (sym s) n.0
near-get now (x ∷ xs) (suc i) e n h s = near-get now xs i e n.1 (omega arith) s

pub near-set : (now : ℕ) (es : List Entry) (i : ℕ) (e : Entry) → AreNear now es → IsNear now e → AreNear now (set es i e)
near-set now [] i e n k = tt
near-set now (x ∷ xs) zero e n k = (k, n.1)
near-set now (x ∷ xs) (suc i) e n k = (n.0, near-set now xs i e n.1 k)

pub near-push : (now : ℕ) (es : List Entry) (e : Entry) → AreNear now es → IsNear now e → AreNear now (es ++ e ∷ [])
near-push now [] e n k = (k, tt)
near-push now (x ∷ xs) e n k = (n.0, near-push now xs e n.1 k)

-- what a packet of at least 20 bytes is credited
pub credit-le : (bytes : ℕ) (r : Rights) → 20 ≤ bytes → 1 ≤ r.n → credit_of bytes r * (20480 * r.n) ≤ bytes * (20000000000 * r.t + 1024 * r.n)
unfolding credit_of
credit-le bytes r b n =
    omega (arith, (div_ceil_times (bytes * r.t * 1000000000) (1024 * r.n) (omega (arith, n))).1, mul-le-mul_left (1024 * r.n) b)

-- a credit is far inside 64 bits
pub credit-short : (bytes : ℕ) (r : Rights) (credit : ℕ) → ((x : ℕ) → bytes * r.t * 1000000000 ≤ x * (1024 * r.n) → credit ≤ x) → bytes ≤ 2048 → 1 ≤ r.n → r.t < 2 ^ 8 → credit ≤ 2 ^ 50
credit-short bytes r credit least b n t =
    omega (arith, least (bytes * r.t * 1000000000) (le-mul_of_pos_right (bytes * r.t * 1000000000) (omega (arith, n))), mul-le-mul_right r.t b)

-- under one grant all packets together get less than 2^39 ns
shares-le : (used : ℕ) (r : Rights) → used ≤ 1024 * r.n → r.n < 2 ^ 32 → r.t < 2 ^ 8 → used * (20000000000 * r.t + 1024 * r.n) ≤ 2 ^ 39 * (20480 * r.n)
shares-le used r u n t =
    let w : 20000000000 * r.t + 1024 * r.n ≤ 20 * 2 ^ 39 = omega (arith, n, t) in
    omega (arith, mul-le-mul_left used w, mul-le-mul_left (20 * 2 ^ 39) u)

-- so an end is less than 2^39 ns past the last time for each second and for the holder
pub end-le : (last : ℕ) (e : Entry) → IsNear last e → e.end ≤ last + (e.grant.second + 1) * 2 ^ 39
end-le last e k =
    le_of_mul-le-mul_right {k = 20480 * e.grant.rights.n} (omega (arith, k.end, shares-le e.used e.grant.rights k.used k.units k.seconds.1)) (omega (arith, k.some))

pub near-renewed : (now : ℕ) (e : Entry) (g : Grant) (cap nonce bytes : ℕ) → IsNear now e → IsChargeable g bytes → g.rights.n < 2 ^ 32 → g.rights.t < 2 ^ 8 → blocks e g ≡ false → counted e g + bytes ≤ 1024 * g.rights.n → IsNear now (renewed e g cap nonce bytes)
near-renewed now e g cap nonce bytes k p n t b u =
    let some : 1 ≤ g.rights.n = omega (arith, u, p.length) in
    let c = credit-le bytes g.rights p.length.0 some in
    let part = 20480 * g.rights.n in
    let rate = 20000000000 * g.rights.t + 1024 * g.rights.n in
    record {
      end = by_bool (same_grant e.grant g) (λ x. (not x && leb g.second e.grant.second) ≡ false → (e.end + credit_of bytes g.rights) * part ≤ (now + g.second * 2 ^ 39) * part + (cond x e.used 0 + bytes) * rate)
          (λ s _. let h : e.end * part ≤ (now + g.second * 2 ^ 39) * part + e.used * rate = subst (λ (z : Grant). e.end * (20480 * z.rights.n) ≤ (now + z.second * 2 ^ 39) * (20480 * z.rights.n) + e.used * (20000000000 * z.rights.t + 1024 * z.rights.n)) (same_is e.grant g s) k.end in omega (arith, h, c))
          (λ s w. let q : e.grant.second < g.second = grind (arith, nat_tests) in let h : e.end ≤ now + g.second * 2 ^ 39 = omega (arith, q, end-le now e k) in omega (arith, mul-le-mul_right part h, c)) b;
      used = u;
      units = n;
      some = some;
      seconds = (p.seconds, t);
      second = p.second;
    }

pub near-opened : (now : ℕ) (g : Grant) (cap nonce bytes : ℕ) → IsChargeable g bytes → g.rights.n < 2 ^ 32 → g.rights.t < 2 ^ 8 → bytes ≤ 1024 * g.rights.n → IsNear now (opened now g cap nonce bytes)
near-opened now g cap nonce bytes p n t h =
    let some : 1 ≤ g.rights.n = omega (arith, p.length) in
    let c = credit-le bytes g.rights p.length.0 some in
    record { end = omega (arith, c); used = h; units = n; some = some; seconds = (p.seconds, t); second = p.second }

-- a nonce packet's grant is the holder's own
pub own_free : (e : Entry) → blocks e e.grant ≡ false
own_free e = ap (λ x. not x && leb e.grant.second e.grant.second) (same_grant-self e.grant)

pub own_counted : (e : Entry) → counted e e.grant ≡ e.used
own_counted e = ap (λ x. cond x e.used 0) (same_grant-self e.grant)

pub packet_of : (now : ℕ) (e : Entry) (bytes : ℕ) → IsNear now e → (20 ≤ bytes) × (bytes ≤ 2048) → IsChargeable e.grant bytes
packet_of now e bytes n b = record { seconds = n.seconds.0; second = n.second; length = b }

pub near-held : (now : ℕ) (e : Entry) (nonce bytes : ℕ) → IsNear now e → (20 ≤ bytes) × (bytes ≤ 2048) → e.used + bytes ≤ 1024 * e.grant.rights.n → IsNear now (renewed e e.grant e.cap nonce bytes)
near-held now e nonce bytes k b u =
    near-renewed now e e.grant e.cap nonce bytes k (packet_of now e bytes k b) k.units k.seconds.1 (own_free e) (omega (arith, own_counted e, u))
