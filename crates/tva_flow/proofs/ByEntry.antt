-- The verdict over all charges is the one by the flow's entry.
use Rattle.tva_flow.proofs.Common.{◌≡◌, ℕ, ◌+◌, ◌*◌, ◌<◌, ◌≤◌, Bool, true, false, not, ◌&&◌, ◌||◌, cond, eqb, ltb, leb, List, [], ◌∷◌, Option, None, Some, refl, sym, ap, ◌∙◌, subst, arith, zero-add, nat_tests, Flow, Grant, router_second, Verdict, Authorised, Expired, OverN, UnknownNonce, CacheFull, Superseded, Entry, Charge, end_of, run, same_grant, bytes_of, last_or, last_charge, of_flow, lives, holder, used, living_count, supersedes, list_verdict, nonce_rows, nonce_verdict, Holds, blocks, counted, living_verdict, held_verdict, opening_verdict}
use Rattle.tva_flow.proofs.Same.{by_bool, same_is}
use Rattle.tva_flow.proofs.Steps.{living, by_lt}
use Rattle.tva_flow.proofs.Rising.{IsRising}

pub some_last : (cs : List Charge) (now : ℕ) → now < end_of cs → (c : Charge) × (last_charge cs ≡ Some c)
some_last [] now h = absurd (omega arith)
some_last (d ∷ ds) now h = (last_or d ds, refl)

-- the rows, by whether the flow lives, whether it is held, and the bytes
abbrev rows : ℕ → ℕ → Grant → ℕ → Bool → Bool → ℕ → Verdict
rows s count g bytes t b u =
    cond (t && b) Superseded (cond (ltb (1024 * g.rights.n) (cond t u 0 + bytes)) OverN (cond (not t && leb s count) CacheFull (Authorised g)))

rows_living : (b : Bool) (u u' : ℕ) (g : Grant) (s count bytes : ℕ) → (b ≡ false → u ≡ u') →
    rows s count g bytes true b u ≡ cond b Superseded (cond (ltb (1024 * g.rights.n) (u' + bytes)) OverN (Authorised g))
rows_living true u u' g s count bytes h = refl
rows_living false u u' g s count bytes h = ap (λ x. cond (ltb (1024 * g.rights.n) (x + bytes)) OverN (Authorised g)) (h refl)

-- where the holder doesn't keep the grant out, the entry counts its bytes
pub bytes_known : (cs : List Charge) (e : Entry) (c : Charge) (g : Grant) → Holds cs e → IsRising cs → last_charge cs ≡ Some c → blocks e g ≡ false → bytes_of g (run [] cs) ≡ counted e g
bytes_known cs e c g h r l =
    by_bool (same_grant e.grant g) (λ t. (not t && leb g.second e.grant.second) ≡ false → bytes_of g (run [] cs) ≡ cond t e.used 0)
    (λ k b. subst (λ z. bytes_of z (run [] cs) ≡ e.used) (same_is e.grant g k) (sym h.used))
    (λ k b. r g c l (let q : c.grant.second ≡ e.grant.second = ap (λ (x : Grant). x.second) (h.holder c l).0 in grind (arith, nat_tests)))

pub verdict-living : (s : ℕ) (h : List Charge) (now : ℕ) (e : Entry) (g : Grant) (bytes : ℕ) → Holds (of_flow g.flow h) e → IsRising (of_flow g.flow h) → now < e.end → list_verdict s h now g bytes ≡ living_verdict e g bytes
unfolding list_verdict
verdict-living s h now e g bytes k r n =
    let cs = of_flow g.flow h in
    let l : lives h g.flow now ≡ true = living cs now (omega (arith, k.end)) in
    let p = some_last cs now (omega (arith, k.end)) in
    let b : supersedes (last_charge cs) g ≡ blocks e g = ap (λ o. supersedes o g) p.1 ∙ ap (λ (x : Grant). not (same_grant x g) && leb g.second x.second) (k.holder p.0 p.1).0 in
    ap (λ t. rows s (living_count h now) g bytes t (supersedes (last_charge cs) g) (bytes_of g (run [] cs))) l
    ∙ (ap (λ t. rows s (living_count h now) g bytes true t (bytes_of g (run [] cs))) b
    ∙ rows_living (blocks e g) (bytes_of g (run [] cs)) (counted e g) g s (living_count h now) bytes (bytes_known cs e p.0 g k r p.1))

pub verdict-opening : (s : ℕ) (h : List Charge) (now : ℕ) (g : Grant) (bytes : ℕ) → lives h g.flow now ≡ false → list_verdict s h now g bytes ≡ opening_verdict s (living_count h now) g bytes
unfolding list_verdict
verdict-opening s h now g bytes l =
    ap (λ t. rows s (living_count h now) g bytes t (supersedes (holder h g.flow) g) (bytes_of g (run [] (of_flow g.flow h)))) l
    ∙ ap (λ x. cond (ltb (1024 * g.rights.n) x) OverN (cond (leb s (living_count h now)) CacheFull (Authorised g))) (zero-add bytes)

-- what is known where a living flow's packet is authorised
pub living_rows : (e : Entry) (g : Grant) (bytes : ℕ) → living_verdict e g bytes ≡ Authorised g → (blocks e g ≡ false) × (counted e g + bytes ≤ 1024 * g.rights.n)
living_rows e g bytes =
    by_bool (blocks e g) (λ b. cond b Superseded (cond (ltb (1024 * g.rights.n) (counted e g + bytes)) OverN (Authorised g)) ≡ Authorised g → (b ≡ false) × (counted e g + bytes ≤ 1024 * g.rights.n))
    (λ k h. absurd (cc))
    (λ k h. (refl, by_lt (1024 * g.rights.n) (counted e g + bytes) (λ b. cond b OverN (Authorised g) ≡ Authorised g → counted e g + bytes ≤ 1024 * g.rights.n) (λ q w. absurd (cc)) (λ q w. q) h))

-- the nonce verdict of a flow whose entry lives
pub nonce-living : (o : ℕ) (h : List Charge) (now : ℕ) (f : Flow) (e : Entry) (nonce bytes : ℕ) → Holds (of_flow f h) e → e.grant.flow ≡ f → now < e.end → nonce_verdict o h now f nonce bytes ≡ held_verdict (router_second o now) e nonce bytes
unfolding nonce_verdict
nonce-living o h now f e nonce bytes k q n =
    let cs = of_flow f h in
    let l : lives h f now ≡ true = living cs now (omega (arith, k.end)) in
    let p = some_last cs now (omega (arith, k.end)) in
    let w = k.holder p.0 p.1 in
    let u : used h e.grant now ≡ e.used = subst (λ z. cond (lives h z now) (bytes_of e.grant (run [] (of_flow z h))) 0 ≡ e.used) (sym q) (ap (λ t. cond t (bytes_of e.grant (run [] (of_flow f h))) 0) l ∙ sym k.used) in
    ap (λ c. nonce_rows o h now f nonce bytes c) p.1
    ∙ (ap (λ (g : Grant). cond (not (lives h f now) || not (eqb p.0.nonce nonce)) UnknownNonce (cond (leb (g.second + g.rights.t) (router_second o now)) Expired (cond (ltb (1024 * g.rights.n) (used h g now + bytes)) OverN (Authorised g)))) w.0
    ∙ (ap (λ x. cond (not (lives h f now) || not (eqb x nonce)) UnknownNonce (cond (leb (e.grant.second + e.grant.rights.t) (router_second o now)) Expired (cond (ltb (1024 * e.grant.rights.n) (used h e.grant now + bytes)) OverN (Authorised e.grant)))) w.1
    ∙ (ap (λ t. cond (not t || not (eqb e.nonce nonce)) UnknownNonce (cond (leb (e.grant.second + e.grant.rights.t) (router_second o now)) Expired (cond (ltb (1024 * e.grant.rights.n) (used h e.grant now + bytes)) OverN (Authorised e.grant)))) l
    ∙ ap (λ x. cond (not (eqb e.nonce nonce)) UnknownNonce (cond (leb (e.grant.second + e.grant.rights.t) (router_second o now)) Expired (cond (ltb (1024 * e.grant.rights.n) (x + bytes)) OverN (Authorised e.grant)))) u)))

unknown : (o : ℕ) (h : List Charge) (now : ℕ) (f : Flow) (nonce bytes : ℕ) (c : Option Charge) → lives h f now ≡ false → UnknownNonce ≡ nonce_rows o h now f nonce bytes c
unknown o h now f nonce bytes None l = refl
unknown o h now f nonce bytes (Some c) l =
    sym (ap (λ t. cond (not t || not (eqb c.nonce nonce)) UnknownNonce (cond (leb (c.grant.second + c.grant.rights.t) (router_second o now)) Expired (cond (ltb (1024 * c.grant.rights.n) (used h c.grant now + bytes)) OverN (Authorised c.grant)))) l)

-- a flow that doesn't live has no nonce
pub nonce-gone : (o : ℕ) (h : List Charge) (now : ℕ) (f : Flow) (nonce bytes : ℕ) → lives h f now ≡ false → UnknownNonce ≡ nonce_verdict o h now f nonce bytes
unfolding nonce_verdict
nonce-gone o h now f nonce bytes l = unknown o h now f nonce bytes (holder h f) l

-- what is known where a nonce of a living flow is authorised
held_cases : (a b d : Bool) (g k : Grant) → cond a UnknownNonce (cond b Expired (cond d OverN (Authorised g))) ≡ Authorised k → (d ≡ false) × (g ≡ k)
held_cases a b d g k h = grind arith

pub held_fits : (second : ℕ) (e : Entry) (nonce bytes : ℕ) (k : Grant) → held_verdict second e nonce bytes ≡ Authorised k → (e.used + bytes ≤ 1024 * e.grant.rights.n) × (e.grant ≡ k)
held_fits second e nonce bytes k t =
    let r = held_cases (not (eqb e.nonce nonce)) (leb (e.grant.second + e.grant.rights.t) second) (ltb (1024 * e.grant.rights.n) (e.used + bytes)) e.grant k t in
    (let w = r.0 in grind (arith, nat_tests), r.1)
