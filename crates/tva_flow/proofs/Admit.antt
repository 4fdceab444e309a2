-- What each answer of a cache says.
use Rattle.tva_flow.proofs.Common.{◌≡◌, ℕ, ◌+◌, ◌*◌, ◌<◌, ◌≤◌, Bool, true, false, not, cond, eqb, ltb, leb, List, [], ◌∷◌, ◌++◌, length, get_or, set, Option, Some, None, refl, sym, ap, ◌∙◌, subst, inl, inr, arith, append-nil, All, MatchOption, nat_tests, Flow, Grant, router_second, Entry, Verdict, Authorised, Expired, OverN, UnknownNonce, CacheFull, Superseded, Charge, charge, end_of, run, bytes_of, of_flow, living_count, is_authorised, list_verdict, nonce_verdict, IsChargeable, cache, entry_of, IsKept, StandsFor, blocks, counted, living_verdict, held_verdict, opening_verdict, renewed, opened, Admits}
use Rattle.tva_flow.proofs.Steps.{holds_now, dead_now, not_living, end_from_dead, holds-new, holds-more}
use Rattle.tva_flow.proofs.Rising.{rising}
use Rattle.tva_flow.proofs.Standing.{stands-later, stands-set, stands-push, entry_from_place}
use Rattle.tva_flow.proofs.Counting.{living_count_is, live_flows, length-live_flows-le, length-live_flows-lt, length-live_flows-all}
use Rattle.tva_flow.proofs.ByEntry.{verdict-living, verdict-opening, living_rows, some_last, bytes_known, nonce-living, nonce-gone}
use Rattle.tva_flow.proofs.Indexed.{some_place}
use Rattle.tva_flow.proofs.Near.{own_counted}
use Rattle.tva_flow.proofs.Places.{no_charge}

-- a refusal
pub admits-refused : (s o last now : ℕ) (es : List Entry) (h : List Charge) (wanted : Verdict) (nonce bytes : ℕ) (r : Verdict) → StandsFor (cache s o last es) h → last ≤ now → r ≡ wanted → is_authorised r ≡ false → Admits s o h now nonce bytes wanted r es
admits-refused s o last now es h wanted nonce bytes r v l e n = (e, subst (λ x. StandsFor (cache s o now es) (h ++ x)) (sym (no_charge r now nonce bytes n)) (rw append-nil (stands-later s o last now es h v l)))

-- the entry at a place is that of the flow
kept_at : (s o last : ℕ) (es : List Entry) (h : List Charge) (f : Flow) (i : ℕ) (e : Entry) → StandsFor (cache s o last es) h → i < length es → e ≡ get_or es i e → e.grant.flow ≡ f → IsKept (Some e) (of_flow f h) last
kept_at s o last es h f i e v n q k = subst (λ z. IsKept z (of_flow f h) last) (subst (λ z. entry_of z es ≡ Some e) k (entry_from_place es i e v.apart n q)) (v.kept f)

-- a living flow's verdict, whichever it is
pub verdict_at : (s o last now : ℕ) (es : List Entry) (h : List Charge) (i : ℕ) (e : Entry) (g : Grant) (len : ℕ) → StandsFor (cache s o last es) h → last ≤ now → i < length es → e ≡ get_or es i e → e.grant.flow ≡ g.flow → now < e.end
    → list_verdict s h now g len ≡ living_verdict e g len
verdict_at s o last now es h i e g len v l n q k a =
    verdict-living s h now e g len (holds_now (of_flow g.flow h) last now e l (kept_at s o last es h g.flow i e v n q k) a) (rising s o h v.charges g.flow) a

pub admits-denied : (s o last now : ℕ) (es : List Entry) (h : List Charge) (i : ℕ) (e : Entry) (g : Grant) (nonce len : ℕ) (r : Verdict) → StandsFor (cache s o last es) h → last ≤ now → i < length es → e ≡ get_or es i e → e.grant.flow ≡ g.flow → now < e.end
    → r ≡ living_verdict e g len → is_authorised r ≡ false → Admits s o h now nonce len (list_verdict s h now g len) r es
admits-denied s o last now es h i e g nonce len r v l n q k a t d =
    admits-refused s o last now es h (list_verdict s h now g len) nonce len r v l (t ∙ sym (verdict_at s o last now es h i e g len v l n q k a)) d

-- the bytes that the flow's run has under the grant, where the packet is not refused
pub bytes_at : (s o last now : ℕ) (es : List Entry) (h : List Charge) (i : ℕ) (e : Entry) (g : Grant) (len : ℕ) → StandsFor (cache s o last es) h → last ≤ now → i < length es → e ≡ get_or es i e → e.grant.flow ≡ g.flow → now < e.end
    → living_verdict e g len ≡ Authorised g → counted e g ≡ bytes_of g (run [] (of_flow g.flow h))
bytes_at s o last now es h i e g len v l n q k a t =
    let w = holds_now (of_flow g.flow h) last now e l (kept_at s o last es h g.flow i e v n q k) a in
    let p = some_last (of_flow g.flow h) now (omega (arith, w.end)) in
    sym (bytes_known (of_flow g.flow h) e p.0 g w (rising s o h v.charges g.flow) p.1 (living_rows e g len t).0)

pub admits-renewed : (s o last now : ℕ) (es : List Entry) (h : List Charge) (i : ℕ) (e : Entry) (g : Grant) (cap nonce len : ℕ) → StandsFor (cache s o last es) h → last ≤ now → i < length es → e ≡ get_or es i e → e.grant.flow ≡ g.flow → now < e.end
    → living_verdict e g len ≡ Authorised g → IsChargeable g len → Admits s o h now nonce len (list_verdict s h now g len) (Authorised g) (set es i (renewed e g cap nonce len))
admits-renewed s o last now es h i e g cap nonce len v l n q k a t m =
    let w = holds_now (of_flow g.flow h) last now e l (kept_at s o last es h g.flow i e v n q k) a in
    let j = verdict_at s o last now es h i e g len v l n q k a ∙ t in
    let b = bytes_at s o last now es h i e g len v l n q k a t in (
      sym j,
      stands-set s o last es h (charge now g nonce len) i e (renewed e g cap nonce len) v l n q refl (inl k)
          (holds-more (of_flow g.flow h) now e g cap nonce len (counted e g + len) w a (ap (λ x. x + len) b)) (inl j) m,
    )

-- a flow that doesn't live, where the cache has room
opening_row : (s count : ℕ) (g : Grant) (len : ℕ) → len ≤ 1024 * g.rights.n → count < s → opening_verdict s count g len ≡ Authorised g
opening_row s count g len h c = grind (arith, nat_tests)

opening_full : (s count : ℕ) (g : Grant) (len : ℕ) → len ≤ 1024 * g.rights.n → s ≤ count → CacheFull ≡ opening_verdict s count g len
opening_full s count g len h c = grind (arith, nat_tests)

opening_over : (s count : ℕ) (g : Grant) (len : ℕ) → 1024 * g.rights.n < len → OverN ≡ opening_verdict s count g len
opening_over s count g len h = grind (arith, nat_tests)

count_at : (s o last now : ℕ) (es : List Entry) (h : List Charge) → StandsFor (cache s o last es) h → last ≤ now → living_count h now ≡ length (live_flows now es)
count_at s o last now es h v l = living_count_is s o now es h (stands-later s o last now es h v l)

pub admits-opened_own : (s o last now : ℕ) (es : List Entry) (h : List Charge) (i : ℕ) (e : Entry) (g : Grant) (cap nonce len : ℕ) → StandsFor (cache s o last es) h → last ≤ now → i < length es → e ≡ get_or es i e → e.grant.flow ≡ g.flow → e.end ≤ now
    → len ≤ 1024 * g.rights.n → IsChargeable g len → Admits s o h now nonce len (list_verdict s h now g len) (Authorised g) (set es i (opened now g cap nonce len))
admits-opened_own s o last now es h i e g cap nonce len v l n q k a t m =
    let d = dead_now (of_flow g.flow h) last now e l (kept_at s o last es h g.flow i e v n q k) a in
    let j = verdict-opening s h now g len (not_living (of_flow g.flow h) now d) ∙ opening_row s (living_count h now) g len t (omega (arith, count_at s o last now es h v l, length-live_flows-lt now es i e n q a, v.few)) in
    (sym j, stands-set s o last es h (charge now g nonce len) i e (opened now g cap nonce len) v l n q refl (inl k) (holds-new (of_flow g.flow h) now g cap nonce len d) (inl j) m)

none_dead : (s o last now : ℕ) (es : List Entry) (h : List Charge) (f : Flow) → StandsFor (cache s o last es) h → last ≤ now → entry_of f es ≡ None → end_of (of_flow f h) ≤ now
none_dead s o last now es h f v l n = let k = end_from_dead (of_flow f h) last (subst (λ z. IsKept z (of_flow f h) last) n (v.kept f)) in omega arith

pub admits-opened_over : (s o last now : ℕ) (es : List Entry) (h : List Charge) (i : ℕ) (e : Entry) (g : Grant) (cap nonce len : ℕ) → StandsFor (cache s o last es) h → last ≤ now → i < length es → e ≡ get_or es i e → entry_of g.flow es ≡ None → e.end ≤ now
    → len ≤ 1024 * g.rights.n → IsChargeable g len → Admits s o h now nonce len (list_verdict s h now g len) (Authorised g) (set es i (opened now g cap nonce len))
admits-opened_over s o last now es h i e g cap nonce len v l n q k a t m =
    let d = none_dead s o last now es h g.flow v l k in
    let j = verdict-opening s h now g len (not_living (of_flow g.flow h) now d) ∙ opening_row s (living_count h now) g len t (omega (arith, count_at s o last now es h v l, length-live_flows-lt now es i e n q a, v.few)) in
    (sym j, stands-set s o last es h (charge now g nonce len) i e (opened now g cap nonce len) v l n q refl (inr (a, k)) (holds-new (of_flow g.flow h) now g cap nonce len d) (inl j) m)

pub admits-opened_next : (s o last now : ℕ) (es : List Entry) (h : List Charge) (g : Grant) (cap nonce len : ℕ) → StandsFor (cache s o last es) h → last ≤ now → length es < s → entry_of g.flow es ≡ None
    → len ≤ 1024 * g.rights.n → IsChargeable g len → Admits s o h now nonce len (list_verdict s h now g len) (Authorised g) (es ++ opened now g cap nonce len ∷ [])
admits-opened_next s o last now es h g cap nonce len v l n k t m =
    let d = none_dead s o last now es h g.flow v l k in
    let j = verdict-opening s h now g len (not_living (of_flow g.flow h) now d) ∙ opening_row s (living_count h now) g len t (omega (arith, count_at s o last now es h v l, length-live_flows-le now es)) in
    (sym j, stands-push s o last es h (charge now g nonce len) (opened now g cap nonce len) v l n refl k (holds-new (of_flow g.flow h) now g cap nonce len d) (inl j) m)

pub admits-full : (s o last now : ℕ) (es : List Entry) (h : List Charge) (g : Grant) (nonce len : ℕ) → StandsFor (cache s o last es) h → last ≤ now → s ≤ length es → All (λ e. now < e.end) es → entry_of g.flow es ≡ None
    → len ≤ 1024 * g.rights.n → Admits s o h now nonce len (list_verdict s h now g len) CacheFull es
admits-full s o last now es h g nonce len v l n a k t =
    admits-refused s o last now es h (list_verdict s h now g len) nonce len CacheFull v l
    (opening_full s (living_count h now) g len t (omega (arith, count_at s o last now es h v l, length-live_flows-all now es a)) ∙ sym (verdict-opening s h now g len (not_living (of_flow g.flow h) now (none_dead s o last now es h g.flow v l k)))) refl

pub admits-over : (s o last now : ℕ) (es : List Entry) (h : List Charge) (g : Grant) (nonce len : ℕ) → StandsFor (cache s o last es) h → last ≤ now → end_of (of_flow g.flow h) ≤ now
    → 1024 * g.rights.n < len → Admits s o h now nonce len (list_verdict s h now g len) OverN es
admits-over s o last now es h g nonce len v l d t =
    admits-refused s o last now es h (list_verdict s h now g len) nonce len OverN v l (opening_over s (living_count h now) g len t ∙ sym (verdict-opening s h now g len (not_living (of_flow g.flow h) now d))) refl

-- the answers in the form in which the code meets them
three : (b c : Bool) (g : Grant) → is_authorised (cond b Superseded (cond c OverN (Authorised g))) ≡ true → cond b Superseded (cond c OverN (Authorised g)) ≡ Authorised g
three b c g h = grind arith

authorised_is : (e : Entry) (g : Grant) (len : ℕ) → is_authorised (living_verdict e g len) ≡ true → living_verdict e g len ≡ Authorised g
authorised_is e g len = three (blocks e g) (ltb (1024 * g.rights.n) (counted e g + len)) g

pub judged : (e : Entry) (g : Grant) (len : ℕ) (r : Verdict) → r ≡ living_verdict e g len → is_authorised r ≡ true → living_verdict e g len ≡ Authorised g
judged e g len r t a = authorised_is e g len (subst (λ z. is_authorised z ≡ true) t a)

pub answers-renewed : (now : ℕ) (es : List Entry) (i : ℕ) (e : Entry) (g : Grant) (cap nonce len : ℕ) (r : Verdict) → i < length es → e ≡ get_or es i e → (e.grant.flow ≡ g.flow) × (now < e.end) → r ≡ living_verdict e g len → is_authorised r ≡ true → IsChargeable g len
    → (s o last : ℕ) (h : List Charge) → last ≤ now → StandsFor (cache s o last es) h → Admits s o h now nonce len (list_verdict s h now g len) r (set es i (renewed e g cap nonce len))
answers-renewed now es i e g cap nonce len r n q k t a m s o last h l v =
    let j = judged e g len r t a in
    subst (λ z. Admits s o h now nonce len (list_verdict s h now g len) z (set es i (renewed e g cap nonce len))) (sym (t ∙ j)) (admits-renewed s o last now es h i e g cap nonce len v l n q k.0 k.1 j m)

pub answers-denied : (now : ℕ) (es : List Entry) (i : ℕ) (e : Entry) (g : Grant) (nonce len : ℕ) (r : Verdict) → i < length es → e ≡ get_or es i e → (e.grant.flow ≡ g.flow) × (now < e.end) → r ≡ living_verdict e g len → is_authorised r ≡ false
    → (s o last : ℕ) (h : List Charge) → last ≤ now → StandsFor (cache s o last es) h → Admits s o h now nonce len (list_verdict s h now g len) r es
answers-denied now es i e g nonce len r n q k t a s o last h l v = admits-denied s o last now es h i e g nonce len r v l n q k.0 k.1 t a

-- a flow with no entry, or with one that ended
pub admits-over_at : (s o last now : ℕ) (es : List Entry) (h : List Charge) (at : Option ℕ) (g : Grant) (nonce len : ℕ) → StandsFor (cache s o last es) h → last ≤ now
    → MatchOption at (entry_of g.flow es ≡ None) (λ i. (i < length es) × ((e : Entry) → e ≡ get_or es i e → (e.grant.flow ≡ g.flow) × (e.end ≤ now))) → 1024 * g.rights.n < len → Admits s o h now nonce len (list_verdict s h now g len) OverN es
admits-over_at s o last now es h None g nonce len v l m t = admits-over s o last now es h g nonce len v l (none_dead s o last now es h g.flow v l m) t
admits-over_at s o last now es h (Some i) g nonce len v l m t =
    let e = some_place es i m.0 in
    let q = m.1 e.0 e.1 in
    admits-over s o last now es h g nonce len v l (dead_now (of_flow g.flow h) last now e.0 l (kept_at s o last es h g.flow i e.0 v m.0 e.1 q.0) q.1) t

-- the verdict on a nonce of a living flow
nonce_at : (s o last now : ℕ) (es : List Entry) (h : List Charge) (i : ℕ) (e : Entry) (nonce bytes : ℕ) → StandsFor (cache s o last es) h → last ≤ now → i < length es → e ≡ get_or es i e → now < e.end
    → nonce_verdict o h now e.grant.flow nonce bytes ≡ held_verdict (router_second o now) e nonce bytes
nonce_at s o last now es h i e nonce bytes v l n q a =
    nonce-living o h now e.grant.flow e nonce bytes (holds_now (of_flow e.grant.flow h) last now e l (kept_at s o last es h e.grant.flow i e v n q refl) a) refl a

admits-held : (s o last now : ℕ) (es : List Entry) (h : List Charge) (i : ℕ) (e : Entry) (nonce bytes : ℕ) → StandsFor (cache s o last es) h → last ≤ now → i < length es → e ≡ get_or es i e → now < e.end
    → held_verdict (router_second o now) e nonce bytes ≡ Authorised e.grant → IsChargeable e.grant bytes → Admits s o h now nonce bytes (nonce_verdict o h now e.grant.flow nonce bytes) (Authorised e.grant) (set es i (renewed e e.grant e.cap nonce bytes))
admits-held s o last now es h i e nonce bytes v l n q a t m =
    let w = holds_now (of_flow e.grant.flow h) last now e l (kept_at s o last es h e.grant.flow i e v n q refl) a in
    let j = nonce_at s o last now es h i e nonce bytes v l n q a ∙ t in (
      sym j,
      stands-set s o last es h (charge now e.grant nonce bytes) i e (renewed e e.grant e.cap nonce bytes) v l n q refl (inl refl)
          (holds-more (of_flow e.grant.flow h) now e e.grant e.cap nonce bytes (counted e e.grant + bytes) w a (ap (λ x. x + bytes) (own_counted e ∙ w.used))) (inr j) m,
    )

held_three : (a b d : Bool) (g : Grant) → is_authorised (cond a UnknownNonce (cond b Expired (cond d OverN (Authorised g)))) ≡ true → cond a UnknownNonce (cond b Expired (cond d OverN (Authorised g))) ≡ Authorised g
held_three a b d g h = grind arith

pub held_judged : (second : ℕ) (e : Entry) (nonce bytes : ℕ) (r : Verdict) → r ≡ held_verdict second e nonce bytes → is_authorised r ≡ true → held_verdict second e nonce bytes ≡ Authorised e.grant
held_judged second e nonce bytes r t a =
    held_three (not (eqb e.nonce nonce)) (leb (e.grant.second + e.grant.rights.t) second) (ltb (1024 * e.grant.rights.n) (e.used + bytes)) e.grant (subst (λ z. is_authorised z ≡ true) t a)

pub answers-held : (now second : ℕ) (es : List Entry) (i : ℕ) (e : Entry) (nonce bytes : ℕ) (r : Verdict) → i < length es → e ≡ get_or es i e → now < e.end → r ≡ held_verdict second e nonce bytes → is_authorised r ≡ true → IsChargeable e.grant bytes
    → (f : Flow) (s o last : ℕ) (h : List Charge) → e.grant.flow ≡ f → second ≡ router_second o now → last ≤ now → StandsFor (cache s o last es) h → Admits s o h now nonce bytes (nonce_verdict o h now f nonce bytes) r (set es i (renewed e e.grant e.cap nonce bytes))
answers-held now second es i e nonce bytes r n q a t b m f s o last h k c l v =
    let j = held_judged second e nonce bytes r t b in
    subst (λ z. Admits s o h now nonce bytes (nonce_verdict o h now z nonce bytes) r (set es i (renewed e e.grant e.cap nonce bytes))) k
    (subst (λ z. Admits s o h now nonce bytes (nonce_verdict o h now e.grant.flow nonce bytes) z (set es i (renewed e e.grant e.cap nonce bytes))) (sym (t ∙ j))
    (admits-held s o last now es h i e nonce bytes v l n q a (subst (λ z. held_verdict z e nonce bytes ≡ Authorised e.grant) c j) m))

pub answers-unheld : (now second : ℕ) (es : List Entry) (i : ℕ) (e : Entry) (nonce bytes : ℕ) (r : Verdict) → i < length es → e ≡ get_or es i e → now < e.end → r ≡ held_verdict second e nonce bytes → is_authorised r ≡ false
    → (f : Flow) (s o last : ℕ) (h : List Charge) → e.grant.flow ≡ f → second ≡ router_second o now → last ≤ now → StandsFor (cache s o last es) h → Admits s o h now nonce bytes (nonce_verdict o h now f nonce bytes) r es
answers-unheld now second es i e nonce bytes r n q a t b f s o last h k c l v =
    admits-refused s o last now es h (nonce_verdict o h now f nonce bytes) nonce bytes r v l
    (subst (λ z. r ≡ nonce_verdict o h now z nonce bytes) k (t ∙ (ap (λ z. held_verdict z e nonce bytes) c ∙ sym (nonce_at s o last now es h i e nonce bytes v l n q a)))) b

-- a packet that shows a nonce of a flow that doesn't live
gone : (s o last now : ℕ) (es : List Entry) (h : List Charge) (f : Flow) (nonce bytes : ℕ) → StandsFor (cache s o last es) h → last ≤ now → end_of (of_flow f h) ≤ now → Admits s o h now nonce bytes (nonce_verdict o h now f nonce bytes) UnknownNonce es
gone s o last now es h f nonce bytes v l d =
    admits-refused s o last now es h (nonce_verdict o h now f nonce bytes) nonce bytes UnknownNonce v l (nonce-gone o h now f nonce bytes (not_living (of_flow f h) now d)) refl

pub answers-none : (s o last now : ℕ) (es : List Entry) (h : List Charge) (f : Flow) (nonce bytes : ℕ) → StandsFor (cache s o last es) h → last ≤ now → entry_of f es ≡ None → Admits s o h now nonce bytes (nonce_verdict o h now f nonce bytes) UnknownNonce es
answers-none s o last now es h f nonce bytes v l m = gone s o last now es h f nonce bytes v l (none_dead s o last now es h f v l m)

pub answers-ended : (s o last now : ℕ) (es : List Entry) (h : List Charge) (i : ℕ) (e : Entry) (f : Flow) (nonce bytes : ℕ) → StandsFor (cache s o last es) h → last ≤ now → i < length es → e ≡ get_or es i e → e.grant.flow ≡ f → e.end ≤ now
    → Admits s o h now nonce bytes (nonce_verdict o h now f nonce bytes) UnknownNonce es
answers-ended s o last now es h i e f nonce bytes v l n q k d =
    gone s o last now es h f nonce bytes v l (dead_now (of_flow f h) last now e l (kept_at s o last es h f i e v n q k) d)
