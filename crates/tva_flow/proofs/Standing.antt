-- A cache goes on to stand for the history.
use Rattle.tva_flow.proofs.Common.{◌≡◌, ℕ, ◌<◌, ◌≤◌, cond, List, [], ◌∷◌, ◌++◌, length, set, get_or, Some, None, sym, ap, ◌∙◌, subst, inl, inr, ◌⊎◌, zero, suc, arith, length-append, length-set, Grant, Entry, Flow, Charge, same_flow, of_flow, IsAuthorised, Holds, IsKept, StandsFor, cache, entry_of, AreApart, IsChargeable}
use Rattle.tva_flow.proofs.Same.{flow_tells, by_flow}
use Rattle.tva_flow.proofs.Pushes.{of_flow-push, past-push, past-later, next-push}
use Rattle.tva_flow.proofs.Entries.{not_there, entry_of-set, apart-set, entry_of-push, apart-push}
use Rattle.tva_flow.proofs.Steps.{not_living, kept_later, kept-from_holds, dead_now}

-- time goes on
pub stands-later : (s o last now : ℕ) (es : List Entry) (h : List Charge) → StandsFor (cache s o last es) h → last ≤ now → StandsFor (cache s o now es) h
stands-later s o last now es h v l = record {
  past = past-later last now h l v.past;
  charges = v.charges;
  kept = λ f. kept_later (entry_of f es) (of_flow f h) last now l (v.kept f);
  few = v.few;
  apart = v.apart;
}

pub entry_from_place : (es : List Entry) (i : ℕ) (e : Entry) → AreApart es → i < length es → e ≡ get_or es i e → entry_of e.grant.flow es ≡ Some e
entry_from_place [] i e a n s = absurd (omega arith)
entry_from_place (d ∷ ds) zero e a n s = by_flow d.grant.flow e.grant.flow (λ b. cond b (Some d) (entry_of e.grant.flow ds) ≡ Some e) (λ k. ap Some (sym s)) (λ k. absurd (k (ap (λ (x : Entry). x.grant.flow) (sym s))))
entry_from_place (d ∷ ds) (suc i) e a n s = grind (arith, flow_tells, entry_from_place ds i e a.1 (omega arith) s, not_there d.grant.flow ds i e a.0 (omega arith) s)

flow_of_new : (f : Flow) (h : List Charge) (x : Charge) (new : Entry) → new.grant.flow ≡ x.grant.flow → of_flow f (h ++ x ∷ []) ≡ cond (same_flow new.grant.flow f) (of_flow f h ++ x ∷ []) (of_flow f h)
flow_of_new f h x new g = subst (λ z. of_flow f (h ++ x ∷ []) ≡ cond (same_flow z f) (of_flow f h ++ x ∷ []) (of_flow f h)) (sym g) (of_flow-push f h x)

-- a charge whose entry is written over its own, or over that of a flow that no longer lives
pub stands-set : (s o last : ℕ) (es : List Entry) (h : List Charge) (x : Charge) (i : ℕ) (old new : Entry) → StandsFor (cache s o last es) h → last ≤ x.time → i < length es → old ≡ get_or es i old
    → new.grant ≡ x.grant → (old.grant.flow ≡ x.grant.flow) ⊎ ((old.end ≤ x.time) × (entry_of x.grant.flow es ≡ None))
    → Holds (of_flow x.grant.flow h ++ x ∷ []) new → IsAuthorised s o h x → IsChargeable x.grant x.length → StandsFor (cache s o x.time (set es i new)) (h ++ x ∷ [])
stands-set s o last es h x i old new v l n r g w k t m =
    let gf : new.grant.flow ≡ x.grant.flow = ap (λ (y : Grant). y.flow) g in
    let side : (new.grant.flow ≡ old.grant.flow) ⊎ (entry_of new.grant.flow es ≡ None) = elim w [ inl y ↦ inl (gf ∙ sym y) | inr y ↦ inr (rw gf y.1) ] in
    record {
      past = past-push x.time h x (past-later last x.time h l v.past) (omega arith);
      charges = next-push s o [] h x v.charges (record { order = past-later last x.time h l v.past; packet = m; authorised = t });
      kept = λ f. rw (entry_of-set f es i old new v.apart n r side, flow_of_new f h x new gf)
          (by_flow new.grant.flow f (λ b. IsKept (cond b (Some new) (cond (same_flow old.grant.flow f) None (entry_of f es))) (cond b (of_flow f h ++ x ∷ []) (of_flow f h)) x.time)
          (λ e. kept-from_holds (of_flow f h ++ x ∷ []) x.time new (subst (λ z. Holds (of_flow z h ++ x ∷ []) new) (sym gf ∙ e) k))
          (λ e. by_flow old.grant.flow f (λ b. IsKept (cond b None (entry_of f es)) (of_flow f h) x.time)
          (λ o. elim w [
            | inl y ↦ absurd (e (gf ∙ (sym y ∙ o)))
            | inr y ↦ not_living (of_flow f h) x.time (dead_now (of_flow f h) last x.time old l (subst (λ z. IsKept z (of_flow f h) last) (subst (λ z. entry_of z es ≡ Some old) o (entry_from_place es i old v.apart n r)) (v.kept f)) y.0)
          ])
          (λ o. kept_later (entry_of f es) (of_flow f h) last x.time l (v.kept f))));
      few = rw (length-set es i new) v.few;
      apart = apart-set es i old new v.apart n r side;
    }

-- a charge whose entry is a further one
pub stands-push : (s o last : ℕ) (es : List Entry) (h : List Charge) (x : Charge) (new : Entry) → StandsFor (cache s o last es) h → last ≤ x.time → length es < s
    → new.grant ≡ x.grant → entry_of x.grant.flow es ≡ None
    → Holds (of_flow x.grant.flow h ++ x ∷ []) new → IsAuthorised s o h x → IsChargeable x.grant x.length → StandsFor (cache s o x.time (es ++ new ∷ [])) (h ++ x ∷ [])
stands-push s o last es h x new v l n g w k t m =
    let gf : new.grant.flow ≡ x.grant.flow = ap (λ (y : Grant). y.flow) g in
    let side : entry_of new.grant.flow es ≡ None = rw gf w in
    record {
      past = past-push x.time h x (past-later last x.time h l v.past) (omega arith);
      charges = next-push s o [] h x v.charges (record { order = past-later last x.time h l v.past; packet = m; authorised = t });
      kept = λ f. rw (entry_of-push f es new side, flow_of_new f h x new gf)
          (by_flow new.grant.flow f (λ b. IsKept (cond b (Some new) (entry_of f es)) (cond b (of_flow f h ++ x ∷ []) (of_flow f h)) x.time)
          (λ e. kept-from_holds (of_flow f h ++ x ∷ []) x.time new (subst (λ z. Holds (of_flow z h ++ x ∷ []) new) (sym gf ∙ e) k))
          (λ e. kept_later (entry_of f es) (of_flow f h) last x.time l (v.kept f)));
      few = omega (arith, length-append es (new ∷ []));
      apart = apart-push es new v.apart side;
    }
