-- The entry of a flow, once one entry is written.
use Rattle.tva_flow.proofs.Common.{◌≡◌, ℕ, ◌+◌, ◌<◌, cond, List, [], ◌∷◌, ◌++◌, length, get_or, set, take, Some, None, refl, sym, ap, ◌∙◌, inl, inr, ◌⊎◌, zero, suc, arith, Flow, Entry, same_flow, entry_of, AreApart}
use Rattle.tva_flow.proofs.Same.{flow_tells, by_flow}

-- where a flow has no entry, the first is not its own, and the rest has none either
pub not_own : (f : Flow) (d : Entry) (ds : List Entry) → entry_of f (d ∷ ds) ≡ None → (d.grant.flow ≡ f → ⊥) × (entry_of f ds ≡ None)
not_own f d ds = by_flow d.grant.flow f (λ b. cond b (Some d) (entry_of f ds) ≡ None → (d.grant.flow ≡ f → ⊥) × (entry_of f ds ≡ None)) (λ e h. absurd (cc)) (λ e h. (e, h))

-- a flow without an entry stands at no place
pub not_there : (f : Flow) (es : List Entry) (i : ℕ) (e : Entry) → entry_of f es ≡ None → i < length es → e ≡ get_or es i e → e.grant.flow ≡ f → ⊥
not_there f [] i e n h s q = absurd (omega arith)
not_there f (d ∷ ds) zero e n h s q = (not_own f d ds n).0 (ap (λ (x : Entry). x.grant.flow) (sym s) ∙ q)
not_there f (d ∷ ds) (suc i) e n h s q = not_there f ds i e (not_own f d ds n).1 (omega arith) s q

pub entry_of-push : (f : Flow) (es : List Entry) (new : Entry) → entry_of new.grant.flow es ≡ None → entry_of f (es ++ new ∷ []) ≡ cond (same_flow new.grant.flow f) (Some new) (entry_of f es)
entry_of-push f [] new n = refl
entry_of-push f (d ∷ ds) new n = grind (arith, flow_tells, entry_of-push f ds new)

pub apart-push : (es : List Entry) (new : Entry) → AreApart es → entry_of new.grant.flow es ≡ None → AreApart (es ++ new ∷ [])
apart-push [] new a n = (refl, tt)
apart-push (d ∷ ds) new a n = grind (arith, flow_tells, entry_of-push d.grant.flow ds new, apart-push ds new a.1)

-- an entry written over an entry that is its own or another flow's
pub entry_of-set : (f : Flow) (es : List Entry) (i : ℕ) (old new : Entry) → AreApart es → i < length es → old ≡ get_or es i old → (new.grant.flow ≡ old.grant.flow) ⊎ (entry_of new.grant.flow es ≡ None)
    → entry_of f (set es i new) ≡ cond (same_flow new.grant.flow f) (Some new) (cond (same_flow old.grant.flow f) None (entry_of f es))
entry_of-set f [] i old new a h s w = absurd (omega arith)
entry_of-set f (d ∷ ds) zero old new a h s w = grind (arith, flow_tells)
entry_of-set f (d ∷ ds) (suc i) old new a h s w =
    let rest : (new.grant.flow ≡ old.grant.flow) ⊎ (entry_of new.grant.flow ds ≡ None) = elim w [ inl x ↦ inl x | inr x ↦ inr (not_own new.grant.flow d ds x).1 ] in
    grind (arith, flow_tells, entry_of-set f ds i old new a.1 (omega arith) s rest, not_there d.grant.flow ds i old a.0 (omega arith) s)

pub apart-set : (es : List Entry) (i : ℕ) (old new : Entry) → AreApart es → i < length es → old ≡ get_or es i old → (new.grant.flow ≡ old.grant.flow) ⊎ (entry_of new.grant.flow es ≡ None) → AreApart (set es i new)
apart-set [] i old new a h s w = absurd (omega arith)
apart-set (d ∷ ds) zero old new a h s w = grind (arith, flow_tells, not_own new.grant.flow d ds)
apart-set (d ∷ ds) (suc i) old new a h s w =
    let rest : (new.grant.flow ≡ old.grant.flow) ⊎ (entry_of new.grant.flow ds ≡ None) = elim w [ inl x ↦ inl x | inr x ↦ inr (not_own new.grant.flow d ds x).1 ] in
    grind (arith, flow_tells, entry_of-set d.grant.flow ds i old new a.1 (omega arith) s rest, not_there d.grant.flow ds i old a.0 (omega arith) s, apart-set ds i old new a.1 (omega arith) s rest)

take_suc_add : (i : ℕ) (d : Entry) (ds : List Entry) → take (suc i + 1) (d ∷ ds) ≡ d ∷ take (i + 1) ds
take_suc_add i d ds = ap (λ n. take n (d ∷ ds)) (let e : suc i + 1 ≡ suc (i + 1) = omega arith in e)

pub not_first : (f : Flow) (d : Entry) (ds : List Entry) → (d.grant.flow ≡ f → ⊥) → entry_of f ds ≡ None → entry_of f (d ∷ ds) ≡ None
not_first f d ds n h = by_flow d.grant.flow f (λ b. cond b (Some d) (entry_of f ds) ≡ None) (λ e. absurd (n e)) (λ e. h)

-- one more entry that is not the flow's
none_more : (f : Flow) (es : List Entry) (i : ℕ) → entry_of f (take i es) ≡ None → i < length es → ((e : Entry) → e ≡ get_or es i e → e.grant.flow ≡ f → ⊥) → entry_of f (take (i + 1) es) ≡ None
none_more f [] i n h k = absurd (omega arith)
none_more f (d ∷ ds) zero n h k = not_first f d [] (k d refl) refl
none_more f (d ∷ ds) (suc i) n h k =
    let m = not_own f d (take i ds) n in
    rw take_suc_add (not_first f d (take (i + 1) ds) m.0 (none_more f ds i m.1 (omega arith) k))
