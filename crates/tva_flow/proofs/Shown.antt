-- What was shown for the grants of entries, once one is written or added.
use Rattle.tva_flow.proofs.Common.{◌≡◌, ℕ, ◌<◌, Bool, true, List, [], ◌∷◌, ◌++◌, length, get_or, set, Option, Some, None, refl, sym, ap, ◌∙◌, subst, arith, get_or-set_same, get_or_push, length-set, length_push, All-set, All-push, IfSome, Flow, Grant, Entry, AreShown, IsPlaceOf, IsShown}

pub shown-get : (test : Grant → ℕ → Bool) (es : List Entry) (i : ℕ) (e : Entry) → AreShown test es → i < length es → e ≡ get_or es i e → test e.grant e.cap ≡ true
shown-get test es i e a l q = subst (λ (z : Entry). test z.grant z.cap ≡ true) (sym q) (a i e l)

pub shown-set : (test : Grant → ℕ → Bool) (es : List Entry) (i : ℕ) (new : Entry) → AreShown test es → test new.grant new.cap ≡ true → AreShown test (set es i new)
shown-set test es i new a n = All-set (λ (z : Entry). test z.grant z.cap ≡ true) es i new n a

pub shown-push : (test : Grant → ℕ → Bool) (es : List Entry) (new : Entry) → AreShown test es → test new.grant new.cap ≡ true → AreShown test (es ++ new ∷ [])
shown-push test es new a n = All-push (λ (z : Entry). test z.grant z.cap ≡ true) es new a n

-- the one that was written or added has what was shown
has : (e new : Entry) → e ≡ new → (e.grant ≡ new.grant) × (e.cap ≡ new.cap)
has e new k = (ap (λ (z : Entry). z.grant) k, ap (λ (z : Entry). z.cap) k)

pub is_shown-set : (es : List Entry) (i : ℕ) (new : Entry) → i < length es → IsShown new.grant new.cap (set es i new)
is_shown-set es i new l = (i, omega (arith, l, length-set es i new), λ e q. has e new (q ∙ get_or-set_same es i new e l))

pub is_shown-push : (es : List Entry) (new : Entry) → IsShown new.grant new.cap (es ++ new ∷ [])
is_shown-push es new = (length es, omega (arith, length_push es new), λ e q. has e new (q ∙ get_or_push es new e (length es) refl))

-- the place of a flow's entry is one of an entry
pub within : (es : List Entry) (f : Flow) (at : Option ℕ) → IsPlaceOf es f at → IfSome at (λ i. i < length es)
within es f None p = tt
within es f (Some i) p = p.0
