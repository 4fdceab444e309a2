-- Which node has a name.
use Rattle.tva_plan.proofs.Common.{◌≡◌, ◌∙◌, sym, ap, refl, ℕ, suc, ◌+◌, ◌<◌, List, [], ◌∷◌, length, get_or, drop, drop-cons, cond, true, false, Bool, Option, Some, None, IfSome, arith, add-one, name_at, named_from}
use Rattle.std.specs.Str.{bytes_eq}
use Rattle.tva_plan.specs.declared.config.NodePlan.{NodePlan}

-- the first of the plans that are left has the name, or one of those behind it
named_from-drop : (plans : List NodePlan) (n : ℕ) (plan : NodePlan) (name : List ℕ) → n < length plans → plan ≡ get_or plans n plan → named_from name n (drop n plans) ≡ cond (bytes_eq (name_at plan) name) (Some n) (named_from name (n + 1) (drop (n + 1) plans))
named_from-drop plans n plan name within is =
    ap (named_from name n) (drop-cons plans n plan within) ∙ (rw (← is, add-one) refl)

-- a name that is put in front of those that were put
pub named_from-before : (plans : List NodePlan) (number n : ℕ) (plan : NodePlan) (shown name : List ℕ) (old new : Option ℕ) → number ≡ n + 1 → n < length plans → plan ≡ get_or plans n plan → shown ≡ name_at plan → old ≡ named_from name number (drop number plans) → new ≡ cond (bytes_eq shown name) (Some n) old → new ≡ named_from name n (drop n plans)
named_from-before plans number n plan shown name old new eq within is e before after =
    after ∙ (rw (before, e, eq) (sym (named_from-drop plans n plan name within is)))

-- the number is that of a plan
named_from-cond : (b : Bool) (number count : ℕ) (rest : Option ℕ) → IfSome rest (λ k. k < number + 1 + count) → IfSome (cond b (Some number) rest) (λ k. k < number + suc count)
named_from-cond true number count rest h = omega arith
named_from-cond false number count (Some k) h = omega (arith, h)
named_from-cond false number count None h = h

pub named_from-within : (name : List ℕ) (number : ℕ) (plans : List NodePlan) → IfSome (named_from name number plans) (λ k. k < number + length plans)
named_from-within name number [] = tt
named_from-within name number (plan ∷ plans) = named_from-cond (bytes_eq (name_at plan) name) number (length plans) _ (named_from-within name (number + 1) plans)
