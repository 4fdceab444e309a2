-- The debt, once time goes on and once one more request starts.
use Rattle.tva_port.proofs.Common.{◌≡◌, ℕ, ◌+◌, ◌-◌, ◌≤◌, Bool, true, false, List, [], ◌∷◌, ◌++◌, filter, arith, leb_tells, sum_by-cons, sum_by_push, LinkLimits, cost, costs, debt, is_between, nat_tests}
use Rattle.tva_port.specs.Requests.{Start}

-- no start is later than that
abbrev pub AreBy : ℕ → List Start → Type 0
AreBy time [] = Unit {0}
AreBy time (s ∷ ss) = (s.time ≤ time) × AreBy time ss

abbrev pub cost_at : LinkLimits → Start → ℕ
cost_at l s = cost l s.length

-- each sum falls as time passes, so the greatest does
pub debt-later : (l : LinkLimits) (ss : List Start) (now later : ℕ) → AreBy now ss → now ≤ later → debt l ss later ≡ debt l ss now - (later - now)
debt-later l [] now later b h = omega arith
debt-later l (s ∷ ss) now later b h = omega (arith, debt-later l ss now later b.1 h, b.0)

-- a further start adds its cost to each sum, and its own sum is no greater than these
pub debt-push : (l : LinkLimits) (ss : List Start) (s : Start) (now : ℕ) → AreBy s.time ss → s.time ≤ now → debt l (ss ++ s ∷ []) now ≡ (debt l ss s.time + cost_at l s) - (now - s.time)
debt-push l [] s now b h = omega (arith, sum_by-cons (cost_at l) s [])
debt-push l (k ∷ ks) s now b h = omega (arith, debt-push l ks s now b.1 h, b.0, sum_by-cons (cost_at l) k ks, sum_by-cons (cost_at l) k (ks ++ s ∷ []), sum_by_push (cost_at l) ks s)

pub by_between : (from to : ℕ) (s : Start) (P : Bool → Type 0) → (from ≤ s.time → s.time ≤ to → P true) → P false → P (is_between from to s)
by_between from to s P t f = grind (arith, nat_tests, leb_tells)

kept_costs : (l : LinkLimits) (p : Start → Bool) (ss : List Start) → costs l (filter p ss) ≤ costs l ss
kept_costs l p [] = omega arith
kept_costs l p (s ∷ ss) = grind (arith, nat_tests, (sum_by-cons (cost_at l) s (filter p ss)), (sum_by-cons (cost_at l) s ss), (kept_costs l p ss))

-- what the starts from a time on cost, less the time since, is owed
pub costs_owed : (l : LinkLimits) (ss : List Start) (from to now : ℕ) → AreBy now ss → costs l (filter (is_between from to) ss) - (now - from) ≤ debt l ss now
costs_owed l [] from to now b = omega arith
costs_owed l (s ∷ ss) from to now b = grind (arith, nat_tests, by_between, (kept_costs l (is_between from to) ss), (sum_by-cons (cost_at l) s (filter (is_between from to) ss)), (sum_by-cons (cost_at l) s ss), (costs_owed l ss from to now b.1))
