-- What one more charge changes.
use Rattle.tva_flow.proofs.Common.{nat_tests, ◌≡◌, ℕ, ◌+◌, ◌≤◌, Bool, true, false, not, ◌||◌, cond, List, [], ◌∷◌, ◌++◌, Some, refl, sym, ap, subst, max, arith, append_assoc, append-nil, sum_by, sum_by-cons, sum_by_push, All-push, All-weaker, Flow, credit_of, Charge, same_flow, end_of, is_living, restarts, run, last_or, last_charge, of_flow, NoChargeLater, IsNext, AreNext}

abbrev pub credit : Charge → ℕ
credit c = credit_of c.length c.grant.rights

abbrev pub credits : List Charge → ℕ
credits cs = sum_by credit cs

-- the cache's step: the greater of the end and the time, and the credit
pub end_of-push : (cs : List Charge) (c : Charge) → end_of (cs ++ c ∷ []) ≡ max (end_of cs) c.time + credit c
end_of-push [] c = omega (arith, sum_by-cons credit c [])
end_of-push (d ∷ ds) c = omega (arith, end_of-push ds c, sum_by-cons credit d ds, sum_by-cons credit d (ds ++ c ∷ []), sum_by_push credit ds c)

restarts-push : (before cs : List Charge) (c : Charge) → restarts before (cs ++ c ∷ []) ≡ (restarts before cs || not (is_living (before ++ cs) c.time))
restarts-push before [] c = rw (append-nil before) (elim (is_living before c.time) as (λ b. (not b || false) ≡ not b) [ true ↦ refl | false ↦ refl ])
restarts-push before (d ∷ ds) c = grind (arith, nat_tests, append_assoc before (d ∷ []) ds, restarts-push (before ++ d ∷ []) ds c)

one_more : (r l : Bool) (later all : List Charge) (c : Charge) → cond (r || not l) (cond l (later ++ c ∷ []) (c ∷ [])) (all ++ c ∷ []) ≡ cond l (cond r later all ++ c ∷ []) (c ∷ [])
one_more r l later all c = grind arith

pub run-push : (before cs : List Charge) (c : Charge) → run before (cs ++ c ∷ []) ≡ cond (is_living (before ++ cs) c.time) (run before cs ++ c ∷ []) (c ∷ [])
run-push before [] c = elim (is_living (before ++ []) c.time) as (λ b. c ∷ [] ≡ cond b (c ∷ []) (c ∷ [])) [ true ↦ refl | false ↦ refl ]
run-push before (d ∷ ds) c = rw (restarts-push (before ++ d ∷ []) ds c, run-push (before ++ d ∷ []) ds c, append_assoc before (d ∷ []) ds) (one_more (restarts (before ++ d ∷ []) ds) (is_living (before ++ d ∷ ds) c.time) (run (before ++ d ∷ []) ds) (d ∷ ds) c)

pub last_or-push : (d : Charge) (ds : List Charge) (c : Charge) → last_or d (ds ++ c ∷ []) ≡ c
last_or-push d [] c = refl
last_or-push d (e ∷ es) c = last_or-push e es c

pub last_charge-push : (cs : List Charge) (c : Charge) → last_charge (cs ++ c ∷ []) ≡ Some c
last_charge-push [] c = refl
last_charge-push (d ∷ ds) c = ap Some (last_or-push d ds c)

pub of_flow-push : (f : Flow) (h : List Charge) (c : Charge) → of_flow f (h ++ c ∷ []) ≡ cond (same_flow c.grant.flow f) (of_flow f h ++ c ∷ []) (of_flow f h)
of_flow-push f [] c = refl
of_flow-push f (d ∷ ds) c = grind (arith, nat_tests, of_flow-push f ds c)

pub past-push : (last : ℕ) (h : List Charge) (c : Charge) → NoChargeLater last h → c.time ≤ last → NoChargeLater last (h ++ c ∷ [])
past-push last h c p t = All-push (λ (x : Charge). x.time ≤ last) h c p t

pub past-later : (last now : ℕ) (h : List Charge) → last ≤ now → NoChargeLater last h → NoChargeLater now h
past-later last now h l p = All-weaker (λ (x : Charge). x.time ≤ last) (λ (x : Charge). x.time ≤ now) (λ x q. omega arith) h p

pub next-push : (slots offset : ℕ) (before h : List Charge) (c : Charge) → AreNext slots offset before h → IsNext slots offset (before ++ h) c → AreNext slots offset before (h ++ c ∷ [])
next-push slots offset before [] c a n = (subst (λ z. IsNext slots offset z c) (append-nil before) n, tt)
next-push slots offset before (d ∷ ds) c a n =
    (a.0, next-push slots offset (before ++ d ∷ []) ds c a.1 (subst (λ z. IsNext slots offset z c) (sym (append_assoc before (d ∷ []) ds)) n))
