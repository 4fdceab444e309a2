-- What the tests on flows and grants tell.
use Rattle.tva_flow.proofs.Common.{◌≡◌, ℕ, Bool, true, false, ◌&&◌, refl, ap, ◌∙◌, subst, inl, inr, ◌⊎◌, arith, nat_tests, eqb-true, Flow, Rights, Grant, same_flow, same_grant}
use Rattle.tva_base.proofs.Each.{by_test, both_true}
use Rattle.tva_base.specs.declared.addresses.Address.{Address}

-- by a test
pub by_bool : (b : Bool) (P : Bool → Type 0) → (b ≡ true → P true) → (b ≡ false → P false) → P b
by_bool = by_test

pub and_true : (a b : Bool) → (a && b) ≡ true → (a ≡ true) × (b ≡ true)
and_true = both_true

pub and_false : (a b : Bool) → (a && b) ≡ false → a ≡ true → b ≡ false
and_false true b h e = h
and_false false b h e = absurd (cc)

-- two flows that test alike are one
pub flow_is : (a b : Flow) → same_flow a b ≡ true → a ≡ b
flow_is a b h =
    let p = and_true _ _ h in
    ap (λ (x : ℕ). let s : Address = record { 0 = x } in let f : Flow = record { src = s; dst = a.dst } in f) (eqb-true a.src.0 b.src.0 p.0)
    ∙ ap (λ (x : ℕ). let d : Address = record { 0 = x } in let f : Flow = record { src = b.src; dst = d } in f) (eqb-true a.dst.0 b.dst.0 p.1)

pub same_flow-self : (f : Flow) → same_flow f f ≡ true
same_flow-self f = grind (arith, nat_tests)

pub same_grant-self : (g : Grant) → same_grant g g ≡ true
same_grant-self g = grind (arith, nat_tests)

-- by whether two flows are one
pub by_flow : (a b : Flow) (P : Bool → Type 0) → (a ≡ b → P true) → ((a ≡ b → ⊥) → P false) → P (same_flow a b)
by_flow a b P t f =
    by_bool (same_flow a b) P (λ k. t (flow_is a b k))
    (λ k. f (λ e. let s : same_flow a b ≡ true = subst (λ z. same_flow a z ≡ true) e (same_flow-self a) in absurd (cc)))

-- the test with what it tells, for `grind`
pub flow_tells : (a b : Flow) → ((same_flow a b ≡ true) × (a ≡ b)) ⊎ ((same_flow a b ≡ false) × (a ≡ b → ⊥))
flow_tells a b = by_flow a b (λ t. ((t ≡ true) × (a ≡ b)) ⊎ ((t ≡ false) × (a ≡ b → ⊥))) (λ e. inl (refl, e)) (λ n. inr (refl, n))

pub not_same : (a b : Flow) (t : Bool) → t ≡ same_flow a b → t ≡ false → a ≡ b → ⊥
not_same a b t s f e = let k : same_flow a b ≡ true = subst (λ z. same_flow a z ≡ true) e (same_flow-self a) in absurd (cc)

-- two grants that test alike are one
pub same_is : (a b : Grant) → same_grant a b ≡ true → a ≡ b
same_is a b h =
    let p = and_true _ _ h in
    let q = and_true _ _ p.0 in
    let r = and_true _ _ q.0 in
    ap (λ (x : Flow). let g : Grant = record { flow = x; rights = a.rights; second = a.second } in g) (flow_is a.flow b.flow r.0)
    ∙ (ap (λ (x : ℕ). let s : Rights = record { n = x; t = a.rights.t } in let g : Grant = record { flow = b.flow; rights = s; second = a.second } in g) (eqb-true a.rights.n b.rights.n r.1)
    ∙ (ap (λ (x : ℕ). let s : Rights = record { n = b.rights.n; t = x } in let g : Grant = record { flow = b.flow; rights = s; second = a.second } in g) (eqb-true a.rights.t b.rights.t q.1)
    ∙ ap (λ (x : ℕ). let g : Grant = record { flow = b.flow; rights = b.rights; second = x } in g) (eqb-true a.second b.second p.1)))
