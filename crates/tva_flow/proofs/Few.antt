-- At each place of a list of charges no more flows live than there are slots.
use Rattle.tva_flow.proofs.Common.{nat_tests, ◌≡◌, ℕ, ◌+◌, ◌≤◌, true, ◌&&◌, List, [], ◌∷◌, ◌++◌, refl, sym, ap, ◌∙◌, subst, inl, inr, ◌⊎◌, arith, append_assoc, append-nil, All-head, All-tail, Flow, Charge, same_flow, is_living, of_flow, lives, flows, living_count, NoChargeLater, IsNext, AreNext}
use Rattle.tva_flow.proofs.Same.{flow_tells, by_flow}
use Rattle.tva_flow.proofs.Pushes.{of_flow-push}
use Rattle.tva_flow.proofs.Rows.{authorised_room}
use Rattle.tva_flow.proofs.Counting.{has, living_among, length-subset, has_first, has_later, has-flows, distinct-flows, length-living_among, has-living_among, distinct-living_among, has_and_lives}

-- the flows that live
abbrev living_flows : List Charge → ℕ → List Flow
living_flows h now = living_among h now (flows h)

has-living_flows : (h : List Charge) (now : ℕ) (f : Flow) → has f (living_flows h now) ≡ lives h f now
has-living_flows h now f = has-living_among h now (flows h) f ∙ (ap (λ b. b && lives h f now) (has-flows f h) ∙ has_and_lives h now f)

-- where each flow that lives is one that lived, or this one
count-le : (h k : List Charge) (then now : ℕ) → ((f : Flow) → lives k f now ≡ true → lives h f then ≡ true) → living_count k now ≤ living_count h then
count-le h k then now w =
    omega (
      arith,
      length-living_among k now (flows k),
      length-living_among h then (flows h),
      length-subset (living_flows k now) (living_flows h then) (distinct-living_among k now (flows k) (distinct-flows k))
          (λ f e. has-living_flows h then f ∙ w f (sym (has-living_flows k now f) ∙ e)),
    )

count-suc : (h k : List Charge) (then now : ℕ) (g : Flow) → ((f : Flow) → lives k f now ≡ true → (lives h f then ≡ true) ⊎ (g ≡ f)) → living_count k now ≤ living_count h then + 1
count-suc h k then now g w =
    omega (
      arith,
      length-living_among k now (flows k),
      length-living_among h then (flows h),
      length-subset (living_flows k now) (g ∷ living_flows h then) (distinct-living_among k now (flows k) (distinct-flows k))
          (λ f e. by_flow g f (λ b. (same_flow g f ≡ b) → has f (g ∷ living_flows h then) ≡ true)
          (λ q _. has_first g f (living_flows h then) q)
          (λ q _. has_later g f (living_flows h then) q ∙ (has-living_flows h then f ∙ elim (w f (sym (has-living_flows k now f) ∙ e)) [ inl y ↦ y | inr y ↦ absurd (q y) ]))
          refl),
    )

-- a flow that lives at a time lived before it, without further charges
earlier : (cs : List Charge) (then now : ℕ) → then ≤ now → is_living cs now ≡ true → is_living cs then ≡ true
earlier cs then now l h = grind (arith, nat_tests)

-- after one more charge, each flow that lives is its own, or lived
lives_after : (h : List Charge) (c : Charge) (now : ℕ) (f : Flow) → c.time ≤ now → lives (h ++ c ∷ []) f now ≡ true → (lives h f c.time ≡ true) ⊎ (c.grant.flow ≡ f)
lives_after h c now f l e = grind (arith, nat_tests, flow_tells, of_flow-push f h c, earlier (of_flow f h) c.time now l)

-- at each time from the last charge on no more flows live than there are slots
abbrev IsSparse : ℕ → List Charge → Type 0
IsSparse slots h = (now : ℕ) → NoChargeLater now h → living_count h now ≤ slots

last_time : (now : ℕ) (h : List Charge) (c : Charge) → NoChargeLater now (h ++ c ∷ []) → c.time ≤ now
last_time now [] c p = All-head (λ (x : Charge). x.time ≤ now) c [] p
last_time now (d ∷ ds) c p = last_time now ds c (All-tail (λ (x : Charge). x.time ≤ now) d (ds ++ c ∷ []) p)

sparse-push : (slots offset : ℕ) (h : List Charge) (c : Charge) → IsSparse slots h → IsNext slots offset h c → IsSparse slots (h ++ c ∷ [])
sparse-push slots offset h c w x now p =
    let l = last_time now h c p in
    let few = w c.time x.order in
    elim (authorised_room slots offset h c x.authorised) [
      | inl y ↦ (
          let k = count-le h (h ++ c ∷ []) c.time now (λ f e. elim (lives_after h c now f l e) [ inl z ↦ z | inr z ↦ subst (λ g. lives h g c.time ≡ true) z y ]) in
          omega arith)
      | inr y ↦ (
          let k = count-suc h (h ++ c ∷ []) c.time now c.grant.flow (λ f e. lives_after h c now f l e) in
          omega arith)
    ]

sparse_all : (slots offset : ℕ) (before h : List Charge) → IsSparse slots before → AreNext slots offset before h → IsSparse slots (before ++ h)
sparse_all slots offset before [] w a = subst (IsSparse slots) (sym (append-nil before)) w
sparse_all slots offset before (c ∷ cs) w a =
    subst (IsSparse slots) (append_assoc before (c ∷ []) cs) (sparse_all slots offset (before ++ c ∷ []) cs (sparse-push slots offset before c w a.0) a.1)

pub few : (slots offset : ℕ) (h : List Charge) (now : ℕ) → AreNext slots offset [] h → NoChargeLater now h → living_count h now ≤ slots
few slots offset h now a p = sparse_all slots offset [] h (λ t q. omega arith) a now p
