-- What the answers to arrivals leave.
use Rattle.tva_router.proofs.Common.{◌≡◌, ℕ, ◌<◌, ◌≤◌, List, ◌++◌, length, Option, Some, None, refl, sym, subst, arith, append-nil, RouterPlan, Verdict, Charge, charged, AreTimely, is_good, IsGoodOrNone, AreShown, Cache, Arrival, Guard, answer_of, charged_by, IsGuard, IsKnownAt, Keeps, grant_in, rules, nat_tests, common_steps}
use Rattle.std.specs.Option.{IfSome}
use Rattle.tva_flow.specs.declared.verdicts.Verdict.TheVariants as verdict
use Rattle.tva_caps.specs.declared.known.Good.{Good}
use Rattle.tva_flow.specs.declared.kept.Entry.{Entry}
use Rattle.tva_flow.specs.Stands.{StandsFor}
use Rattle.tva_flow.proofs.Indexed.{some_place}
use Rattle.tva_flow.proofs.Shown.{shown-get}

pub guard-later : (plan : RouterPlan) (last now : ℕ) (g : Guard) → last ≤ now → IsGuard plan last g → IsGuard plan now g
guard-later plan last now g le k = grind arith

-- a verdict charges what its answer does
pub charged-answer : (v : Verdict) (now nonce bytes : ℕ) → charged v now nonce bytes ≡ charged_by (grant_in (answer_of v)) now nonce bytes
charged-answer v now nonce bytes = grind arith

-- nothing is charged
pub keeps-nothing : (plan : RouterPlan) (a : Arrival) (nonce : ℕ) (c : Cache) → Keeps plan a None nonce c c
keeps-nothing plan a nonce c = grind (arith, append-nil)

-- what a verdict leaves
pub keeps-verdict : (plan : RouterPlan) (a : Arrival) (nonce : ℕ) (v : Verdict) (old new : Cache) → old.offset ≡ plan.clock_offset
    → ((h : List Charge) → StandsFor old h → StandsFor new (h ++ charged v a.time.0 nonce a.bytes))
    → ((h : List Charge) → StandsFor old h → AreTimely old.offset h → AreTimely old.offset (h ++ charged v a.time.0 nonce a.bytes))
    → Keeps plan a (grant_in (answer_of v)) nonce old new
keeps-verdict plan a nonce v old new clock stands timely = grind (arith, charged-answer)

-- what is known at a place is good, where each entry has what is good for its grant
pub known_good : (master : List ℕ) (es : List Entry) (at : Option ℕ) (known : Option Good) → IfSome at (λ i. i < length es) → IsKnownAt es at known → AreShown (is_good master) es → IsGoodOrNone master known
known_good master es None known l k a = subst (λ (z : Option Good). IsGoodOrNone master z) (sym k) tt
known_good master es (Some i) known l k a =
    let e = some_place es i l in
    subst (λ (z : Option Good). IsGoodOrNone master z) (sym (k e.0 e.1)) (shown-get (is_good master) es i e.0 a l e.1)
