-- In which seconds a capability is taken.
use Rattle.tva_caps.proofs.Common.{◌≡◌, ℕ, ◌+◌, ◌-◌, ◌<◌, ◌≤◌, Bool, true, false, cond, ltb, leb, List, ap, sym, ◌∙◌, subst, refl, arith, add-sub_cancel, Flow, Rights, age_of, capability_of, precap_of, stamp_at, stamp_of}
use Rattle.std.proofs.lemmas.Bool.{eq-eqb, le-leb, le-ltb}
use Rattle.std.proofs.lemmas.Bool.Decides.{nat_tests}
use Rattle.tva_caps.specs.Check.{check_of, checked_at}
use Rattle.tva_caps.specs.declared.minters.Checked.{Checked}
use Rattle.tva_caps.specs.declared.minters.Checked.TheVariants.{BadHash, Expired, Valid}
use Rattle.tva_caps.proofs.Stamps.{age_of-later, stamp_of-capability, stamp_of-precap, stamp_at-lt}

-- the answer, by the age
abbrev answer : List ℕ → ℕ → Flow → ℕ → Rights → ℕ → Checked
answer master second flow shown rights age =
    cond (leb rights.t age) Expired (cond (ltb second age) BadHash (checked_at master flow shown rights (second - age)))

check_by_age : (master : List ℕ) (second : ℕ) (flow : Flow) (shown : ℕ) (rights : Rights) (age : ℕ) → age_of second shown ≡ age → check_of master second flow shown rights ≡ answer master second flow shown rights age
unfolding check_of
check_by_age master second flow shown rights age e = ap (answer master second flow shown rights) e

taken : (master : List ℕ) (flow : Flow) (rights : Rights) (minted : ℕ) → checked_at master flow (capability_of (precap_of master flow minted) rights) rights minted ≡ Valid (record { flow = flow; rights = rights; second = minted })
unfolding checked_at
taken master flow rights minted =
    let same = eq-eqb (capability_of (precap_of master flow minted) rights) _ refl in
    ap (λ (b : Bool). cond b (Valid (record { flow = flow; rights = rights; second = minted })) BadHash) same

answer-early : (master : List ℕ) (second : ℕ) (flow : Flow) (shown : ℕ) (rights : Rights) (k : ℕ) → k < rights.t → answer master (second + k) flow shown rights k ≡ checked_at master flow shown rights second
answer-early master second flow shown rights k h =
    let young : leb rights.t k ≡ false = grind (arith, nat_tests) in
    let minted : ltb (second + k) k ≡ false = le-ltb _ _ (omega arith) in
    rw (young, minted) (ap (checked_at master flow shown rights) (add-sub_cancel second k))

shows_its_second : (master : List ℕ) (second : ℕ) (flow : Flow) (rights : Rights) → stamp_of (capability_of (precap_of master flow second) rights) ≡ stamp_at second
shows_its_second master second flow rights =
    let e = stamp_of-precap master flow second in
    stamp_of-capability (precap_of master flow second) rights (subst (λ (s : ℕ). s < 256) (sym e) (stamp_at-lt second)) ∙ e

-- a capability is taken in its seconds
pub lasts : (master : List ℕ) (second : ℕ) (flow : Flow) (rights : Rights) (k : ℕ) → k < rights.t → k < 256 → check_of master (second + k) flow (capability_of (precap_of master flow second) rights) rights ≡ Valid (record { flow = flow; rights = rights; second = second })
lasts master second flow rights k h f =
    let v = capability_of (precap_of master flow second) rights in
    check_by_age master (second + k) flow v rights k (age_of-later v second k (shows_its_second master second flow rights) f)
    ∙ (answer-early master second flow v rights k h ∙ taken master flow rights second)

-- and expired in the others up to the 255th after it
pub ends : (master : List ℕ) (second : ℕ) (flow : Flow) (rights : Rights) (k : ℕ) → rights.t ≤ k → k < 256 → check_of master (second + k) flow (capability_of (precap_of master flow second) rights) rights ≡ Expired
ends master second flow rights k h f =
    let v = capability_of (precap_of master flow second) rights in
    let old : leb rights.t k ≡ true = le-leb rights.t k h in
    check_by_age master (second + k) flow v rights k (age_of-later v second k (shows_its_second master second flow rights) f)
    ∙ ap (λ (b : Bool). cond b Expired (cond (ltb (second + k) k) BadHash (checked_at master flow v rights (second + k - k)))) old
