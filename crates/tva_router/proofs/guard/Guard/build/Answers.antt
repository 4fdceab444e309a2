use Rattle.tva_router.proofs.Common.{◌≡◌, ℕ, true, List, sym, ap, ◌∙◌, subst, arith, All-nil, MinterState, is_good, AreShown, Cache, ArePlaces}
use Rattle.tva_flow.specs.declared.kept.Entry.{Entry}
use Rattle.tva_router.proofs.guard.Guard.build.Goals as goal

pub returns-clause-guard : goal.returns-clause-guard
returns-clause-guard c = record {
  master = ap (λ (z : MinterState). z.master) c.new.ensures;
  clock = ap (λ (z : MinterState). z.clock_offset) c.new.ensures;
  key = ap (λ (z : Cache). z.key) c.in_ok-with_slots_keyed.ensures.value ∙ c.flow_key-key.ensures;
  slots = ap (λ (z : Cache). z.slots) c.in_ok-with_slots_keyed.ensures.value;
  offset = ap (λ (z : Cache). z.offset) c.in_ok-with_slots_keyed.ensures.value;
  minted = omega (arith, ap (λ (z : MinterState). z.last) c.new.ensures);
  charged = omega (arith, ap (λ (z : Cache). z.last) c.in_ok-with_slots_keyed.ensures.value);
  known = subst (λ (z : Cache). AreShown (is_good c.args.plan.now.master) z.entries) (sym c.in_ok-with_slots_keyed.ensures.value) (All-nil (λ (e : Entry). is_good c.args.plan.now.master e.grant e.cap ≡ true));
  incoming = subst (λ (z : List (ℕ × ℕ)). ArePlaces z c.in_ok-places_of.field-0) c.as_slice.ensures c.in_ok-places_of.ensures;
}
