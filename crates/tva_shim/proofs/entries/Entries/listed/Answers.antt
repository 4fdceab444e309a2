use Rattle.tva_shim.proofs.Common.{arith, refl}
use Rattle.tva_shim.proofs.Paired.{all_listed, as_many, few_listed, paired_step}
use Rattle.tva_shim.proofs.entries.Entries.listed.Goals as goal

pub bounds-deref-place : goal.bounds-deref-place
bounds-deref-place c =
    rw c.deref.ensures.0 (omega (arith, c.loop-place-test.true, c.len-place-end.ensures.count, as_many c.self.inside.tags.items c.self.inside.precaps.items _ c.self.invariant.0 c.self.view_is))

pub bounds-deref-place-in-loop-place : goal.bounds-deref-place-in-loop-place
bounds-deref-place-in-loop-place c =
    rw c.deref-in-loop-place.ensures.0 (omega (arith, c.loop-place-test.true, c.len-place-end.ensures.count, c.self.invariant.0, as_many c.self.inside.tags.items c.self.inside.precaps.items _ c.self.invariant.0 c.self.view_is))

pub push-requires : goal.push-requires
push-requires c = (
  omega arith,
  omega (
    arith,
    c.loop-place-test.true,
    c.len-place-end.ensures.count,
    c.len-place-end.ensures.widths.few,
    as_many c.self.inside.tags.items c.self.inside.precaps.items _ c.self.invariant.0 c.self.view_is,
    few_listed c.self.inside.tags.items c.self.inside.precaps.items c.loop-place.list.items c.loop-place.place c.self.invariant.0 (omega (arith, c.loop-place-test.true, c.len-place-end.ensures.count, as_many c.self.inside.tags.items c.self.inside.precaps.items _ c.self.invariant.0 c.self.view_is)) c.loop-place.invariant,
  ),
)

pub loop-place-preserved : goal.loop-place-preserved
loop-place-preserved c =
    rw c.push.ensures.items
    (paired_step c.self.inside.tags.items c.self.inside.precaps.items c.loop-place.list.items c.loop-place.place _ _ 0 0 c.self.invariant.0 (omega (arith, c.loop-place-test.true, c.len-place-end.ensures.count, as_many c.self.inside.tags.items c.self.inside.precaps.items _ c.self.invariant.0 c.self.view_is)) c.loop-place.invariant
    (rw c.deref.ensures.0 refl) (rw c.deref-in-loop-place.ensures.0 refl))

pub returns-clause-items : goal.returns-clause-items
returns-clause-items c =
    all_listed c.self.inside.tags.items c.self.inside.precaps.items c.loop-place.list.items _ c.loop-place.place c.self.invariant.0 (omega (arith, c.loop-place-test.false, c.len-place-end.ensures.count, as_many c.self.inside.tags.items c.self.inside.precaps.items _ c.self.invariant.0 c.self.view_is)) c.self.view_is c.loop-place.invariant
