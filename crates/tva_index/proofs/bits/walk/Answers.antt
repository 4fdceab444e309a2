use Rattle.tva_index.proofs.Common.{◌≡◌, ◌<◌, ℕ, length, Some, sym, ◌∙◌, subst, arith, HasKey, links_of, entries_of, spot}
use Rattle.tva_index.proofs.Places.{length-entries_of, entry_read_of, way_read}
use Rattle.tva_index.proofs.Paths.{stays, stops, later_here, later_end, IsNotBefore}
use Rattle.tva_index.proofs.bits.walk.Goals as goal

pub returns-in_default : goal.returns-in_default
returns-in_default c =
    let t = c.args.tree.now in
    let ps = t.places.items in
    let s = c.loop-step in
    let i = s.invariant in
    let x = c.index-place.result.now in
    let w : s.led.at < length ps = omega (arith, stays (links_of ps) (entries_of ps) t.free.items c.requires c.args.key s._step s.led.at i.path, length-entries_of ps) in
    let other = subst (λ o. HasKey c.args.key o → ⊥) (entry_read_of ps s.led.at x w c.index-place.ensures) (rw c.if-is_of.false at c.is_of.ensures) in
    stops (links_of ps) (entries_of ps) t.free.items c.requires c.args.key s._step s.led.at s.bits (omega (arith, c.ranges.key.fits)) c.loop-step-test.true i.path i.bits
    (later_here (links_of ps) (entries_of ps) t.free.items c.requires c.args.key s._step s.led.at i.later i.path other)
    (way_read ps s.led.at s.bits x w c.index-place.ensures ∙ (sym c.step_from.ensures ∙ c.in_default.is))

pub loop-step-preserved : goal.loop-step-preserved
loop-step-preserved c = grind (arith, stays, c.requires, length-entries_of, entry_read_of, c.if-is_of.false, way_read, c.in-Some.next, later_here)

pub unreachable-requires : goal.unreachable-requires
unreachable-requires c =
    let t = c.args.tree.now in
    let ps = t.places.items in
    let i = c.loop-step.invariant in
    let n : c.loop-step._step ≡ 33 = omega arith in
    later_end (links_of ps) (entries_of ps) t.free.items c.requires c.args.key c.loop-step.led.at (omega arith)
    (subst (IsNotBefore (links_of ps) (entries_of ps) t.free.items c.requires c.args.key) n i.later)
    (subst (λ (z : ℕ). spot (links_of ps) c.args.key z ≡ Some c.loop-step.led.at) n i.path)
