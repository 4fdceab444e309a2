use Rattle.tva_index.proofs.Common.{arith, links_of, entries_of}
use Rattle.tva_index.proofs.Places.{length-entries_of}
use Rattle.tva_index.proofs.Paths.{below-start, below-on, below_any, below_all, led_within}
use Rattle.tva_index.proofs.bits.leaf_below.Goals as goal

pub loop-step-init : goal.loop-step-init
loop-step-init c = grind (arith, below-start, c.requires.tree)

pub next_below-requires-clause-within : goal.next_below-requires-clause-within
next_below-requires-clause-within c = grind (arith, led_within, c.requires.tree, c.loop-step.led, c.loop-step._step, length-entries_of)

pub next_below-requires-clause-few : goal.next_below-requires-clause-few
next_below-requires-clause-few c = let few = c.requires.tree.few in omega (arith, few, length-entries_of c.args.tree.now.places.items)

pub loop-step-preserved : goal.loop-step-preserved
loop-step-preserved c =
    let t = c.args.tree.now in
    let e = rw c.in-Some.is at c.next_below.ensures in
    below-on (links_of t.places.items) (entries_of t.places.items) t.free.items c.requires.tree c.args.from.at c.loop-step.led c.in-Some.next c.loop-step._step c.loop-step.invariant e.0 e.1 e.2

pub returns-in-None : goal.returns-in-None
returns-in-None c = grind (arith, c.in-None.is, below_any, c.requires.tree, c.loop-step.led, c.loop-step._step)

pub unreachable-requires : goal.unreachable-requires
unreachable-requires c = grind (arith, below_all, c.requires.tree, c.loop-step.led)
