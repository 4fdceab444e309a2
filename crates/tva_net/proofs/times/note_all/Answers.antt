use Rattle.tva_net.proofs.Noted.{noted_first, noted_last, noted_more}
use Rattle.tva_net.proofs.times.note_all.Goals as goal

pub loop-place-init : goal.loop-place-init
loop-place-init c = noted_first c.args.times.now c.args.nodes.now c.requires.count

pub loop-place-preserved : goal.loop-place-preserved
loop-place-preserved c = noted_more c.loop-place.place c.loop-place.times c.note.new.times c.args.nodes.now c.loop-place-test.true c.loop-place.invariant c.note.ensures

pub returns : goal.returns
returns c = noted_last c.loop-place.place c.loop-place.times c.args.nodes.now c.loop-place-test.false c.loop-place.invariant
