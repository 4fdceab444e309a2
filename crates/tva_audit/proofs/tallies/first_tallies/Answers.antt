use Rattle.tva_audit.proofs.Common.{arith}
use Rattle.tva_audit.proofs.Tallied.{fresh_all, fresh_more, fresh_none}
use Rattle.tva_audit.proofs.tallies.first_tallies.Goals as goal

pub loop-init : goal.loop-init
loop-init c = fresh_none c.new-tallies.result.items c.new-tallies.ensures.items

pub loop-preserved : goal.loop-preserved
loop-preserved c =
    fresh_more c.loop.counter c.loop.tallies.items c.push.new.self.items c.new.result c.loop.invariant c.new.ensures.sound c.new.ensures.stands c.in_ok-push.ensures.items

pub returns : goal.returns
returns c = fresh_all c.args.config.now c.loop.counter c.loop.tallies.items (omega (arith, c.loop.auto.counter-end, c.loop-test.false, c.len-end.ensures)) c.loop.invariant
