use Rattle.tva_net.proofs.Common.{◌≡◌, ◌+◌, ◌∙◌, ap, arith, Totals}
use Rattle.tva_net.proofs.Adding.{adds_more}
use Rattle.tva_net.proofs.sums.add_up.Goals as goal

pub loop-event-preserved : goal.loop-event-preserved
loop-event-preserved c =
    let one : c.add_one.new.sums.events ≡ c.loop-event.sums.events + 1 = ap (λ (t : Totals). t.events) c.add_one.ensures.sums in
    record {
      sums = λ told e. c.add_one.ensures.sums ∙ adds_more told c.args.events.now c.loop-event.event-index _ c.loop-event.sums c.loop-event-test.true (c.loop-event.invariant.sums told e);
      count = omega (arith, c.loop-event.invariant.count);
      within = c.add_one.ensures.within;
    }
