use Rattle.tva_report.proofs.Common.{List, ◌+◌, ◌-◌, sym, subst, arith, length, take, take_more, Event, charges_in}
use Rattle.tva_report.specs.Table.{StandsFor}
use Rattle.tva_report.proofs.sums.router_sums.Goals as goal

pub loop-event-init : goal.loop-event-init
loop-event-init c = record {
  sound = c.new-tally.ensures.sound;
  few = let n = (c.new-tally.ensures.stands c.args.restarts.now).charges in omega (arith, n, c.requires.few);
  stands = c.new-tally.ensures.stands c.args.restarts.now;
}

pub loop-event-preserved : goal.loop-event-preserved
loop-event-preserved c =
    let events = c.args.events.now in
    let i = c.loop-event.event-index in
    record {
      sound = c.in_ok-tell.ensures.sound;
      few = c.in_ok-tell.ensures.few (length events - (i + 1)) (omega (arith, c.loop-event.invariant.few, c.loop-event-test.true));
      stands = subst (λ (es : List Event). StandsFor c.tell.new.self c.args.restarts.now (charges_in es)) (sym (take_more events i _ c.loop-event-test.true))
          (c.in_ok-tell.ensures.stands (take i events) c.loop-event.invariant.stands);
    }
