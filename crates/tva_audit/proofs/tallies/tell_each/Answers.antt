use Rattle.tva_audit.proofs.Common.{◌≡◌, ◌≤◌, ◌+◌, ◌-◌, ℕ, List, ◌++◌, length, take, sym, ap, ◌∙◌, subst, arith, append_assoc, append-nil, take_all, take_more, Event, AreReady, AreTallied}
use Rattle.tva_audit.proofs.tallies.tell_each.Goals as goal

pub loop-event-init : goal.loop-event-init
loop-event-init c = record {
  ready = subst (λ (k : ℕ). AreReady c.args.config.now k c.args.tallies.now) (let e : length c.args.events.now ≡ length c.args.events.now - 0 = omega arith in e) c.requires.ready;
  told = λ told h. subst (λ (es : List Event). AreTallied c.args.config.now es c.args.tallies.now) (sym (append-nil told)) h;
}

pub tell_one-requires-clause-ready : goal.tell_one-requires-clause-ready
tell_one-requires-clause-ready c =
    let left = c.loop-event.invariant.ready in
    record {
      count = left.count;
      sound = left.sound;
      room = λ n d l. let room = left.room n d l in omega (arith, room, c.loop-event-test.true);
    }

pub loop-event-preserved : goal.loop-event-preserved
loop-event-preserved c =
    let config = c.args.config.now in
    let events = c.args.events.now in
    let i = c.loop-event.event-index in
    let below = c.loop-event-test.true in
    let less : length events - i ≡ length events - (i + 1) + 1 = omega (arith, below) in
    record {
      ready = c.in_ok-tell_one.ensures.ready (length events - (i + 1)) (subst (λ (k : ℕ). AreReady config k c.loop-event.tallies) less c.loop-event.invariant.ready);
      told = λ told h.
          subst (λ (es : List Event). AreTallied config es c.tell_one.new.tallies)
          (append_assoc told (take i events) _ ∙ ap (λ (es : List Event). told ++ es) (sym (take_more events i _ below)))
          (c.in_ok-tell_one.ensures.told (told ++ take i events) (c.loop-event.invariant.told told h));
    }

pub returns : goal.returns
returns c = λ told h.
    let events = c.args.events.now in
    let all : length events ≤ c.loop-event.event-index = omega (arith, c.loop-event-test.false) in
    subst (λ (es : List Event). AreTallied c.args.config.now (told ++ es) c.loop-event.tallies) (take_all c.loop-event.event-index events all)
    (c.loop-event.invariant.told told h)
