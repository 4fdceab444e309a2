use Rattle.tva.proofs.Common.{◌≡◌, ℕ, List, Ok, OnOk, append-nil, sym, subst, refl, ap, ◌∙◌, arith, Rose, NetError, lines_of, IsNext, begun, goes_on, on, IsRefusal, WasTaken, ended_by, Done}
use Rattle.tva_net.specs.declared.kinds.NetError.TheVariants as error
use Rattle.tva.proofs.Given.{taken_both, taken_none}
use Rattle.tva.proofs.Windowed.{Writes, Wrote, ends_refused, ends_with_total, stops_in_window, writes_more, wrote}
use Rattle.tva.proofs.replay.replay_rows.Given as given
use Rattle.tva.proofs.replay.replay_rows.Goals as goal
use Rattle.tva.proofs.replay.replay_rows.Goals.{After-send_lines}

pub loop-status-init : goal.loop-status-init
loop-status-init g c = record {
  afoot = begun c.args.plan.now c.args.rows (Wrote c.args.plan.now c.args.rows (g.W.Sink.took c.args.out.now) (g.W.Sink.took c.args.out.now)) c.new-events.result.items c.in-Ok.net
      c.new-events.ensures.items c.in-Ok.ensures.stands (sym (append-nil (g.W.Sink.took c.args.out.now)));
  taken = taken_none (g.W.Sink.written c.args.out.now) (g.W.Sink.took c.args.out.now);
  same = refl;
}

-- what comes next, and how writing all lines up to here ends
next : (g : given.Over) (c : After-send_lines g)
    → IsNext c.args.plan.now c.args.rows
    (Writes c.args.plan.now c.args.rows (g.W.Sink.took c.args.out.now) (g.W.Sink.took c.send_lines.new.out) (Rose (g.W.Sink.faults c.args.out.now) (g.W.Sink.faults c.send_lines.new.out)) c.send_lines.result)
    c.step_and_put-step.result.0 c.loop-status.net c.step_and_put-step.new.net
next g c =
    let W = g.W.Sink in
    let plan = c.args.plan.now in
    let list = c.as_slice-list.result.now in
    let put = subst (λ (t : List ℕ). OnOk c.step_and_put-step.result.1 (t ≡ lines_of plan list)) (sym c.as_slice.ensures.value) c.step_and_put-step.ensures.lines in
    goes_on plan c.args.rows (Wrote plan c.args.rows (W.took c.args.out.now) (W.took c.loop-status.out))
    (Writes plan c.args.rows (W.took c.args.out.now) (W.took c.send_lines.new.out) (Rose (W.faults c.args.out.now) (W.faults c.send_lines.new.out)) c.send_lines.result) c.loop-status.events.items list
    c.loop-status.net c.step_and_put-step.new.net c.step_and_put-step.result.0 c.loop-status.invariant.afoot c.as_slice-list.ensures.value c.step_and_put-step.ensures.comes
    (writes_more plan c.args.rows (W.took c.args.out.now) (W.took c.loop-status.out) (W.took c.send_lines.new.out) (W.faults c.args.out.now) (W.faults c.loop-status.out) (W.faults c.send_lines.new.out)
    list c.send_lines.result (omega (arith, c.loop-status.invariant.same)) (c.send_lines.ensures.answer (lines_of plan list) put))

-- what the sink took since it was handed over
taken : (g : given.Over) (c : After-send_lines g)
    → WasTaken (g.W.Sink.written c.args.out.now) (g.W.Sink.written c.send_lines.new.out) (g.W.Sink.took c.args.out.now) (g.W.Sink.took c.send_lines.new.out)
taken g c =
    let W = g.W.Sink in
    taken_both (W.written c.args.out.now) (W.written c.loop-status.out) (W.written c.send_lines.new.out) (W.took c.args.out.now) (W.took c.loop-status.out) (W.took c.send_lines.new.out)
    c.loop-status.invariant.taken c.send_lines.ensures.written

pub returns-in_default : goal.returns-in_default
returns-in_default g c =
    let W = g.W.Sink in
    let sent = (goal.at.returns-in_default g c).After-send_lines in
    record {
      writes = omega (arith, c.loop-status.invariant.same, c.send_lines.ensures.never_falls);
      written = taken g sent;
      unfailed = λ e. absurd (c.in_default.not-Done e);
      no_refusal = c.send_lines.ensures.no_refusal;
      answer =
          stops_in_window c.args.plan.now c.args.rows (W.took c.args.out.now) (W.took c.send_lines.new.out) (Rose (W.faults c.args.out.now) (W.faults c.send_lines.new.out)) c.send_lines.result
          c.step_and_put-step.result.0 c.loop-status.net c.step_and_put-step.new.net c.in_default.not-Done (next g sent);
    }

pub loop-status-smaller : goal.loop-status-smaller
loop-status-smaller g c =
    (on c.args.plan.now c.args.rows _ c.step_and_put-step.result.0 c.loop-status.net c.step_and_put-step.new.net c.in-Ok-Events.next (c.in-Ok-Events.is ∙ ap (λ w. Ok w) c.in-Ok-Events.field-0-is)
    (next g (goal.at.loop-status-smaller g c).After-send_lines)).1

-- where they are written whole
whole : (g : given.Over) (c : After-send_lines g) → c.send_lines.result ≡ Done
    → IsNext c.args.plan.now c.args.rows (Wrote c.args.plan.now c.args.rows (g.W.Sink.took c.args.out.now) (g.W.Sink.took c.send_lines.new.out)) c.step_and_put-step.result.0 c.loop-status.net c.step_and_put-step.new.net
whole g c done =
    wrote c.args.plan.now c.args.rows (g.W.Sink.took c.args.out.now) (g.W.Sink.took c.send_lines.new.out) (Rose (g.W.Sink.faults c.args.out.now) (g.W.Sink.faults c.send_lines.new.out)) c.send_lines.result
    c.step_and_put-step.result.0 c.loop-status.net c.step_and_put-step.new.net done (next g c)

pub loop-status-preserved : goal.loop-status-preserved
loop-status-preserved g c =
    let sent = (goal.at.loop-status-preserved g c).After-send_lines in
    record {
      afoot = (on c.args.plan.now c.args.rows _ c.step_and_put-step.result.0 c.loop-status.net c.step_and_put-step.new.net c.in-Ok-Events.next
          (c.in-Ok-Events.is ∙ ap (λ w. Ok w) c.in-Ok-Events.field-0-is) (whole g sent c.in-Done.is)).0;
      taken = taken g sent;
      same = c.send_lines.ensures.unfailed c.in-Done.is ∙ c.loop-status.invariant.same;
    }

pub returns-in-Ok-Ended-clause-answer : goal.returns-in-Ok-Ended-clause-answer
returns-in-Ok-Ended-clause-answer g c =
    let W = g.W.Sink in
    ends_with_total c.args.plan.now c.args.rows (W.took c.args.out.now) (W.took c.send_lines.new.out) (W.took c.send_total.new.out)
    (W.faults c.args.out.now) (W.faults c.send_lines.new.out) (W.faults c.send_total.new.out) c.totals.result c.send_total.result
    c.step_and_put-step.result.0 c.loop-status.net c.step_and_put-step.new.net (c.in-Ok-Ended.is ∙ ap (λ w. Ok w) c.in-Ok-Ended.field-0-is) c.totals.ensures
    (omega (arith, c.loop-status.invariant.same, c.send_lines.ensures.never_falls)) c.send_total.ensures.answer
    (whole g (goal.at.returns-in-Ok-Ended-clause-answer g c).After-send_lines c.in-Done.is)

pub returns-in-Err-step-clause-answer : goal.returns-in-Err-step-clause-answer
returns-in-Err-step-clause-answer g c =
    let W = g.W.Sink in
    ends_refused c.args.plan.now c.args.rows (W.took c.args.out.now) (W.took c.send_lines.new.out) (Rose (W.faults c.args.out.now) (W.faults c.send_lines.new.out)) c.status_of.result
    c.step_and_put-step.result.0 c.loop-status.net c.step_and_put-step.new.net c.in-Err-step.error c.in-Err-step.is c.status_of.ensures
    (whole g (goal.at.returns-in-Err-step-clause-answer g c).After-send_lines c.in-Done.is)

pub returns-in-Ok-Ended-clause-written : goal.returns-in-Ok-Ended-clause-written
returns-in-Ok-Ended-clause-written g c =
    let W = g.W.Sink in
    taken_both (W.written c.args.out.now) (W.written c.send_lines.new.out) (W.written c.send_total.new.out) (W.took c.args.out.now) (W.took c.send_lines.new.out) (W.took c.send_total.new.out)
    (taken g (goal.at.returns-in-Ok-Ended-clause-written g c).After-send_lines) c.send_total.ensures.written

pub returns-in-Err-step-clause-written : goal.returns-in-Err-step-clause-written
returns-in-Err-step-clause-written g c = taken g (goal.at.returns-in-Err-step-clause-written g c).After-send_lines

-- an error of the network is no refusal
apart : (e : NetError) → IsRefusal (ended_by e) → ⊥
apart (error.EventLimit most) r = r
apart error.OutOfMemory r = r

pub returns-in-Err-step-clause-no_refusal : goal.returns-in-Err-step-clause-no_refusal
returns-in-Err-step-clause-no_refusal g c r = apart c.in-Err-step.error (subst IsRefusal c.status_of.ensures r)

pub returns-in-Err-step-clause-unfailed : goal.returns-in-Err-step-clause-unfailed
returns-in-Err-step-clause-unfailed g c e = c.send_lines.ensures.unfailed c.in-Done.is ∙ c.loop-status.invariant.same

pub returns-in-Ok-Ended-clause-unfailed : goal.returns-in-Ok-Ended-clause-unfailed
returns-in-Ok-Ended-clause-unfailed g c e =
    c.send_total.ensures.unfailed e ∙ c.send_lines.ensures.unfailed c.in-Done.is ∙ c.loop-status.invariant.same
