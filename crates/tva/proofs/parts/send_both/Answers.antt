use Rattle.tva.proofs.Pieces.{written_both, stopped_first}
use Rattle.tva.proofs.Common.{Rose}
use Rattle.tva.proofs.parts.send_both.Goals as goal

pub returns-in-Done-clause-answer : goal.returns-in-Done-clause-answer
returns-in-Done-clause-answer g c =
    written_both (g.W.Sink.took c.args.out.now) (g.W.Sink.took c.send.new.out) (g.W.Sink.took c.send-in-Done.new.out)
    (g.W.Sink.faults c.args.out.now) (g.W.Sink.faults c.send.new.out) (g.W.Sink.faults c.send-in-Done.new.out)
    c.args.first.now c.args.second.now c.send-in-Done.result
    c.in-Done.ensures.answer c.in-Done.ensures.never_falls c.send-in-Done.ensures.answer

pub returns-in_default : goal.returns-in_default
returns-in_default g c =
    record {
      never_falls = c.send.ensures.never_falls;
      written = c.send.ensures.written;
      unfailed = λ e. absurd (c.in_default.not-Done e);
      no_refusal = c.send.ensures.no_refusal;
      answer =
          stopped_first (g.W.Sink.took c.args.out.now) (g.W.Sink.took c.send.new.out) (Rose (g.W.Sink.faults c.args.out.now) (g.W.Sink.faults c.send.new.out))
          c.args.first.now c.args.second.now c.send.result c.in_default.not-Done c.send.ensures.answer;
    }
