use Rattle.tva.proofs.Common.{◌≡◌, ◌-◌, IsAfoot, WasTaken}
use Rattle.tva.proofs.Windowed.{Wrote}
use Rattle.tva.proofs.replay.replay_rows.Given as goal

-- the lines of what the network gave before the last window are written, and no write failed
abbrev pub invariant-loop-status : goal.invariant-loop-status
invariant-loop-status g l = record {
  afoot : IsAfoot l.plan l.fn.rows (Wrote l.plan l.fn.rows (g.W.Sink.took l.fn.out) (g.W.Sink.took l.out)) l.events.items l.net;
  taken : WasTaken (g.W.Sink.written l.fn.out) (g.W.Sink.written l.out) (g.W.Sink.took l.fn.out) (g.W.Sink.took l.out);
  same : g.W.Sink.faults l.out ≡ g.W.Sink.faults l.fn.out;
}

abbrev pub decreases-loop-status : goal.decreases-loop-status
decreases-loop-status g l = l.net.limit - l.net.totals.events
