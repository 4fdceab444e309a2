use Rattle.tva_config.proofs.Common.{◌≡◌, ◌∷◌, [], ◌++◌, sym, drop, drop_all, get_by_text, restart_step, restarts_of, IsRestarted, fault_told, next_at, continues_more, continues_stops, continues_ends, one_longer}
use Rattle.tva_config.proofs.Lasts.{restarted_push}
use Rattle.tva_config.proofs.changes.number_restarts.Goals as goal

pub loop-entry-preserved : goal.loop-entry-preserved
loop-entry-preserved c =
    let entries = c.args.entries.now in
    let i = c.loop-entry.entry-index in
    let done = c.loop-entry.restarts.items in
    let entry = c.entry-item.result in
    let restart = c.in_ok-restart.restart in
    let pushed : c.push.new.self.items ≡ done ++ restart ∷ [] = c.in_ok-push.ensures.items in
    let more : IsRestarted c.insert.new.self (done ++ restart ∷ []) =
    restarted_push c.loop-entry.last c.insert.new.self done restart c.loop-entry.invariant.last c.in_ok-insert.ensures.updates.0 c.in_ok-restart.ensures.after in
    record {
      read = continues_more (restart_step c.args.routers (get_by_text c.args.numbers.now)) done c.push.new.self.items (drop i entries) _ entries entry restart
          (next_at entries i entry c.loop-entry-test.true c.entry-item.is) (sym c.in_ok-restart.ensures.step) pushed c.loop-entry.invariant.read;
      count = one_longer done c.push.new.self.items restart i pushed c.loop-entry.invariant.count;
      last = rw pushed more;
    }

pub returns-in_err-restart : goal.returns-in_err-restart
unfolding restarts_of
returns-in_err-restart c =
    let entries = c.args.entries.now in
    let i = c.loop-entry.entry-index in
    let entry = c.entry-item.result in
    fault_told (λ v. v.items) (restarts_of c.args.routers (get_by_text c.args.numbers.now) entries) c.from_residual.result c.in_err-restart.field-0.0 c.from_residual.ensures.1
    (continues_stops (restart_step c.args.routers (get_by_text c.args.numbers.now)) c.loop-entry.restarts.items (drop i entries) _ entries entry c.in_err-restart.field-0.0
    (next_at entries i entry c.loop-entry-test.true c.entry-item.is) (sym c.in_err-restart.ensures.step) c.loop-entry.invariant.read)

pub returns : goal.returns
unfolding restarts_of
returns c =
    continues_ends (restart_step c.args.routers (get_by_text c.args.numbers.now)) c.loop-entry.restarts.items (drop c.loop-entry.entry-index c.args.entries.now) c.args.entries.now
    (drop_all c.loop-entry.entry-index c.args.entries.now c.loop-entry-test.false) c.loop-entry.invariant.read
