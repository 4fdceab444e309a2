use Rattle.tva_config.proofs.Common.{◌≡◌, ◌∷◌, [], ◌++◌, sym, drop, drop_all, get_by_text, reroute_step, reroutes_of, link_at, IsRerouted, fault_told, next_at, continues_more, continues_stops, continues_ends, one_longer}
use Rattle.tva_config.proofs.Lasts.{rerouted_push}
use Rattle.tva_config.proofs.changes.number_reroutes.Goals as goal

pub loop-entry-preserved : goal.loop-entry-preserved
loop-entry-preserved c =
    let entries = c.args.entries.now in
    let i = c.loop-entry.entry-index in
    let done = c.loop-entry.reroutes.items in
    let entry = c.entry-item.result in
    let reroute = c.in_ok-reroute.reroute in
    let pushed : c.push.new.self.items ≡ done ++ reroute ∷ [] = c.in_ok-push.ensures.items in
    let more : IsRerouted c.insert.new.self (done ++ reroute ∷ []) =
    rerouted_push c.loop-entry.last c.insert.new.self done reroute c.loop-entry.invariant.last c.in_ok-insert.ensures.updates.0 c.in_ok-reroute.ensures.after in
    record {
      read = continues_more (reroute_step c.args.routers (get_by_text c.args.numbers.now) (link_at c.args.pairs.now) c.args.routes.now.routes.items) done c.push.new.self.items (drop i entries) _
          entries entry reroute (next_at entries i entry c.loop-entry-test.true c.entry-item.is) (sym c.in_ok-reroute.ensures.step) pushed c.loop-entry.invariant.read;
      count = one_longer done c.push.new.self.items reroute i pushed c.loop-entry.invariant.count;
      last = rw pushed more;
    }

pub returns-in_err-reroute : goal.returns-in_err-reroute
unfolding reroutes_of
returns-in_err-reroute c =
    let entries = c.args.entries.now in
    let i = c.loop-entry.entry-index in
    let entry = c.entry-item.result in
    fault_told (λ v. v.items) (reroutes_of c.args.routers (get_by_text c.args.numbers.now) (link_at c.args.pairs.now) c.args.routes.now.routes.items entries) c.from_residual.result
    c.in_err-reroute.field-0.0 c.from_residual.ensures.1
    (continues_stops (reroute_step c.args.routers (get_by_text c.args.numbers.now) (link_at c.args.pairs.now) c.args.routes.now.routes.items) c.loop-entry.reroutes.items (drop i entries) _ entries entry
    c.in_err-reroute.field-0.0 (next_at entries i entry c.loop-entry-test.true c.entry-item.is) (sym c.in_err-reroute.ensures.step) c.loop-entry.invariant.read)

pub returns : goal.returns
unfolding reroutes_of
returns c =
    continues_ends (reroute_step c.args.routers (get_by_text c.args.numbers.now) (link_at c.args.pairs.now) c.args.routes.now.routes.items) c.loop-entry.reroutes.items
    (drop c.loop-entry.entry-index c.args.entries.now) c.args.entries.now
    (drop_all c.loop-entry.entry-index c.args.entries.now c.loop-entry-test.false) c.loop-entry.invariant.read
