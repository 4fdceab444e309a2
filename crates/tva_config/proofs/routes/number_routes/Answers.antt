use Rattle.tva_config.proofs.Common.{◌≡◌, ◌∷◌, [], ◌++◌, ◌∙◌, ap, sym, drop, true, cond, drop_all, get_by_text, is_for, route_step, routes_of, IsSeen, same_route, link_at, fault_told, next_at, continues_more, continues_stops, continues_ends, one_longer}
use Rattle.tva_config.proofs.Numbered.{any_push}
use Rattle.tva_config.proofs.routes.number_routes.Goals as goal

pub loop-entry-preserved : goal.loop-entry-preserved
loop-entry-preserved c =
    let entries = c.args.entries.now in
    let i = c.loop-entry.entry-index in
    let done = c.loop-entry.routes.items in
    let entry = c.entry-item.result in
    let owned = c.in_ok-owned.owned in
    let pushed : c.push.new.self.items ≡ done ++ owned ∷ [] = c.in_ok-push.ensures.items in
    let more : IsSeen c.insert.new.self (done ++ owned ∷ []) =
    λ router address bits.
    c.in_ok-insert.ensures.updates.0 (router, address, bits)
    ∙ ap (λ b. cond (same_route (owned.router, owned.route.prefix.address.0, owned.route.prefix.bits) (router, address, bits)) true b) (c.loop-entry.invariant.seen router address bits)
    ∙ any_push (is_for router (record { address = record { 0 = address }; bits = bits })) c.loop-entry.routes.items owned in
    record {
      read = continues_more (route_step c.args.routers (get_by_text c.args.numbers.now) (link_at c.args.pairs.now)) done c.push.new.self.items (drop i entries) _ entries entry owned
          (next_at entries i entry c.loop-entry-test.true c.entry-item.is) (sym c.in_ok-owned.ensures) pushed c.loop-entry.invariant.read;
      count = one_longer done c.push.new.self.items owned i pushed c.loop-entry.invariant.count;
      seen = rw pushed more;
    }

pub returns-in_err-owned-clause-answer : goal.returns-in_err-owned-clause-answer
unfolding routes_of
returns-in_err-owned-clause-answer c =
    let entries = c.args.entries.now in
    let i = c.loop-entry.entry-index in
    let entry = c.entry-item.result in
    fault_told (λ v. v.routes.items) (routes_of c.args.routers (get_by_text c.args.numbers.now) (link_at c.args.pairs.now) entries) c.from_residual.result c.in_err-owned.field-0.0
    c.from_residual.ensures.1
    (continues_stops (route_step c.args.routers (get_by_text c.args.numbers.now) (link_at c.args.pairs.now)) c.loop-entry.routes.items (drop i entries) _ entries entry
    c.in_err-owned.field-0.0 (next_at entries i entry c.loop-entry-test.true c.entry-item.is) (sym c.in_err-owned.ensures) c.loop-entry.invariant.read)

pub returns-clause-answer : goal.returns-clause-answer
unfolding routes_of
returns-clause-answer c =
    continues_ends (route_step c.args.routers (get_by_text c.args.numbers.now) (link_at c.args.pairs.now)) c.loop-entry.routes.items
    (drop c.loop-entry.entry-index c.args.entries.now) c.args.entries.now
    (drop_all c.loop-entry.entry-index c.args.entries.now c.loop-entry-test.false) c.loop-entry.invariant.read
