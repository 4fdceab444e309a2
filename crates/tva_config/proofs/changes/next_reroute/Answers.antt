use Rattle.tva_config.proofs.Common.{◌≡◌, ◌∙◌, sym, true, false, rules, arith, list_any, get, common_steps, is_for, is_late_reroute, is_late, same_route}
use Rattle.tva_config.proofs.changes.next_reroute.Goals as goal

pub returns-then-not-contains-clause-step : goal.returns-then-not-contains-clause-step
returns-then-not-contains-clause-step c =
    let owned = c.in_ok-owned.owned in
    let absent : list_any (is_for owned.router owned.route.prefix) c.args.routes.now.routes.items ≡ false =
    sym (c.requires.seen owned.router owned.route.prefix.address.0 owned.route.prefix.bits) ∙ sym c.contains.ensures ∙ c.if-not-contains.true in
    first_of (search rules, grind (arith, common_steps))

pub returns-then-is_late-clause-step : goal.returns-then-is_late-clause-step
returns-then-is_late-clause-step c =
    let owned = c.in_ok-owned.owned in
    let prefix = owned.route.prefix in
    let there : list_any (is_for owned.router prefix) c.args.routes.now.routes.items ≡ true =
    sym (c.requires.seen owned.router prefix.address.0 prefix.bits) ∙ sym c.contains.ensures ∙ c.if-not-contains.false in
    let is : is_late (get same_route c.args.last.now (owned.router, prefix.address.0, prefix.bits)) c.args.entry.now.at
    ≡ list_any (is_late_reroute owned.router prefix c.args.entry.now.at) c.args.earlier.now.items =
    c.requires.last owned.router prefix.address.0 prefix.bits c.args.entry.now.at in
    first_of (search rules, grind (arith, common_steps))

pub returns-clause-step : goal.returns-clause-step
returns-clause-step c =
    let owned = c.in_ok-owned.owned in
    let prefix = owned.route.prefix in
    let there : list_any (is_for owned.router prefix) c.args.routes.now.routes.items ≡ true =
    sym (c.requires.seen owned.router prefix.address.0 prefix.bits) ∙ sym c.contains.ensures ∙ c.if-not-contains.false in
    let is : is_late (get same_route c.args.last.now (owned.router, prefix.address.0, prefix.bits)) c.args.entry.now.at
    ≡ list_any (is_late_reroute owned.router prefix c.args.entry.now.at) c.args.earlier.now.items =
    c.requires.last owned.router prefix.address.0 prefix.bits c.args.entry.now.at in
    first_of (search rules, grind (arith, common_steps))

pub returns-clause-after : goal.returns-clause-after
returns-clause-after c =
    let owned = c.in_ok-owned.owned in
    let prefix = owned.route.prefix in
    let there : list_any (is_for owned.router prefix) c.args.routes.now.routes.items ≡ true =
    sym (c.requires.seen owned.router prefix.address.0 prefix.bits) ∙ sym c.contains.ensures ∙ c.if-not-contains.false in
    let is : is_late (get same_route c.args.last.now (owned.router, prefix.address.0, prefix.bits)) c.args.entry.now.at
    ≡ list_any (is_late_reroute owned.router prefix c.args.entry.now.at) c.args.earlier.now.items =
    c.requires.last owned.router prefix.address.0 prefix.bits c.args.entry.now.at in
    first_of (search rules, grind (arith, common_steps))
