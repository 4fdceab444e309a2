use Rattle.tva_config.proofs.Common.{◌≡◌, ◌∙◌, sym, true, false, rules, arith, list_any, common_steps, is_for}
use Rattle.tva_config.proofs.routes.next.Goals as goal

pub returns-then-contains : goal.returns-then-contains
returns-then-contains c =
    let owned = c.in_ok-owned.owned in
    let there : list_any (is_for owned.router owned.route.prefix) c.args.earlier.now.items ≡ true =
    sym (c.requires.seen owned.router owned.route.prefix.address.0 owned.route.prefix.bits) ∙ sym c.contains.ensures ∙ c.if-contains.true in
    first_of (search rules, grind (arith, common_steps))

pub returns : goal.returns
returns c =
    let owned = c.in_ok-owned.owned in
    let absent : list_any (is_for owned.router owned.route.prefix) c.args.earlier.now.items ≡ false =
    sym (c.requires.seen owned.router owned.route.prefix.address.0 owned.route.prefix.bits) ∙ sym c.contains.ensures ∙ c.if-contains.false in
    first_of (search rules, grind (arith, common_steps))
