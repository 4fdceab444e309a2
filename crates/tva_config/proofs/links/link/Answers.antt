use Rattle.tva_config.proofs.Common.{◌≡◌, ◌∙◌, sym, true, false, rules, arith, list_any, common_steps, joins}
use Rattle.tva_config.proofs.Numbered.{pair_is_there}
use Rattle.tva_config.proofs.links.link.Goals as goal

pub returns-then-contains_key : goal.returns-then-contains_key
returns-then-contains_key c =
    let there : list_any (joins c.in-Some.from c.in-Some-node.to) c.args.earlier.now.items ≡ true =
    sym (pair_is_there c.args.pairs.now c.args.earlier.now.items c.in-Some.from c.in-Some-node.to c.requires.pairs) ∙ sym c.contains_key.ensures ∙ c.if-contains_key.true in
    first_of (search rules, grind (arith, common_steps))

pub returns : goal.returns
returns c =
    let absent : list_any (joins c.in-Some.from c.in-Some-node.to) c.args.earlier.now.items ≡ false =
    sym (pair_is_there c.args.pairs.now c.args.earlier.now.items c.in-Some.from c.in-Some-node.to c.requires.pairs) ∙ sym c.contains_key.ensures ∙ c.if-contains_key.false in
    first_of (search rules, grind (arith, common_steps))
