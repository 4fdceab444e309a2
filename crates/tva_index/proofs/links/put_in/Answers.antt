use Rattle.tva_index.proofs.Common.{ℕ, Option, Some, List, set, ap, ◌∙◌, with_before}
use Rattle.tva_index.proofs.Chains.{linked-in_is}
use Rattle.tva_index.proofs.links.put_in.Goals as goal

pub returns-clause-linked : goal.returns-clause-linked
returns-clause-linked c =
    let k = c.args.links.now in
    let n = c.set_link in
    linked-in_is k.last.items k.before.items k.homes.items n.new.links.last.items n.new.links.before.items (set n.new.links.homes.items c.args.place c.to-2.result) c.args.place c.args.bucket c.first_above-above.result c.link-below.result c.requires.linked c.requires.place
    c.requires.free c.requires.bucket c.first_above-above.ensures c.link-below.ensures n.ensures.last (n.ensures.before ∙ ap (λ (z : Option ℕ). with_before (set k.before.items c.args.place z) c.first_above-above.result (Some c.args.place)) c.to.ensures)
    (ap (λ (z : List (Option ℕ)). set z c.args.place c.to-2.result) n.ensures.homes ∙ ap (λ (z : Option ℕ). set k.homes.items c.args.place z) c.to-2.ensures)
