use Rattle.tva_index.proofs.Common.{◌<◌, ℕ, Option, Some, None, List, set, length, ap, sym, ◌∙◌, arith, get_or_read}
use Rattle.tva_index.proofs.Chains.{home_read, linked-out_is}
use Rattle.tva_index.proofs.links.take_out.Goals as goal

pub first_above-above-requires-clause-bucket : goal.first_above-above-requires-clause-bucket
first_above-above-requires-clause-bucket c =
    let k = c.args.links.now in
    c.requires.linked.known c.args.place c.in-Some.bucket (home_read k.homes.items c.args.place c.index.result.now (Some c.in-Some.bucket) c.requires.place c.index.ensures (sym c.place.ensures ∙ c.in-Some.is))

pub returns-clause-linked : goal.returns-clause-linked
returns-clause-linked c =
    let k = c.args.links.now in
    let n = c.set_link in
    let l : c.args.place < length k.before.items = omega (arith, c.requires.linked.same, c.requires.place) in
    linked-out_is k.last.items k.before.items k.homes.items n.new.links.last.items n.new.links.before.items (set n.new.links.homes.items c.args.place c.nowhere.result) c.args.place c.in-Some.bucket c.first_above-above.result c.place-below.result c.requires.linked c.requires.place
    (home_read k.homes.items c.args.place c.index.result.now (Some c.in-Some.bucket) c.requires.place c.index.ensures (sym c.place.ensures ∙ c.in-Some.is)) c.first_above-above.ensures (c.place-below.ensures ∙ get_or_read k.before.items c.args.place c.index-2.result.now l c.index-2.ensures None)
    n.ensures.last n.ensures.before (ap (λ (z : List (Option ℕ)). set z c.args.place c.nowhere.result) n.ensures.homes ∙ ap (λ (z : Option ℕ). set k.homes.items c.args.place z) c.nowhere.ensures)
