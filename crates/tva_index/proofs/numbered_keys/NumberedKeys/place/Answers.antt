use Rattle.std.proofs.Common.{arith}
use Rattle.tva_index.proofs.Common.{ap, ◌∙◌, Ring, place_in, links_of, entries_of}
use Rattle.tva_index.proofs.Ringed.{numbered_place, absent_place}
use Rattle.tva_index.proofs.numbered_keys.NumberedKeys.place.Goals as goal

pub returns-in-Some : goal.returns-in-Some
returns-in-Some c = grind (arith, c.in-Some.is, numbered_place, c.self.invariant.0, c.in-Some.number)

pub returns-in-None : goal.returns-in-None
returns-in-None c =
    let i = c.self.inside in
    let e = rw c.in-None.is at c.number_of.ensures in
    absent_place i.places i.first i.order.items (links_of i.tree.places.items) (entries_of i.tree.places.items) i.tree.free.items c.self.invariant.0 c.args.key e
    ∙ ap (λ (r : Ring). place_in c.args.key r.keys) c.self.view_is
