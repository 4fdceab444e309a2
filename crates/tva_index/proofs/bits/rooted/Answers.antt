use Rattle.std.proofs.Common.{arith}
use Rattle.tva_index.proofs.Common.{◌+◌, ap, ◌∙◌, links_of, entries_of}
use Rattle.tva_index.proofs.Places.{links_of-unused, entries_of-unused}
use Rattle.tva_index.proofs.Rooted.{none_at, rooted_tree}
use Rattle.tva_index.proofs.bits.rooted.Goals as goal

pub returns-clause-tree : goal.returns-clause-tree
returns-clause-tree c =
    let ps = c.in_ok-places.places.items in
    rooted_tree c.args.places (links_of ps) (entries_of ps) c.in_ok-free.free.items c.requires
    (ap links_of c.in_ok-places.ensures ∙ links_of-unused (c.args.places + 1)) (ap entries_of c.in_ok-places.ensures ∙ entries_of-unused (c.args.places + 1))
    c.in_ok-free.ensures.count c.in_ok-free.ensures.each

pub returns-clause-none : goal.returns-clause-none
returns-clause-none c = grind (arith, none_at, entries_of-unused)
