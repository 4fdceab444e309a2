use Rattle.tva_index.proofs.Common.{sym, subst, arith, links_of, entries_of, entry_at, IsEnd, IsKeyTree}
use Rattle.tva_index.proofs.Places.{length-entries_of}
use Rattle.tva_index.proofs.Paths.{has_key}
use Rattle.tva_index.proofs.Grown.{renumbered, entry_within}
use Rattle.tva_index.proofs.bits.renumber.Goals as goal

pub unreachable-requires : goal.unreachable-requires
unreachable-requires c = grind (arith, c.in-Missing.is, c.requires.there.0)

pub set_entry-requires : goal.set_entry-requires
set_entry-requires c = grind (arith, c.in-Found.is, entry_within, length-entries_of)

pub returns-clause-tree : goal.returns-clause-tree
returns-clause-tree c =
    let t = c.args.tree.now in
    let ps = t.places.items in
    let e = subst (IsEnd (links_of ps) (entries_of ps) c.args.key) c.in-Found.is c.walk.ensures in
    let old = has_key c.args.key (entry_at (entries_of ps) c.in-Found.led.at) e.entry in
    subst (λ z. IsKeyTree z (entries_of c.set_entry.new.places.items) t.free.items) (sym c.set_entry.ensures.links)
    (subst (λ z. IsKeyTree (links_of ps) z t.free.items) (sym c.set_entry.ensures.entries)
    (renumbered (links_of ps) (entries_of ps) t.free.items c.requires.tree c.args.key c.args.number c.in-Found.led.at old.0 old.1 old.2))

pub returns-clause-written : goal.returns-clause-written
returns-clause-written c = grind (arith, c.in-Found.is, entry_within)
