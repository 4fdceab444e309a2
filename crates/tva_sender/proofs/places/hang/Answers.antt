use Rattle.tva_sender.proofs.Growing.{tree-grown, addresses-grown}
use Rattle.tva_sender.proofs.places.hang.Goals as goal

pub returns-clause-tree : goal.returns-clause-tree
returns-clause-tree c =
    rw (c.push_reserved-2.ensures.items, c.lead.ensures.led.is, c.leaf-2.ensures)
    (tree-grown c.args.nodes.now.items c.requires.tree c.args.address c.lead.ensures.led.at c.lead.ensures.led.high c.lead.ensures.led.missing)

pub returns-clause-addresses : goal.returns-clause-addresses
returns-clause-addresses c =
    rw (c.push_reserved-2.ensures.items, c.lead.ensures.led.is, c.leaf-2.ensures)
    (addresses-grown c.args.nodes.now.items c.requires.tree c.args.address c.lead.ensures.led.at c.lead.ensures.led.high c.lead.ensures.led.missing)
