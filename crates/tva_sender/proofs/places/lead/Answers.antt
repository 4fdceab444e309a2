use Rattle.tva_sender.proofs.Common.{subst, IsEnd}
use Rattle.tva_sender.proofs.Tree.{each-nowhere}
use Rattle.tva_sender.proofs.places.lead.Goals as goal

pub unreachable-requires : goal.unreachable-requires
unreachable-requires c =
    let e = subst (IsEnd c.args.nodes.now.items c.args.address) c.in-Found.is c.walk.ensures in
    each-nowhere c.args.address c.args.nodes.now.items c.requires.nowhere c.in-Found.field-0 e.0 e.1
