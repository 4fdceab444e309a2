use Rattle.tva_sender.proofs.Common.{subst, IsEnd}
use Rattle.tva_sender.proofs.Tree.{first_found, nowhere_missing}
use Rattle.tva_sender.proofs.places.find_in.Goals as goal

pub returns-in-Found : goal.returns-in-Found
returns-in-Found c =
    let e = subst (IsEnd c.args.nodes.now.items c.args.address) c.in-Found.is c.walk.ensures in
    first_found c.args.nodes.now.items c.requires c.args.address c.in-Found.at e.0 e.1

pub returns-in-Missing : goal.returns-in-Missing
returns-in-Missing c =
    nowhere_missing c.args.nodes.now.items c.requires c.args.address c.in-Missing.at c.in-Missing.high
    (subst (IsEnd c.args.nodes.now.items c.args.address) c.in-Missing.is c.walk.ensures)
