use Rattle.tva_router.proofs.Common.{leads}
use Rattle.tva_router.proofs.Tables.{link_there, link_nowhere}
use Rattle.tva_router.proofs.routes.link_at.Goals as goal

pub returns-in-Some : goal.returns-in-Some
returns-in-Some c = link_there (leads c.args.bits c.args.dst) c.args.routes.now c.in-Some.place _ c.in-Some.ensures.place

pub returns-in-None : goal.returns-in-None
returns-in-None c = link_nowhere (leads c.args.bits c.args.dst) c.args.routes.now c.in-None.ensures.place
