use Rattle.tva_net.proofs.Noted.{first_is}
use Rattle.tva_net.proofs.times.first_time.Goals as goal

pub returns-in-Some : goal.returns-in-Some
returns-in-Some c = first_is c.args.nodes.now (c.in-Some.field-0-0, c.in-Some.time) c.in-Some.ensures
