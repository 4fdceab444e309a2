use Rattle.tva_router.proofs.Tables.{all_short}
use Rattle.tva_router.proofs.routes.table_of.Goals as goal

pub returns : goal.returns
returns c = record { short = all_short c.args.routes.now c.requires; marked = c.lengths_of.ensures; places = c.in_ok-places_by_prefix.ensures }
