use Rattle.tva_router.proofs.Common.{◌-◌, arith}
use Rattle.tva_router.proofs.Tables.{places-before}
use Rattle.tva_router.proofs.places.places_of.Goals as goal

pub loop-place-preserved : goal.loop-place-preserved
loop-place-preserved g c = record {
  within = omega arith;
  places = places-before c.args.links.now c.loop-place.place (c.loop-place.place - 1) c.index-links-place.result c.loop-place.places c.insert.new.self (omega arith) (omega arith) c.loop-place.invariant.places c.in_ok-insert.ensures.updates.0;
}
