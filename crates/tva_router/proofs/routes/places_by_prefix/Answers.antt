use Rattle.tva_router.proofs.Common.{◌-◌, arith, Route}
use Rattle.tva_router.proofs.Tables.{route_places-before}
use Rattle.tva_router.proofs.routes.places_by_prefix.Goals as goal

pub loop-place-preserved : goal.loop-place-preserved
loop-place-preserved c =
    let none : Route = record { prefix = record { address = record { 0 = 0 }; bits = 0 }; link = 0 } in
    record {
      within = omega arith;
      places = route_places-before c.args.routes.now c.loop-place.place (c.loop-place.place - 1) none c.loop-place.places c.insert.new.self (omega arith) (omega arith) c.loop-place.invariant.places c.in_ok-insert.ensures.updates.0;
    }
