use Rattle.tva_router.proofs.Common.{◌≡◌, ◌+◌, take, arith, places_on}
use Rattle.tva_router.proofs.Stocked.{places_more}
use Rattle.tva_router.proofs.router.add_for.Goals as goal

pub loop-link-preserved : goal.loop-link-preserved
loop-link-preserved c =
    let more : places_on (take (c.loop-link._link-index + 1) c.args.outgoing.now) ≡ places_on (take c.loop-link._link-index c.args.outgoing.now) + c.places_in.result =
    places_more c.args.outgoing.now c.loop-link._link-index _ c.places_in.result c.loop-link-test.true c.places_in.ensures.value in (
      omega (arith, c.in_ok-add-2.ensures.count, c.loop-link.invariant.0, more),
      c.in_ok-add-2.ensures.room,
    )
