use Rattle.tva_net.proofs.Common.{◌≡◌, ℕ, ◌+◌, sym, subst, arith, AreAllPlaces}
use Rattle.tva_net.proofs.Places.{all_more}
use Rattle.tva_net.proofs.due.all_places.Goals as goal

pub loop-place-preserved : goal.loop-place-preserved
loop-place-preserved c = subst (AreAllPlaces (c.loop-place.place + 1)) (sym c.in_ok-push.ensures.items) (all_more c.loop-place.place c.loop-place.places.items c.loop-place.invariant)

pub returns : goal.returns
returns c =
    let end : c.loop-place.place ≡ c.args.count = omega (arith, c.loop-place-test.false, c.loop-place.auto.place-end) in
    subst (λ (n : ℕ). AreAllPlaces n c.loop-place.places.items) end c.loop-place.invariant
