use Rattle.tva_router.proofs.Common.{◌≡◌, ap, arith, PortData}
use Rattle.tva_router.proofs.Ports.{ports-more}
use Rattle.tva_router.proofs.hand_router.ports_of.Goals as goal

pub loop-link-preserved : goal.loop-link-preserved
loop-link-preserved c =
    let last : c.in_ok-build.field-0.last ≡ 0 = ap (λ (z : PortData). z.last) c.in_ok-build.ensures.value in
    rw c.in_ok-push.ensures.items
    (ports-more c.args.outgoing.now c.loop-link._link-index _ c.loop-link.ports.items c.in_ok-build.field-0 c.loop-link-test.true c.loop-link.invariant
    (ap (λ (z : PortData). z.limits) c.in_ok-build.ensures.value) (omega (arith, last)) c.in_ok-build.ensures.stands)
