use Rattle.tva_router.proofs.Common.{◌≡◌, ◌≤◌, Some, sym, ap, ◌∙◌, subst, arith, Fate, MissesNone, outgoing_link, handle, kept_after, RouterData, StandsFor, ◌with◌}
use Rattle.tva_router.proofs.Stocked.{has_hand, stocked_arrived}
use Rattle.tva_router.proofs.router.Router.arrive.Goals as goal

pub hand_of-hand-requires : goal.hand_of-hand-requires
hand_of-hand-requires c = has_hand c.self.inside.inner c.self.inside.stock c.self.invariant

pub invariant_of-self : goal.invariant_of-self
invariant_of-self c =
    let le = subst (λ (v : RouterData). v.last ≤ c.args.now.0) (sym c.self.view_is) c.requires.time in
    stocked_arrived c.self.inside.inner c.arrive_from-fate.new.self c.args.now.0 c.args.from c.args.packet c.arrive_from-fate.new.hand c.self.inside.stock c.packet_of.new.self c.self.invariant
    le c.arrive_from-fate.ensures.same
    (λ h logs s. c.arrive_from-fate.ensures.stands h logs c.args.packet s c.hand_of-hand.ensures.packet)
    (λ h logs s. c.arrive_from-fate.ensures.left h logs c.args.packet s c.hand_of-hand.ensures.packet
    ∙ ap (λ (f : Fate). kept_after f.outcome (handle c.self.inside.inner.plan h logs c.args.now.0 c.args.from c.args.packet).onward) (c.arrive_from-fate.ensures.fate h logs c.args.packet s c.hand_of-hand.ensures.packet))
    (omega (arith, c.hand_of-hand.ensures.count, c.packet_of.ensures.count))
    (c.packet_of.ensures.room ∙ c.hand_of-hand.ensures.room)

pub returns-clause-missed : goal.returns-clause-missed
returns-clause-missed c h logs link until limits s f i m =
    subst (λ (v : RouterData). StandsFor v h logs → outgoing_link v.plan link ≡ Some (link, limits)
    → MissesNone limits until ((logs with (handle v.plan h logs c.args.now.0 c.args.from c.args.packet).queued) link)) c.self.view_is
    (λ t g. c.arrive_from-fate.ensures.missed h logs link until limits c.args.packet t c.hand_of-hand.ensures.packet g i m) s f
