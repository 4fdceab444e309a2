use Rattle.std.proofs.Common.{rules}
use Rattle.tva_port.proofs.Common.{◌≡◌, ◌↔◌, ℕ, ◌+◌, ◌*◌, ◌++◌, ap, sym, ◌∙◌, subst, arith, PacketData, packet_length, LinkLimits, AreLinkLimits, IsLegal, Waiting, IsEmpty, IsRequestAlone, next_request, NoneDueBefore, started_by, PortData, freed, decision_by, Decision, Idle}
use Rattle.tva_port.proofs.Hands.{rested_leaves, rested_free}
use Rattle.tva_port.proofs.Standing.{decided, stands_by_decide, paid_less, sound-later}
use Rattle.tva_port.proofs.Served.{all_served, alike}
use Rattle.tva_port.proofs.Logs.{later-weaker}
use Rattle.tva_port.proofs.Resting.{rests, misses, first_covered}
use Rattle.tva_port.proofs.Idling.{idles, waits_alone}
use Rattle.tva_port.proofs.Steady.{next_sized, steady, ends_later}
use Rattle.tva_port.proofs.hand_port.HandPort.decide_into.Goals as goal

valid : (c : goal.After-self-4-1) → AreLinkLimits c.args.self.now.limits
valid c = subst (λ (z : PortData). AreLinkLimits z.limits) c.self.view_is c.self.invariant.limits

pub returns-clause-decision : goal.returns-clause-decision
returns-clause-decision c log s =
    decided _ c.args.self.now log c.args.now.0 c.grow-self-inside.result (decision_by c.start_next-next.result c.start_next-next.new.hand) c.self.view_is s c.requires.time
    c.grow-self-inside.ensures c.start_next-next.ensures.decision

pub returns-clause-stands : goal.returns-clause-stands
returns-clause-stands c log s =
    stands_by_decide _ c.args.self.now log c.args.now.0 c.grow-self-inside.result c.pay-self-inside.result c.occupy-self-inside.result _ (decision_by c.start_next-next.result c.start_next-next.new.hand) c.self.view_is s c.requires.time c.requires.free
    c.grow-self-inside.ensures c.start_next-next.ensures.decision c.pay-self-inside.ensures c.occupy-self-inside.ensures.value c.start_next-next.ensures.left

pub returns-clause-wait : goal.returns-clause-wait
returns-clause-wait c log u p s e h =
    first_covered c.args.self.now.limits log c.args.now.0 u p (valid c) s.legal
    (later-weaker c.args.self.now.last c.args.now.0 log c.requires.time s.past)
    (next_sized c.args.self.now.limits log p (valid c) s.legal (ap (λ (w : Waiting). next_request w) (sym s.waiting) ∙ h))
    (sym e ∙ returns-clause-decision c log s)
    (ap (λ (w : Waiting). next_request w) (sym s.waiting) ∙ h)

pub returns-clause-idle : goal.returns-clause-idle
returns-clause-idle c log s =
    subst (λ (w : Waiting). ((decision_by c.start_next-next.result c.start_next-next.new.hand) ≡ Idle) ↔ IsEmpty w) (sym s.waiting)
    (idles c.args.self.now.limits log c.args.now.0 (decision_by c.start_next-next.result c.start_next-next.new.hand) (valid c) s.legal (returns-clause-decision c log s))

pub returns-clause-alone : goal.returns-clause-alone
returns-clause-alone c log u s e =
    subst (λ (w : Waiting). (p : PacketData) × IsRequestAlone w p) (sym s.waiting)
    (waits_alone c.args.self.now.limits log c.args.now.0 u (valid c) s.legal (sym e ∙ returns-clause-decision c log s))

pub returns-clause-later : goal.returns-clause-later
returns-clause-later c log u s e =
    ends_later c.args.self.now.limits log c.args.now.0 u (valid c) s.legal
    (later-weaker c.args.self.now.last c.args.now.0 log c.requires.time s.past)
    (sym e ∙ returns-clause-decision c log s)

pub returns-clause-steady : goal.returns-clause-steady
returns-clause-steady c log until s n i time h k =
    steady c.args.self.now.limits log c.args.now.0 c.occupy-self-inside.result (decision_by c.start_next-next.result c.start_next-next.new.hand) until time
    (valid c) s.legal
    (later-weaker c.args.self.now.last c.args.now.0 log c.requires.time s.past)
    (returns-clause-decision c log s) n i h k

pub returns-clause-occupied : goal.returns-clause-occupied
returns-clause-occupied c class packet e =
    c.occupy-self-inside.ensures.value
    ∙ (ap (λ (d : Decision). freed c.self.inside.limits c.self.inside.free_at c.args.now.0 d) e
    ∙ ap (λ (v : PortData). c.args.now.0 + packet_length packet * v.limits.ns_per_byte) c.self.view_is)

pub returns-clause-rested : goal.returns-clause-rested
returns-clause-rested c e = search (rules, rested_leaves, rested_free, c.start_next-next.ensures.left, c.occupy-self-inside.ensures.value)

freed_is : (c : goal.After-self-4-1) → c.occupy-self-inside.result ≡ freed c.args.self.now.limits c.args.self.now.free_at c.args.now.0 (decision_by c.start_next-next.result c.start_next-next.new.hand)
freed_is c = search (rules, c.occupy-self-inside.ensures.value)

pub returns-clause-rests : goal.returns-clause-rests
returns-clause-rests c log until s i time h k =
    rests c.args.self.now.limits log c.args.now.0 c.args.self.now.free_at (decision_by c.start_next-next.result c.start_next-next.new.hand) until time
    s.legal
    (later-weaker c.args.self.now.last c.args.now.0 log c.requires.time s.past)
    (returns-clause-decision c log s)
    (subst (λ (x : ℕ). NoneDueBefore (decision_by c.start_next-next.result c.start_next-next.new.hand) x until) (freed_is c) i)
    h k

pub returns-clause-missed : goal.returns-clause-missed
returns-clause-missed c log until s m i =
    misses c.args.self.now.limits log c.args.now.0 c.args.self.now.free_at (decision_by c.start_next-next.result c.start_next-next.new.hand) until
    s.legal
    (later-weaker c.args.self.now.last c.args.now.0 log c.requires.time s.past)
    (returns-clause-decision c log s)
    m
    (subst (λ (x : ℕ). NoneDueBefore (decision_by c.start_next-next.result c.start_next-next.new.hand) x until) (freed_is c) i)

pub returns-clause-served : goal.returns-clause-served
returns-clause-served c log s m =
    all_served c.args.self.now.limits log c.args.now.0 (decision_by c.start_next-next.result c.start_next-next.new.hand)
    (valid c)
    (subst (λ (l : LinkLimits). IsLegal l (log ++ started_by (decision_by c.start_next-next.result c.start_next-next.new.hand) c.args.now.0)) (ap (λ (v : PortData). v.limits) c.self.view_is) (returns-clause-stands c log s).legal)
    (later-weaker c.args.self.now.last c.args.now.0 log c.requires.time s.past)
    (returns-clause-decision c log s)
    m

pub returns-clause-alike : goal.returns-clause-alike
returns-clause-alike c log s =
    alike c.args.self.now.limits (log ++ started_by (decision_by c.start_next-next.result c.start_next-next.new.hand) c.args.now.0)
    (valid c)
    (subst (λ (l : LinkLimits). IsLegal l (log ++ started_by (decision_by c.start_next-next.result c.start_next-next.new.hand) c.args.now.0)) (ap (λ (v : PortData). v.limits) c.self.view_is) (returns-clause-stands c log s).legal)

pub invariant_of-self : goal.invariant_of-self
invariant_of-self c =
    sound-later c.self.inside.limits _ _ _ c.args.now.0 _ _ _ _ _ _ _ _ c.self.invariant
    (omega (arith, c.grow-self-inside.ensures, c.pay-self-inside.ensures, paid_less c.self.inside.limits c.grow-self-inside.result (decision_by c.start_next-next.result c.start_next-next.new.hand)))
    c.occupy-self-inside.ensures.soon c.start_next-next.ensures.requests c.start_next-next.ensures.regulars c.start_next-next.ensures.legacy
