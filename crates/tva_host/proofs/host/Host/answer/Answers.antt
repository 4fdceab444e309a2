use Rattle.tva_host.proofs.Common.{sym, subst, ap, ◌∙◌, is_some, Decided, grant_decision, after_answer, answer_to_claim, claim_in, HostData, Keeps}
use Rattle.tva_host.proofs.Standing.{rights-fit, some-fit, has-deed}
use Rattle.tva_host.proofs.Hearing.{keeps-answer, answer-nobody, keeps-nobody}
use Rattle.tva_host.proofs.host.Host.answer.Goals as goal

pub granted-requires : goal.granted-requires
granted-requires c =
    some-fit c.self.inside.plan.version c.in_ok-rights.rights
    (rights-fit c.self.inside.plan.version c.self.inside.plan.policy c.self.invariant.history.deeds c.args.src c.as_slice.result.now c.in_ok-rights.rights c.self.invariant.valid.rights
    (c.in_ok-rights.ensures.answer c.self.inside.plan.policy c.self.invariant.history.deeds c.self.invariant.keeps.policy))

pub returns-clause-fits : goal.returns-clause-fits
returns-clause-fits c =
    let fits = rights-fit c.self.inside.plan.version c.self.inside.plan.policy c.self.invariant.history.deeds c.args.src c.as_slice.result.now c.in_ok-rights.rights c.self.invariant.valid.rights
    (c.in_ok-rights.ensures.answer c.self.inside.plan.policy c.self.invariant.history.deeds c.self.invariant.keeps.policy) in
    rw (← c.self.view_is) (c.granted.ensures.fits c.self.inside.plan.version fits)

pub invariant_of-self-2 : goal.invariant_of-self-2
invariant_of-self-2 c = has-deed _ c.decide.new.self (Decided c.args.src (is_some c.in_ok-rights.rights)) c.self.invariant c.in_ok-rights.ensures.stands

pub returns-clause-keeps : goal.returns-clause-keeps
returns-clause-keeps c h k =
    let kept = subst (λ (w : HostData). Keeps w h) (sym c.self.view_is) k in
    rw (← c.self.view_is)
    (keeps-answer _ c.decide.new.self h c.args.src c.args.carried.now _ c.in_ok-rights.rights kept c.in-Some.ensures
    (c.in_ok-rights.ensures.answer c.self.inside.plan.policy h.deeds kept.policy ∙ ap (grant_decision c.self.inside.plan.policy h.deeds c.args.src) c.as_slice.ensures.value)
    (c.in_ok-rights.ensures.stands c.self.inside.plan.policy h.deeds kept.policy))

pub returns-then-grants_nobody-clause-answer : goal.returns-then-grants_nobody-clause-answer
returns-then-grants_nobody-clause-answer c h k =
    let never = sym (c.grants_nobody.ensures.kind c.self.inside.plan.policy h.deeds (subst (λ (w : HostData). Keeps w h) (sym c.self.view_is) k).policy) ∙ c.if-grants_nobody.true in
    c.notice_for.ensures.answer
    ∙ answer-nobody c.self.inside.plan h.deeds c.args.src c.args.carried.now never
    ∙ ap (λ (w : HostData). answer_to_claim w.plan h.deeds c.args.src c.args.carried.now (claim_in c.args.carried.now)) c.self.view_is

pub returns-then-grants_nobody-clause-keeps : goal.returns-then-grants_nobody-clause-keeps
returns-then-grants_nobody-clause-keeps c h k =
    let kept = subst (λ (w : HostData). Keeps w h) (sym c.self.view_is) k in
    let never = sym (c.grants_nobody.ensures.kind c.self.inside.plan.policy h.deeds kept.policy) ∙ c.if-grants_nobody.true in
    subst (λ (w : HostData). Keeps w (after_answer w.plan c.args.src c.args.carried.now h)) c.self.view_is
    (keeps-nobody _ h c.args.src c.args.carried.now kept never (c.grants_nobody.ensures.stands c.self.inside.plan.policy h.deeds kept.policy c.if-grants_nobody.true c.args.src))
