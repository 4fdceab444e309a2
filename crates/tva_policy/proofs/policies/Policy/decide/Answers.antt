use Rattle.tva_policy.proofs.Common.{sym, subst, ◌∙◌, ap, true, unwrap_or, has_address, lets_in, Notes, StandsFor, denies}
use Rattle.tva_policy.proofs.Compared.{grants_kept_by, grants_kept-insert}
use Rattle.tva_policy.proofs.Keeping.{not_let_in, too_often, denied, granted, stands_decided}
use Rattle.tva_policy.proofs.policies.Policy.decide.Goals as goal

pub returns-then-before-self-clause-answer : goal.returns-then-before-self-clause-answer
returns-then-before-self-clause-answer c plan h s = too_often plan _ h c.args.src c.args.tags.now _ (subst (λ (v : Notes). StandsFor plan v h) (sym c.self.view_is) s) (c.unwrap_or-before.ensures ∙ ap (λ o. unwrap_or o 0) (c.copied.ensures ∙ c.get.ensures.value) ∙ grants_kept_by c.args.src c.self.inside.granted.entries) c.if-before-self.true

pub returns-then-not-lets_in-clause-answer : goal.returns-then-not-lets_in-clause-answer
returns-then-not-lets_in-clause-answer c plan h s = not_let_in plan _ h c.args.src c.args.tags.now s (sym c.if-not-lets_in.ensures)

pub returns-then-denies-clause-answer : goal.returns-then-denies-clause-answer
returns-then-denies-clause-answer c plan h s = denied plan _ h c.args.src c.args.tags.now s (sym c.denies.ensures ∙ c.if-denies.true)

pub returns-clause-answer : goal.returns-clause-answer
returns-clause-answer c plan h s = granted plan _ h c.args.src c.args.tags.now _ (subst (λ (v : Notes). StandsFor plan v h) (sym c.self.view_is) s) (c.unwrap_or-before.ensures ∙ ap (λ o. unwrap_or o 0) (c.copied.ensures ∙ c.get.ensures.value) ∙ grants_kept_by c.args.src c.self.inside.granted.entries) c.if-before-self.false
    (ap (λ (v : Notes). lets_in v.kind (has_address v.noted c.args.src)) c.self.view_is ∙ sym c.if-not-lets_in.ensures)
    (ap (λ v. denies v c.args.src c.args.tags.now) c.self.view_is ∙ sym c.if-denies.ensures)

pub returns-clause-stands : goal.returns-clause-stands
returns-clause-stands c plan h s = stands_decided plan _ h c.args.src true _ (subst (λ (v : Notes). StandsFor plan v h) (sym c.self.view_is) s) (λ a. grants_kept-insert c.args.src a c.self.inside.granted.entries c.insert.new.self.entries c.unwrap_or-before.result (c.unwrap_or-before.ensures ∙ ap (λ o. unwrap_or o 0) (c.copied.ensures ∙ c.get.ensures.value) ∙ grants_kept_by c.args.src c.self.inside.granted.entries) (c.in_ok-insert.ensures.updates.0 a))
