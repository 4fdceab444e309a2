use Rattle.tva_host.proofs.Common.{ℕ, ap, subst, ◌∙◌, ◌∷◌, [], cond, ReturnInfo, IsReturn, Taken, Notice, takes, Book, of_peer}
use Rattle.tva_host.proofs.Standing.{showable-push, showable-granted, has-book}
use Rattle.tva_host.proofs.host.Host.hear.Goals as goal

pub invariant_of-self : goal.invariant_of-self
invariant_of-self c =
    has-book _ c.demoted.new.self ((c.args.src, Notice) ∷ []) c.self.invariant (c.demoted.ensures.stands c.self.invariant.history.contacts c.self.invariant.keeps.sender)
    (showable-push c.self.inside.plan.version c.self.invariant.history.contacts c.args.src Notice c.self.invariant.showable tt)
    (ap (λ (b : Book). b.margin) c.demoted.ensures.rest) (ap (λ (b : Book). b.retry) c.demoted.ensures.rest) (ap (λ (b : Book). b.version) c.demoted.ensures.rest) (ap (λ (b : Book). b.last) c.demoted.ensures.rest)

pub invariant_of-self-in-Grant : goal.invariant_of-self-in-Grant
invariant_of-self-in-Grant c =
    has-book _ c.granted-is_taken.new.self (cond c.granted-is_taken.result ((c.args.src, Taken c.in-Grant.rights c.in-Grant.caps) ∷ []) []) c.self.invariant
    (c.granted-is_taken.ensures.stands c.self.invariant.history.contacts c.self.invariant.keeps.sender)
    (showable-granted c.self.inside.plan.version c.self.invariant.valid.version c.self.invariant.history.contacts c.self.invariant.history.contacts c.args.src c.in-Grant.rights c.in-Grant.caps c.granted-is_taken.result
    (c.granted-is_taken.ensures.taken c.self.invariant.history.contacts c.self.invariant.keeps.sender ∙ ap (λ (v : ℕ). takes v (of_peer c.args.src c.self.invariant.history.contacts) c.in-Grant.rights) c.self.invariant.keeps.version)
    c.self.invariant.showable (subst (λ (b : ReturnInfo). IsReturn 2 b) c.in-Grant.is c.requires))
    (ap (λ (b : Book). b.margin) c.granted-is_taken.ensures.rest) (ap (λ (b : Book). b.retry) c.granted-is_taken.ensures.rest) (ap (λ (b : Book). b.version) c.granted-is_taken.ensures.rest) (ap (λ (b : Book). b.last) c.granted-is_taken.ensures.rest)
