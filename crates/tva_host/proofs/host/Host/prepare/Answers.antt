use Rattle.tva_host.proofs.Common.{ℕ, ◌∷◌, [], ◌++◌, ap, sym, subst, arith, Prepared, length_of, IsShowable, AreShowable, Book, HostData}
use Rattle.tva_sender.specs.Book.{StandsFor}
use Rattle.tva_host.proofs.Standing.{has-prepared}
use Rattle.tva_host.proofs.host.Host.prepare.Goals as goal

pub invariant_of-self : goal.invariant_of-self
invariant_of-self c =
    let stands =
    subst (λ (v : ℕ). StandsFor c.prepare.new.self (c.self.invariant.history.contacts ++ (c.args.dst, Prepared c.args.now.0 c.prepare.result (length_of v c.prepare.result c.args.body)) ∷ [])) c.self.invariant.keeps.version
    (c.prepare.ensures.stands c.self.invariant.history.contacts c.self.invariant.keeps.sender) in
    let showable =
    subst (λ (v : ℕ). IsShowable v c.prepare.result) c.self.invariant.keeps.version
    (c.prepare.ensures.showable c.self.invariant.history.contacts c.self.invariant.keeps.sender (subst (λ (v : ℕ). AreShowable v c.self.invariant.history.contacts) (sym c.self.invariant.keeps.version) c.self.invariant.showable)) in
    has-prepared _ c.prepare.new.self c.args.now.0 c.args.dst c.prepare.result c.args.body c.self.invariant stands showable
    (ap (λ (b : Book). b.margin) c.prepare.ensures.rest) (ap (λ (b : Book). b.retry) c.prepare.ensures.rest) (ap (λ (b : Book). b.version) c.prepare.ensures.rest)
    (omega (arith, c.prepare.ensures.last, c.requires.time, ap (λ (v : HostData). v.last) c.self.view_is))
