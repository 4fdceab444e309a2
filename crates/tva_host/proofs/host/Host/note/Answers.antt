use Rattle.tva_host.proofs.Common.{sym, subst, HostData, Keeps}
use Rattle.tva_host.proofs.Standing.{has-sent, keeps-sent}
use Rattle.tva_host.proofs.host.Host.note.Goals as goal

pub invariant_of-self : goal.invariant_of-self
invariant_of-self c = has-sent _ c.sent.new.self c.args.dst c.sent.result c.self.invariant c.sent.ensures.stands c.sent.ensures.err

pub returns-clause-keeps : goal.returns-clause-keeps
returns-clause-keeps c h k =
    keeps-sent _ c.sent.new.self c.args.dst h c.sent.result
    (subst (λ (v : HostData). Keeps v h) (sym c.self.view_is) (c.in_ok-make_room.ensures.keeps h k)) c.sent.ensures.stands
