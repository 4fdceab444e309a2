use Rattle.tva_policy.proofs.Common.{◌%◌, ap, sym, subst, lets_in, Notes, StandsFor}
use Rattle.tva_policy.proofs.Compared.{has_address-insert}
use Rattle.tva_policy.proofs.Keeping.{stands_sent, recent_more, again}
use Rattle.tva_policy.proofs.policies.Policy.sent.Goals as goal

pub returns-then-not-asks-clause-stands : goal.returns-then-not-asks-clause-stands
returns-then-not-asks-clause-stands c plan h s = stands_sent plan c.args.self.now h c.args.dst c.args.self.now.noted s (λ a. c.asks.ensures c.if-not-asks.true _ _)

pub returns-then-is_recent-clause-stands : goal.returns-then-is_recent-clause-stands
returns-then-is_recent-clause-stands c plan h s = stands_sent plan c.args.self.now h c.args.dst c.args.self.now.noted s (λ a. ap (lets_in c.args.self.now.kind) (again c.args.dst c.args.self.now.noted (c.is_recent.ensures c.if-is_recent.true) a))

pub invariant_of-self-2 : goal.invariant_of-self-2
invariant_of-self-2 c = recent_more c.args.dst c.self.inside.noted.keys c.insert.new.self.keys (λ a. has_address-insert c.args.dst a c.self.inside.noted.keys c.insert.new.self.keys (c.in_ok-insert.ensures.updates.0 a)) c.self.inside.recent (c.args.dst.0 % 64) c.self.invariant

pub returns-clause-stands : goal.returns-clause-stands
returns-clause-stands c plan h s = stands_sent plan _ h c.args.dst _ (subst (λ (v : Notes). StandsFor plan v h) (sym c.self.view_is) s) (λ a. ap (lets_in c.self.inside.kind) (has_address-insert c.args.dst a c.self.inside.noted.keys c.insert.new.self.keys (c.in_ok-insert.ensures.updates.0 a)))
