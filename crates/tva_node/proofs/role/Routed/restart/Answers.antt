use Rattle.tva_node.proofs.Common.{ℕ, List, Some, sym, subst, Time, Changes, IsRestarted, StandsOn}
use Rattle.tva_node.proofs.Making.{restarts_on}
use Rattle.tva_node.proofs.role.Routed.restart.Goals as goal

pub returns-in-Some-clause-goes : goal.returns-in-Some-clause-goes
returns-in-Some-clause-goes c =
    let r = c.args.self.now in
    let now = c.args.now.0 in
    let made = c.in-Some.ensures in
    let boot = c.restarted_by.new.self.boot in
    let is = subst (λ (xs : List (Time × List ℕ)). IsRestarted xs now r.changes.boot boot (Some c.in-Some.master)) c.restarts.ensures.restarts made.passed in
    subst (λ (x : Changes). StandsOn now r (record { router = c.restart.new.self; next = r.next; changes = x })) (λ i. record { boot = boot; moves = sym made.same.0 i; moved = sym made.same.1 i })
    (restarts_on now r c.restart.new.self boot c.in-Some.master c.requires is c.restart.ensures.last c.restart.ensures.built c.restart.ensures.plan c.restart.ensures.stands)
