use Rattle.tva_waiting.proofs.Common.{◌≤◌, length, subst, arith, IsLeastPlace, queues_in}
use Rattle.tva_waiting.proofs.Finding.{least_next, least_none}
use Rattle.tva_waiting.proofs.lanes.Lanes.next.Goals as goal

pub returns-clause-some : goal.returns-clause-some
returns-clause-some c =
    let w = c.args.self.now in
    let room : length (queues_in w) ≤ length w.heads = omega (arith, c.requires.room, c.requires.count) in
    least_next (queues_in w) c.requires.queues w.heads room c.requires.heads c.in-Some.place (subst (IsLeastPlace w.heads) c.in-Some.is c.least.ensures)

pub returns-clause-none : goal.returns-clause-none
returns-clause-none c =
    let w = c.args.self.now in
    let room : length (queues_in w) ≤ length w.heads = omega (arith, c.requires.room, c.requires.count) in
    least_none (queues_in w) c.requires.queues w.heads room c.requires.heads c.in-Some.place (subst (IsLeastPlace w.heads) c.in-Some.is c.least.ensures)
