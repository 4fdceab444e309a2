use Rattle.tva_node.proofs.Common.{length, Keeps, state_of, TakesAt}
use Rattle.tva_node.proofs.parts.Parts.take_all.Given as goal

abbrev pub invariant-loop-self : goal.invariant-loop-self
invariant-loop-self l = record {
  stands : TakesAt (state_of l.self) l.now;
  keeps : Keeps (state_of l.initial.self) (state_of l.self);
}

abbrev pub decreases-loop-self : goal.decreases-loop-self
decreases-loop-self l = length l.self.waiting
