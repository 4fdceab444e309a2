use Rattle.tva_node.proofs.Common.{◌≡◌, ◌-◌, ◌+◌, ◌≤◌, max, Stands, Keeps, state_of}
use Rattle.tva_node.proofs.parts.Parts.advance.Given as goal

abbrev pub invariant-loop-now : goal.invariant-loop-now
invariant-loop-now l = record {
  stands : Stands (state_of l.self);
  keeps : Keeps (state_of l.initial.self) (state_of l.self);
  upto : max l.self.worked_to l.end ≡ max l.initial.self.worked_to l.end;
  end : l.end ≤ l.initial.self.horizon + 1;
}

abbrev pub decreases-loop-now : goal.decreases-loop-now
decreases-loop-now l = l.end - l.self.worked_to
