use Rattle.tva_net.proofs.Common.{◌+◌, ◌-◌, AllZip, work_of, GrowsFrom, AreNoted, AddsNothing, CanWork, OfEachRun}
use Rattle.tva_net.proofs.works.Works.later_events.Given as goal

abbrev pub invariant-loop-events : goal.invariant-loop-events
invariant-loop-events g l = record {
  can : CanWork (work_of l.self);
  noted : AreNoted l.self.times l.self.nodes.items;
  passes : OfEachRun (λ config rows windows told. AddsNothing config rows windows told (work_of l.self)) (work_of l.initial.self);
  kept : AllZip GrowsFrom l.initial.self.nodes.items l.self.nodes.items;
}

abbrev pub decreases-loop-events : goal.decreases-loop-events
decreases-loop-events g l = l.self.horizon.0 + 1 - l.self.worked_to
