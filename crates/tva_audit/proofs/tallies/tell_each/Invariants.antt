use Rattle.tva_audit.proofs.Common.{◌-◌, List, ◌++◌, length, take, Event, AreReady, AreTallied}
use Rattle.tva_audit.proofs.tallies.tell_each.Given as goal

-- the tallies stand for the events up to here, and there is room for the others
abbrev pub invariant-loop-event : goal.invariant-loop-event
invariant-loop-event l = record {
  ready : AreReady l.config (length l.events - l.event-index) l.tallies;
  told : (told : List Event) → AreTallied l.config told l.fn.tallies → AreTallied l.config (told ++ take l.event-index l.events) l.tallies;
}
