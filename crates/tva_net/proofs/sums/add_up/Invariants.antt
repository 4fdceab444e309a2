use Rattle.tva_net.proofs.Common.{◌≡◌, ◌+◌, ◌++◌, List, take, Event, totals_of, AreWithin}
use Rattle.tva_net.proofs.sums.add_up.Given as goal

abbrev pub invariant-loop-event : goal.invariant-loop-event
invariant-loop-event l = record {
  sums : (told : List Event) → l.initial.sums ≡ totals_of told → l.sums ≡ totals_of (told ++ take l.event-index l.events);
  count : l.sums.events ≡ l.initial.sums.events + l.event-index;
  within : AreWithin l.sums;
}
