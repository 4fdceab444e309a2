use Rattle.tva_net.proofs.Common.{◌≡◌, map, take}
use Rattle.tva_net.proofs.gathering.copies_of.Given as goal

abbrev pub invariant-loop-event : goal.invariant-loop-event
invariant-loop-event l = l.events.items ≡ map (λ event. event.now) (take l.event-index l.news)
