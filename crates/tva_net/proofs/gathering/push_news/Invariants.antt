use Rattle.tva_net.proofs.Common.{◌≡◌, ◌++◌, map, take}
use Rattle.tva_net.proofs.gathering.push_news.Given as goal

abbrev pub invariant-loop-event : goal.invariant-loop-event
invariant-loop-event l = map (λ event. event.now) l.told.items ≡ map (λ event. event.now) l.initial.told.items ++ take l.event-index l.more
