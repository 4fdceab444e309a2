use Rattle.tva_net.proofs.Common.{◌≡◌, ◌++◌, drop, map, news, picked}
use Rattle.tva_net.proofs.gathering.news_of.Given as goal

abbrev pub invariant-loop-place : goal.invariant-loop-place
invariant-loop-place l = map (λ event. event.now) l.told.items ++ picked news l.nodes (drop l.place-index l.places) ≡ picked news l.nodes l.places
