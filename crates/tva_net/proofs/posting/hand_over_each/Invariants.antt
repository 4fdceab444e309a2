use Rattle.tva_net.proofs.Common.{◌≡◌, ◌++◌, drop, AllZip, unsent, picked, HandedOn}
use Rattle.tva_net.proofs.Forgotten.{AreHanding}
use Rattle.tva_net.proofs.posting.hand_over_each.Given as goal

abbrev pub invariant-loop-place : goal.invariant-loop-place
invariant-loop-place l = record {
  sent : l.sent.items ++ picked unsent l.initial.nodes (drop l.place-index l.places) ≡ picked unsent l.initial.nodes l.places;
  handing : AreHanding (drop l.place-index l.places) l.initial.nodes l.nodes;
  handed : AllZip HandedOn l.initial.nodes l.nodes;
}
