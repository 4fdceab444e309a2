use Rattle.tva_node.proofs.Common.{◌≡◌, length, take, drop, AllZip, IsAdvanced, Keeps}
use Rattle.tva_node.proofs.at_once.advance_each.Given as goal

abbrev pub invariant-loop-place : goal.invariant-loop-place
invariant-loop-place g l = record {
  ok : AllZip (IsAdvanced l.until.0) (take l.place l.initial.nodes) (take l.place l.nodes);
  kept : AllZip Keeps (take l.place l.initial.nodes) (take l.place l.nodes);
  rest : drop l.place l.nodes ≡ drop l.place l.initial.nodes;
  count : length l.nodes ≡ length l.initial.nodes;
}
