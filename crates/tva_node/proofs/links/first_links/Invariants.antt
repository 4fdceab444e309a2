use Rattle.tva_node.proofs.Common.{◌≡◌, ◌<◌, All, map, take, Link, first_link}
use Rattle.tva_node.proofs.links.first_links.Given as goal

abbrev pub invariant-loop-number : goal.invariant-loop-number
invariant-loop-number l = record {
  links : l.out.items ≡ map first_link (take l.number-index l.links);
  small : All (λ (l : Link). l.number < 65536) l.out.items;
}
