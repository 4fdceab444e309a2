use Rattle.tva_config.proofs.Common.{◌≡◌, length, drop, get_by_text, link_step, IsPairs, Continues}
use Rattle.tva_config.proofs.links.number_links.Given as goal

abbrev pub invariant-loop-i : goal.invariant-loop-i
invariant-loop-i l = record {
  read : Continues (link_step (get_by_text l.numbers)) l.plans.items (drop l.i l.entries) l.entries;
  count : length l.plans.items ≡ l.i;
  pairs : IsPairs l.pairs l.plans.items;
}
