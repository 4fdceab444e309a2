use Rattle.tva_config.proofs.Common.{◌≡◌, ◌≤◌, ◌*◌, ◌^◌, take, all_places}
use Rattle.tva_config.proofs.links.all_places.Given as goal

abbrev pub invariant-loop-link : goal.invariant-loop-link
invariant-loop-link l = record {
  total : l.total ≡ all_places
      (take l.link-index l.links);
  room : l.total ≤ l.link-index * 2 ^ 97;
}
