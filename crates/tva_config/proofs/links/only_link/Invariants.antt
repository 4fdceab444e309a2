use Rattle.tva_config.proofs.Common.{◌≡◌, ◌++◌, drop, picked, number_from}
use Rattle.std.specs.Option.{option_to_list}
use Rattle.tva_config.proofs.links.only_link.Given as goal

abbrev pub invariant-loop-i : goal.invariant-loop-i
invariant-loop-i l = option_to_list l.found ++ picked (number_from l.node) l.i (drop l.i l.links) ≡ picked (number_from l.node) 0 l.links
