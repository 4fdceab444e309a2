use Rattle.tva_laws.proofs.Boots.{in_boot}
use Rattle.tva_laws.proofs.honest.paths_lie_in_a_boot.Goals as goal

pub returns : goal.returns
returns c = λ host router delay own seen charged x steady alone before sent packet after place shown.
    in_boot host router delay own seen charged x steady alone before sent packet after place shown
