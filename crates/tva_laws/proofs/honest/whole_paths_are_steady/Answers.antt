use Rattle.tva_laws.proofs.Given.{given}
use Rattle.tva_laws.proofs.Wholly.{whole_steady}
use Rattle.tva_laws.proofs.honest.whole_paths_are_steady.Goals as goal

pub returns : goal.returns
returns c = λ config rows until logs valid trace run. whole_steady config rows until logs valid (given config rows until logs valid trace run) run
