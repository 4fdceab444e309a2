use Rattle.tva_laws.proofs.Given.{given}
use Rattle.tva_laws.proofs.Narrower.{narrow_steady}
use Rattle.tva_laws.proofs.honest.narrow_paths_are_steady.Goals as goal

pub returns : goal.returns
returns c = λ config rows until logs valid trace run. narrow_steady config rows until logs valid (given config rows until logs valid trace run) run
