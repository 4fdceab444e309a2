use Rattle.tva_run.proofs.Sites.{site_is}
use Rattle.tva_run.proofs.laws.sites_are_valid.Goals as goal

pub returns : goal.returns
returns c = λ config node site valid there. site_is config node site valid there
