use Rattle.tva_laws.proofs.Fates.{refused}
use Rattle.tva_laws.proofs.promises.refused_is_not_regular.Goals as goal

pub returns : goal.returns
returns c plan h logs now from p fate onward cause is e regular = refused plan h logs now from p fate onward cause is e regular
