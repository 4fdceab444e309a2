use Rattle.tva_caps.proofs.Common.{◌≤◌, arith}
use Rattle.tva_caps.proofs.Lasts.{ends, lasts}
use Rattle.tva_caps.proofs.laws.capability_lasts.Goals as goal

pub returns-clause-valid : goal.returns-clause-valid
returns-clause-valid c = λ k h. lasts _ _ _ _ k h (let few : c.args.rights.t ≤ 127 = c.requires.seconds in omega arith)

pub returns-clause-expired : goal.returns-clause-expired
returns-clause-expired c = λ k h f. ends _ _ _ _ k h f
