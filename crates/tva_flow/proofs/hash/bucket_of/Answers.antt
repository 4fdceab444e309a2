use Rattle.tva_flow.proofs.Common.{rules, bucket_of}
use Rattle.tva_flow.proofs.hash.bucket_of.Goals as goal

pub returns-clause-value : goal.returns-clause-value
unfolding bucket_of
returns-clause-value c = search rules
