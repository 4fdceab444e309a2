use Rattle.tva_run.proofs.Sites.{link_out_is, sent_arrives}
use Rattle.tva_run.proofs.laws.sendings_arrive.Goals as goal

pub returns : goal.returns
returns c = λ config number link site log here there. sent_arrives number link site (link_out_is config number link site here there) log
