use Rattle.tva_laws.proofs.LossPath.{steady}
use Rattle.tva_laws.proofs.walks.a_lost_packet_ends_no_path_of_lists.Goals as goal

pub returns : goal.returns
returns c = steady
