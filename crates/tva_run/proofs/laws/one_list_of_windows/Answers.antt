use Rattle.tva_run.proofs.Windows.{windows_same}
use Rattle.tva_run.proofs.laws.one_list_of_windows.Goals as goal

pub returns : goal.returns
returns c = λ config rows logs from windows others a b. windows_same config rows logs from windows others a b
