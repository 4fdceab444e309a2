use Rattle.tva_shim_text.proofs.OneText.{text_is_one, text_there}
use Rattle.tva_shim_text.proofs.laws.bytes_have_one_text.Goals as goal

pub returns : goal.returns
returns c = record { there = text_there; one = text_is_one }
