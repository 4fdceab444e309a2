use Rattle.tva_config.proofs.ReadValid.{answer_valid}
use Rattle.tva_config.proofs.reading.read_config.Goals as goal

pub returns-clause-valid : goal.returns-clause-valid
returns-clause-valid c = answer_valid c.args.text.now c.read_text.result c.read_text.ensures
