use Rattle.tva_trace.proofs.OneList.{no_others}
use Rattle.tva_trace.proofs.RowsValid.{answered_valid}
use Rattle.tva_trace.proofs.read.read_packed.Goals as goal

pub returns-in-Ok-clause-only : goal.returns-in-Ok-clause-only
returns-in-Ok-clause-only c = no_others c.args.config.now c.args.text.now c.read_rows.result c.read_rows.ensures

pub returns-in-Ok-clause-valid : goal.returns-in-Ok-clause-valid
returns-in-Ok-clause-valid c = answered_valid c.args.config.now c.args.text.now c.read_rows.result c.read_rows.ensures
