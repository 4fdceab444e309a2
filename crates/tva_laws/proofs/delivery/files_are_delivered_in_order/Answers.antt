use Rattle.tva_laws.proofs.FilesKept.{keeps, rows_have}
use Rattle.tva_laws.proofs.delivery.files_are_delivered_in_order.Goals as goal

pub returns : goal.returns
returns c = λ config rows until logs valid traced run. keeps config rows until logs valid traced.files (rows_have config rows traced) run
