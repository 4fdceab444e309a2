use Rattle.std.proofs.Common.{rules}
use Rattle.tva_drr.proofs.Common.{option_copied}
use Rattle.tva_drr.proofs.Rows.{none_got}
use Rattle.tva_drr.proofs.row.RowSource.next_length.Goals as goal

pub returns-in-None-clause-none : goal.returns-in-None-clause-none
returns-in-None-clause-none g c = search (rules, none_got, option_copied, c.front.ensures, c.in-None.is)
