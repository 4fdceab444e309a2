use Rattle.tva_shim.proofs.Reading.{none_some, one_some}
use Rattle.tva_shim.proofs.RightsRead.{rights_missing, rights_none, rights_read}
use Rattle.tva_shim.proofs.decoding.read_rights.Goals as goal

pub returns-in_err-number : goal.returns-in_err-number
returns-in_err-number c = rw c.from_residual.ensures (rights_missing c.args.version c.in_err-number.ensures)

pub returns-in_err-rights : goal.returns-in_err-rights
returns-in_err-rights c =
    rw c.from_residual-in_err-rights.ensures
    (rights_none c.args.version c.in_ok-number.number c.in_ok-number.ensures (λ rights are is. none_some (c.in_err-rights.ensures.only rights are is)))

pub returns : goal.returns
returns c =
    rights_read c.args.version c.in_ok-number.number c.in_ok-rights.rights c.in_ok-number.ensures c.in_ok-rights.ensures.found.0 c.in_ok-rights.ensures.found.1
    (λ other are is. one_some (c.in_ok-rights.ensures.only other are is))
