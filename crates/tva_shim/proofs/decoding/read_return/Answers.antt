use Rattle.tva_shim.proofs.Wholes.{grant_missing, grant_read}
use Rattle.tva_shim.proofs.decoding.read_return.Goals as goal

pub returns-in_err-rights-in-2 : goal.returns-in_err-rights-in-2
returns-in_err-rights-in-2 c =
    rw c.from_residual-in_err-rights-in-2.ensures
    (grant_missing c.args.version c.args.returns c.if-not-returns.false c.in_ok-form.form c.in-2.is c.in_ok-form.ensures c.in_err-rights-in-2.ensures)

pub returns-in_ok-rights-in-2 : goal.returns-in_ok-rights-in-2
returns-in_ok-rights-in-2 c =
    grant_read c.args.version c.args.returns c.if-not-returns.false c.in_ok-form.form c.in-2.is c.in_ok-rights-in-2.rights c.in_ok-rights-in-2.caps
    c.in_ok-form.ensures c.in_ok-rights-in-2.ensures
