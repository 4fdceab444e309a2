use Rattle.tva_shim.proofs.Reading.{back_missing, both_read, other_missing, other_read}
use Rattle.tva_shim.proofs.Wholes.{shown_of, shown_there, shown_back}
use Rattle.tva_shim.proofs.decoding.read_shown.Goals as goal

pub returns-in_err-caps : goal.returns-in_err-caps
returns-in_err-caps c =
    rw c.from_residual-in_err-caps.ensures (other_missing shown_of (shown_there c.args.version) (shown_back c.args.version)
    (back_missing _ c.in_ok-nonce.ensures (back_missing _ c.in_ok-count.ensures (back_missing _ c.in_ok-pointer.ensures
    (back_missing _ c.in_ok-rights.ensures c.in_err-caps.ensures)))))

pub returns : goal.returns
returns c =
    other_read shown_of (shown_there c.args.version) (shown_back c.args.version)
    (both_read _ c.in_ok-nonce.ensures (both_read _ c.in_ok-count.ensures (both_read _ c.in_ok-pointer.ensures
    (both_read _ c.in_ok-rights.ensures c.in_ok-caps.ensures))))
