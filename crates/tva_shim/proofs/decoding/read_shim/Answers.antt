use Rattle.tva_shim.proofs.Reading.{front_missing, back_missing, both_read, other_missing, other_read}
use Rattle.tva_shim.proofs.Wholes.{shim_of, shim_there, shim_back}
use Rattle.tva_shim.proofs.decoding.read_shim.Goals as goal

pub returns-in_err-first : goal.returns-in_err-first
returns-in_err-first c = rw c.from_residual.ensures (other_missing shim_of shim_there shim_back (front_missing _ c.in_err-first.ensures))

pub returns-in_err-protocol : goal.returns-in_err-protocol
returns-in_err-protocol c =
    rw c.from_residual-in_err-protocol.ensures (other_missing shim_of shim_there shim_back
    (back_missing _ c.in_ok-first.ensures (front_missing _ c.in_err-protocol.ensures)))

pub returns-in_err-kind : goal.returns-in_err-kind
returns-in_err-kind c =
    rw c.from_residual-in_err-kind.ensures (other_missing shim_of shim_there shim_back
    (back_missing _ c.in_ok-first.ensures (back_missing _ c.in_ok-protocol.ensures (front_missing _ c.in_err-kind.ensures))))

pub returns-in_err-back : goal.returns-in_err-back
returns-in_err-back c =
    rw c.from_residual-in_err-back.ensures (other_missing shim_of shim_there shim_back
    (back_missing _ c.in_ok-first.ensures (back_missing _ c.in_ok-protocol.ensures (back_missing _ c.in_ok-kind.ensures c.in_err-back.ensures))))

pub returns : goal.returns
returns c =
    other_read shim_of shim_there shim_back
    (both_read _ c.in_ok-first.ensures (both_read _ c.in_ok-protocol.ensures (both_read _ c.in_ok-kind.ensures c.in_ok-back.ensures)))
