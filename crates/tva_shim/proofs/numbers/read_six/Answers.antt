use Rattle.tva_shim.proofs.Common.{refl, arith, six_bytes}
use Rattle.tva_shim.proofs.NumberBytes.{number_missing, number_read, six_bytes-is}
use Rattle.tva_shim.proofs.numbers.read_six.Goals as goal

pub returns-then-bytes-lt6 : goal.returns-then-bytes-lt6
returns-then-bytes-lt6 c = number_missing 6 _ six_bytes six_bytes-is _ c.if-bytes-lt6.true

pub returns : goal.returns
returns c =
    number_read 6 _ six_bytes six_bytes-is refl _ _ _ _ (λ i. omega (arith, c.type_inv.bytes i))
    c.if-bytes-lt6.false c.split_at.ensures.front c.split_at.ensures.back c.read_u48.ensures
