use Rattle.tva_shim.proofs.Common.{refl, arith, two_bytes}
use Rattle.tva_shim.proofs.NumberBytes.{number_missing, number_read, two_bytes-is}
use Rattle.tva_shim.proofs.numbers.read_two.Goals as goal

pub returns-then-bytes-lt2 : goal.returns-then-bytes-lt2
returns-then-bytes-lt2 c = number_missing 2 _ two_bytes two_bytes-is _ c.if-bytes-lt2.true

pub returns : goal.returns
returns c =
    number_read 2 _ two_bytes two_bytes-is refl _ _ _ _ (λ i. omega (arith, c.type_inv.bytes i))
    c.if-bytes-lt2.false c.split_at.ensures.front c.split_at.ensures.back c.read_u16.ensures
