use Rattle.tva_shim.proofs.Common.{refl, arith, eight_bytes}
use Rattle.tva_shim.proofs.NumberBytes.{number_missing, number_read, eight_bytes-is}
use Rattle.tva_shim.proofs.numbers.read_eight.Goals as goal

pub returns-then-bytes-lt8 : goal.returns-then-bytes-lt8
returns-then-bytes-lt8 c = number_missing 8 _ eight_bytes eight_bytes-is _ c.if-bytes-lt8.true

pub returns : goal.returns
returns c =
    number_read 8 _ eight_bytes eight_bytes-is refl _ _ _ _ (λ i. omega (arith, c.type_inv.bytes i))
    c.if-bytes-lt8.false c.split_at.ensures.front c.split_at.ensures.back c.read_u64.ensures
