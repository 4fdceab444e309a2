use Rattle.tva_shim.proofs.Common.{◌∙◌, ◌^◌, ℕ, sym, ap, arith, big_bytes, rights_size, number_bytes}
use Rattle.tva_shim.proofs.NumberBytes.{number_missing, number_read, number_bytes-is}
use Rattle.tva_shim.proofs.numbers.read_number.Goals as goal

pub returns-then-bytes-size : goal.returns-then-bytes-size
returns-then-bytes-size c =
    let same = c.rights_size-size.ensures.bytes in
    number_missing (rights_size c.args.version) _ (number_bytes c.args.version) (number_bytes-is c.args.version) _ (omega (arith, same))

pub returns : goal.returns
returns c =
    let same = c.rights_size-size.ensures.bytes in
    number_read c.rights_size-size.result (256 ^ rights_size c.args.version) (number_bytes c.args.version)
    (λ x. number_bytes-is c.args.version x ∙ ap (λ (k : ℕ). big_bytes k x) (sym same)) (ap (λ (k : ℕ). 256 ^ k) (sym same))
    _ _ _ _ (λ i. omega (arith, c.type_inv.bytes i)) (omega arith) c.split_at.ensures.front c.split_at.ensures.back c.read_uint.ensures
