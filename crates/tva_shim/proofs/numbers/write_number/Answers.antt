use Rattle.tva_shim.proofs.Common.{◌≡◌, ◌∙◌, ◌++◌, ℕ, List, ap, rules, take, number_bytes}
use Rattle.tva_shim.proofs.NumberBytes.{front_written}
use Rattle.tva_shim.proofs.numbers.write_number.Goals as goal

pub returns-clause-items : goal.returns-clause-items
returns-clause-items c =
    let size = c.rights_size-size.result in
    let put : c.try_extend_from_slice.new.self.items ≡ c.args.bytes.now.items ++ take size c.write_uint.new.buf = search rules in
    put
    ∙ ap (λ (xs : List ℕ). c.args.bytes.now.items ++ xs) (front_written c.args.version c.from.result size _ _ c.rights_size-size.ensures.bytes c.write_uint.ensures
    ∙ ap (number_bytes c.args.version) c.from.ensures)
