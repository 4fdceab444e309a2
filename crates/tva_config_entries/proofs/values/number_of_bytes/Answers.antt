use Rattle.tva_config_entries.proofs.Common.{◌<◌, ◌^◌, arith}
use Rattle.tva_config_entries.proofs.Bytes.{five_bytes}
use Rattle.tva_config_entries.proofs.values.number_of_bytes.Goals as goal

pub overflow_mul-number : goal.overflow_mul-number
overflow_mul-number c =
    let few : c.loop-byte.byte-index < 6 = omega arith in
    let room : c.loop-byte.number < 2 ^ 40 = five_bytes c.loop-byte.byte-index c.loop-byte.number few c.loop-byte.invariant.room in
    omega arith
