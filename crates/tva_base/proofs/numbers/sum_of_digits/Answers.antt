use Rattle.tva_base.proofs.Common.{arith}
use Rattle.tva_base.proofs.Digits.{number_in_more, number_in_room}
use Rattle.tva_base.proofs.numbers.sum_of_digits.Goals as goal

pub overflow_mul-number : goal.overflow_mul-number
overflow_mul-number c = let room = number_in_room c.args.text.now c.loop-byte.byte-index (omega arith) c.requires.digits c.requires.few in omega arith

pub overflow_add-number : goal.overflow_add-number
overflow_add-number c = let room = number_in_room c.args.text.now c.loop-byte.byte-index (omega arith) c.requires.digits c.requires.few in omega arith

pub loop-byte-preserved : goal.loop-byte-preserved
loop-byte-preserved c = rw (number_in_more c.args.text.now c.loop-byte.byte-index (omega arith)) (cc)
