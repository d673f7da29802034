use Rattle.std.proofs.Common.{◌<◌, arith, length}
use Rattle.at_cmds.proofs.values_read.ShortNumbers.{below_eight}
use Rattle.at_cmds.proofs.values.hex_value_of.Goals as goal

pub overflow_mul-value : goal.overflow_mul-value
overflow_mul-value c =
    let room : c.loop-digit.value < 268435456 = below_eight c.loop-digit.digit-index (length c.args.digits.now) c.loop-digit.value c.loop-digit.invariant.1 (omega arith) (omega arith) in
    omega arith

pub overflow_add-value : goal.overflow_add-value
overflow_add-value c =
    let room : c.loop-digit.value < 268435456 = below_eight c.loop-digit.digit-index (length c.args.digits.now) c.loop-digit.value c.loop-digit.invariant.1 (omega arith) (omega arith) in
    omega arith
