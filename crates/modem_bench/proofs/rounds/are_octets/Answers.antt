-- Each is in its type's range.
use Rattle.std.proofs.Common.{arith}
use Rattle.modem_bench.proofs.rounds.are_octets.Goals as goal

pub returns : goal.returns
returns c = λ i. let h = c.type_inv.octets i in omega (arith, h)
