-- `trenailer_leading_zeros` meets its contract: 32 at most fits a byte.
use Rattle.std.proofs.Common.{arith}
use Rattle.number.specs.LeadingZeros.{zeros_most}
use Rattle.trenailer.proofs.trenailer_leading_zeros.Goals as goal

pub overflow_cast-result : goal.overflow_cast-result
overflow_cast-result c = omega (arith, zeros_most _ _ (omega arith) c.leading_zeros.ensures)
