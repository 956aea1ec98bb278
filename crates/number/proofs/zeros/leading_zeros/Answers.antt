-- `leading_zeros` meets its contract: it is the machine's count.
use Rattle.std.proofs.Common.{arith}
use Rattle.number.specs.LeadingZeros.{zeros_counted}
use Rattle.number.proofs.zeros.leading_zeros.Goals as goal

pub returns : goal.returns
returns c = zeros_counted _ (omega arith)
