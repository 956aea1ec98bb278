-- The two editions' sums beside each other: the mended one's is the shipped one's, with -65,536 as a full number where that is odd (proofs/MendedLaws).
use Rattle.std.specs.Prelude.{cond, Some, None}
use Rattle.ending.specs.Ending.{Answer}
use Rattle.number.specs.declared.Number.{Number}
use Rattle.number.specs.Number.{odd}
use Rattle.addition.specs.Addition.{minus65536}

-- what the mended edition has in the place of odd
abbrev pub mended : Number → Number
mended n = cond (odd n) minus65536 n

abbrev pub mended_answer : Answer → Answer
mended_answer (Some n) = Some (mended n)
mended_answer None = None
