-- Report 6 in addition, exactly: the sum is carried at exponent byte 255 (proofs/TooBigLaws).
use Rattle.std.specs.Prelude.{◌≡◌, ◌^◌, ◌≤◌, unsigned_abs}
use Rattle.number.specs.declared.Number.{Number}
use Rattle.number.specs.Restack.{restacked}
use Rattle.addition.specs.Addition.{larger, whole_sum}

-- "If the sum is 2^32 or more, or -2^32 or less, [..] e rises by one (256 is report 6)." Such an e is a full number's, so the two take the full route.
pub record SumTooBig (x y : Number) : Type 0 where
  pub exponent : larger (restacked x) (restacked y) ≡ 255
  pub carries : 2 ^ 32 ≤ unsigned_abs (whole_sum (restacked x) (restacked y))
