-- What a re-stacked short number is made of; that it keeps the value stands in proofs/RestackValueLaws.
use Rattle.std.specs.Prelude.{◌≡◌, ℕ, ◌*◌, ◌^◌, ◌≤◌}
use Rattle.std.specs.Int.Count.{count_leading_zeros}
use Rattle.number.specs.declared.Number.{Number}
use Rattle.number.specs.Number.{sign, mantissa}

-- The full number that stands for v, 1 to 65,535: sign, mantissa, and mantissa times 2^b1 is v times 2^160.
pub record Stands (s v : ℕ) (y : Number) : Type 0 where
  pub signs : sign y ≡ s
  pub low_exponent : 129 ≤ y.b1
  pub worth : mantissa y * 2 ^ y.b1 ≡ v * 2 ^ 160
  pub exact : mantissa y ≡ v * 2 ^ count_leading_zeros 32 v
