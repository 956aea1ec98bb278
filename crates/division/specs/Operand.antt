-- An operand that does not count as zero is a full number once it is re-stacked.
use Rattle.std.specs.Prelude.{◌≡◌, ◌<◌}
use Rattle.std.proofs.Common.{arith}
use Rattle.number.specs.declared.Number.{Number}
use Rattle.number.specs.NumberLaws.{Bytes}
use Rattle.number.specs.Restack.{restacked, CountsAsZero}
use Rattle.number.proofs.RestackValueLaws.{restacked_bytes, restacked_zero}

pub record IsFull (x : Number) : Type 0 where
  pub bytes : Bytes x
  pub first : 0 < x.b1

pub restacked_full : (x : Number) → Bytes x → ¬ CountsAsZero x → IsFull (restacked x)
restacked_full x b n =
    let other : ¬ ((restacked x).b1 ≡ 0) = λ h. n (restacked_zero x b h) in
    record { bytes = restacked_bytes x b; first = omega arith }
