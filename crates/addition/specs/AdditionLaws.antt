-- Addition by sign and magnitude, which is how the code goes: the words of its laws (proofs/AdditionLaws).
use Rattle.std.specs.Prelude.{ℕ, ◌+◌, ◌-◌, ◌*◌, ◌/◌, ◌^◌, cond, ◌==◌, nat_lt}
use Rattle.number.specs.declared.Number.{Number}
use Rattle.number.specs.Number.{mantissa}

-- the magnitude of a mantissa moved k places, by its sign: twice it is moved k + 1 places, so that no place is a case of its own
abbrev pub shifted_by : ℕ → ℕ → ℕ → ℕ
shifted_by s m k = cond (nat_lt 32 k) 0 ((2 * m + 2 ^ k - s) / 2 ^ (k + 1))

-- the mantissa of a re-stacked number, 0 for a zero
abbrev pub magnitude_of : Number → ℕ
magnitude_of y = cond (y.b1 == 0) 0 (mantissa y)
