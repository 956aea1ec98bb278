-- The short route by the wrapped sum, its carry and the signs: the words of its laws (proofs/ShortRouteLaws).
use Rattle.std.specs.Prelude.{ℕ, ◌+◌, ◌%◌, ◌^◌, cond, nat_lt}
use Rattle.number.specs.declared.Number.{Number}
use Rattle.number.specs.Number.{sign, low}

-- a wrapped sum is below its first part exactly when it carried
abbrev pub carry_of : ℕ → ℕ → ℕ
carry_of sum first = cond (nat_lt sum first) 1 0

-- how many of the two are negative
abbrev pub negatives : Number → Number → ℕ
negatives x y = sign x + sign y

-- the low halves, added as sixteen-bit numbers
abbrev pub wrapped : Number → Number → ℕ
wrapped x y = (low x + low y) % 2 ^ 16
