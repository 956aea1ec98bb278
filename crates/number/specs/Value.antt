-- What a number is worth, over whole numbers: document 01, "The bench and its numbers".
use Rattle.std.specs.Prelude.{ℕ, zero, suc, ◌+◌, ◌*◌, ◌^◌, ℤ, pos, ◌-ℤ◌, neg_ℤ}
use Rattle.number.specs.declared.Number.{Number}
use Rattle.number.specs.Number.{b3, b4, sign, mantissa}

-- m, or -m where the sign is 1
abbrev pub signed : ℕ → ℕ → ℤ
signed zero m = pos m
signed (suc s) m = neg_ℤ (pos m)

-- Short: "Value: 256 b4 + b3, less 65,536 if b2 is FF." b2 is 00 or FF, and its top bit, the sign, says which.
unfoldable pub short_value : Number → ℤ
short_value x = pos (256 * b4 x + b3 x) -ℤ pos (65536 * sign x)

-- Full: "Magnitude: mantissa times 2^(b1 - 160)", with its sign, and times 2^160 so that it is a whole number.
unfoldable pub full_value : Number → ℤ
full_value x = signed (sign x) (mantissa x * 2 ^ x.b1)
