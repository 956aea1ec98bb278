-- Document 01, "Addition and subtraction (003)", and document 02, A2, "The fifth byte of a short sum". Which edition it is decides how -65,536 is written alone.
use Rattle.std.specs.Prelude.{ℕ, ◌+◌, ◌-◌, ◌^◌, max, Bool, true, false, cond, ◌&&◌, ℤ, pos, negsuc, ◌+ℤ◌, neg_ℤ, ◌==◌, int_le, nat_le, nat_lt, unsigned_abs, Some, None}
use Rattle.std.specs.Int.Signed.{shr_z}
use Rattle.edition.specs.declared.Edition.{Edition}
use Rattle.edition.specs.declared.Edition.TheVariants.{Shipped, Mended}
use Rattle.number.specs.declared.Number.{Number}
use Rattle.number.specs.Number.{bytes, sign, mantissa, short_of, stored_over}
use Rattle.number.specs.Value.{signed, short_value}
use Rattle.number.specs.Restack.{restacked}
use Rattle.number.specs.Negate.{negated}
use Rattle.ending.specs.Ending.{ended, Answer}

-- The sign of a whole number, 1 for negative.
abbrev pub negative : ℤ → ℕ
negative (pos n) = 0
negative (negsuc n) = 1

-- ---- the short route

-- "A sum from -65,536 to 65,535"
abbrev pub stored_short : ℤ → Bool
stored_short z = int_le (neg_ℤ (pos 65536)) z && int_le z (pos 65535)

-- "The low halves are added as sixteen-bit numbers, the carry kept, and the sign bytes settle the seventeenth bit; odd stands for -65,536 here":
-- the sum of the two values. "so -65,536 comes out odd"
abbrev pub short_sum : Number → Number → ℤ
short_sum x y = short_value x +ℤ short_value y

abbrev pub short_of_whole : ℤ → Number
short_of_whole z = short_of (negative z) (unsigned_abs z)

-- -65,536 as a full number
abbrev pub minus65536 : Number
minus65536 = bytes 0x91 0x80 0 0 0

-- A sum z that is stored short, where x is the first number. A2: the listing "stores only the second, third and fourth bytes, so the first number's own b5
-- stays". A3: "a short sum of -65,536 is written 91 80 00 00 00".
abbrev pub written_short : Edition → Number → ℤ → Number
written_short Shipped x z = stored_over x (short_of_whole z)
written_short Mended x z = cond (int_le z (neg_ℤ (pos 65536))) minus65536 (stored_over x (short_of_whole z))

-- ---- the full route

-- "a zero has mantissa 0 and exponent byte 0. Give each mantissa its sign."
abbrev pub signed_mantissa : Number → ℤ
signed_mantissa y = cond (y.b1 == 0) (pos 0) (signed (sign y) (mantissa y))

-- "For s = 0 nothing moves; for s from 1 to 32 the one with the smaller exponent, x, becomes the floor of (x + 2^(s-1)) / 2^s; for s over 32 it
-- becomes 0." (`shr_z` divides by its second argument and rounds down.)
unfoldable pub aligned : ℕ → ℤ → ℤ
aligned s x = cond (s == 0) x (cond (nat_lt 32 s) (pos 0) (shr_z (x +ℤ pos (2 ^ (s - 1))) (2 ^ s)))

-- "Then the ending", with no rounding digits. The ending keeps e + 256.
abbrev pub ended_whole : ℤ → ℕ → Answer
ended_whole z e = ended (negative z) (unsigned_abs z) (e + 256) 0

-- "it becomes the floor of (sum + 1) / 2 and e rises by one (256 is report 6)"
abbrev pub carried : ℤ → ℕ → Answer
carried z e = cond (e + 1 == 256) None (ended_whole (shr_z (z +ℤ pos 1) 2) (e + 1))

-- "If the sum is 2^32 or more, or -2^32 or less, it [is carried]. Then the ending."
unfoldable pub ended_sum : ℤ → ℕ → Answer
ended_sum z e = cond (nat_le (2 ^ 32) (unsigned_abs z)) (carried z e) (ended_whole z e)

-- "Let e be the larger exponent byte and s the difference. ... Add." The number with the larger exponent byte has no difference.
abbrev pub signed_sum : ℤ → ℕ → ℤ → ℕ → Answer
signed_sum x e y f = ended_sum (aligned (max e f - e) x +ℤ aligned (max e f - f) y) (max e f)

abbrev pub larger : Number → Number → ℕ
larger x y = max x.b1 y.b1

abbrev pub whole_sum : Number → Number → ℤ
whole_sum x y = aligned (larger x y - x.b1) (signed_mantissa x) +ℤ aligned (larger x y - y.b1) (signed_mantissa y)

unfoldable pub aligned_sum : Number → Number → Answer
aligned_sum x y = ended_sum (whole_sum x y) (larger x y)

-- "Re-stack both"
unfoldable pub full_route : Number → Number → Answer
full_route x y = aligned_sum (restacked x) (restacked y)

-- "Short route, both b1 zero. ... A sum from -65,536 to 65,535 is stored short ... Otherwise, the full route."
unfoldable pub short_route : Edition → Number → Number → Answer
short_route ed x y = cond (stored_short (short_sum x y)) (Some (written_short ed x (short_sum x y))) (full_route x y)

unfoldable pub sum_of : Edition → Number → Number → Answer
sum_of ed x y = cond (x.b1 == 0) (cond (y.b1 == 0) (short_route ed x y) (full_route x y)) (full_route x y)

-- "Subtraction negates the second, then adds."
unfoldable pub difference_of : Edition → Number → Number → Answer
difference_of ed x y = sum_of ed x (negated y)

-- the second number as it is added, by whether it is subtracted
abbrev pub second_of : Bool → Number → Number
second_of true y = negated y
second_of false y = y
