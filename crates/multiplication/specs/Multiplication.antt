-- Document 02, A1: multiplication, literal 4.
use Rattle.std.specs.Prelude.{Bool, cond, ◌&&◌, ◌||◌, ℕ, ◌+◌, ◌*◌, ◌-◌, ◌^◌, ◌%◌, leb, eqb, Some}
use Rattle.number.specs.declared.Number.{Number}
use Rattle.number.specs.Number.{zeros, sign, mantissa, short_magnitude, short_of}
use Rattle.number.specs.Restack.{restacked}
use Rattle.ending.specs.Ending.{Loose, loose, closed, Answer}
use Rattle.division.specs.Demand3.{nearest}

-- "the product of the two magnitudes [..] (odd counts as zero)": `odd_none` is the law that odd's magnitude is 0.
abbrev pub short_product : Number → Number → ℕ
short_product x y = short_magnitude x * short_magnitude y

-- "Both b1 zero"
abbrev pub both_short : Number → Number → Bool
both_short x y = eqb x.b1 0 && eqb y.b1 0

-- "if the product of the two magnitudes is at most 65,535"
abbrev pub stays_short : Number → Number → Bool
stays_short x y = both_short x y && leb (short_product x y) 65535

-- "the answer is short with b5 = 0, and a zero product is five zero bytes"
abbrev pub short_stored : ℕ → ℕ → Number
short_stored s v = cond (eqb v 0) zeros (short_of s v)

-- "A nonzero answer is negative exactly when the signs differ."
abbrev pub sign_of_two : Number → Number → ℕ
sign_of_two x y = (sign x + sign y) % 2

module _ (p : ℕ) where
  -- "less 128 if P is at least 2^63, else less 129"
  abbrev pub taken : ℕ
  taken = cond (leb (2 ^ 63) p) 128 129

  -- "The mantissa is P over 2^32, or over 2^31 in the second case, rounded with halves up"
  abbrev pub product_mantissa : ℕ
  product_mantissa = cond (leb (2 ^ 63) p) (nearest p (2 ^ 32)) (nearest p (2 ^ 31))

-- "if that reaches 2^32 it becomes 2^31 and E rises by one". No rounding digit is left.
abbrev pub carried : ℕ → ℕ → Loose
carried m e = cond (eqb m (2 ^ 32)) (loose (2 ^ 31) (e + 1) 0) (loose m e 0)

-- "E of 0 or below before rounding ends as in 01; E above 255 after it is report 6." The ending's ways out say both. They keep an exponent as e + 256.
abbrev pub ended_product : ℕ → ℕ → ℕ → Answer
ended_product s m e = closed s (cond (leb e 256) (loose m e 0) (carried m e))

-- "let P be the product of the mantissas. E is the sum of the exponent bytes less [128 or 129]"
unfoldable pub full_product : Number → Number → Answer
full_product x y =
    ended_product (sign_of_two x y) (product_mantissa (mantissa x * mantissa y)) (x.b1 + y.b1 + 256 - taken (mantissa x * mantissa y))

-- "if either counts as zero the answer is five zero bytes": of re-stacked numbers the zero is the one whose exponent byte is 0.
unfoldable pub restacked_product : Number → Number → Answer
restacked_product x y = cond (eqb x.b1 0 || eqb y.b1 0) (Some zeros) (full_product x y)

-- "Otherwise re-stack both"
unfoldable pub product_of : Number → Number → Answer
product_of x y = cond (stays_short x y) (Some (short_stored (sign_of_two x y) (short_product x y))) (restacked_product (restacked x) (restacked y))
