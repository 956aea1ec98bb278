-- What A1 asks to be shown, and what the digits of a product are, in whole numbers. P, here p, is the product of the re-stacked mantissas, and a and b are
-- the re-stacked exponent bytes.
use Rattle.std.specs.Prelude.{◌≡◌, ◌↔◌, ◌⊎◌, ℕ, ◌+◌, ◌*◌, ◌-◌, ◌^◌, ◌≤◌, ◌<◌, Some, None}
use Rattle.ending.specs.Ending.{Answer}
use Rattle.number.specs.declared.Number.{Number}
use Rattle.number.specs.Number.{sign, mantissa}
use Rattle.number.specs.Restack.{restacked, CountsAsZero}
use Rattle.division.specs.Demand3.{nearest}
use Rattle.multiplication.specs.Multiplication.{taken}

-- "a pair overflows exactly when the re-stacked exponent bytes sum to more than 384, or to 384 with P at least 2^63 - 2^30"
abbrev pub Overflows : ℕ → ℕ → ℕ → Type 0
Overflows a b p = (384 < a + b) ⊎ ((a + b ≡ 384) × (2 ^ 63 - 2 ^ 30 ≤ p))

-- so of two numbers, neither counting as zero
abbrev pub ProductTooBig : Number → Number → Type 0
ProductTooBig x y =
    (¬ CountsAsZero x) × (¬ CountsAsZero y) × Overflows (restacked x).b1 (restacked y).b1 (mantissa (restacked x) * mantissa (restacked y))

-- The mantissa is P over 2^32 or over 2^31, as the exponent byte that is stored says, rounded to nearest with halves up. A quotient has an exception to this;
-- a product has none: it always rounds right.
abbrev pub Rounded : ℕ → ℕ → ℕ → Number → Type 0
Rounded a b p number =
    ((number.b1 + 128 ≡ a + b) × (mantissa number ≡ nearest p (2 ^ 32)))
    ⊎ ((number.b1 + 129 ≡ a + b) × (mantissa number ≡ nearest p (2 ^ 31)))

-- "A nonzero answer is negative exactly when the signs differ": s is 1 then, else 0. A number that is stored short is re-stacked to be looked at.
pub record Result (a b p s : ℕ) (number : Number) : Type 0 where
  pub rounded : Rounded a b p (restacked number)
  pub signs : sign number ≡ s

-- E, before the rounding, is any natural number that makes a + b with 128 or 129; below 0 there is none.
pub record Products (a b p s : ℕ) (answer : Answer) : Type 0 where
  pub report6 : (answer ≡ None) ↔ Overflows a b p
  pub result : (E : ℕ) → E + taken p ≡ a + b → 1 ≤ E → ¬ Overflows a b p → (number : Number) × (answer ≡ Some number) × Result a b p s number
