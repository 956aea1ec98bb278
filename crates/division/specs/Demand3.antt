-- Demand 3 of either edition, over the rounds of `Rounds` and in whole numbers. M and N, here m and n, are the mantissas of the re-stacked dividend and divisor, and a
-- and b their exponent bytes.
use Rattle.std.specs.Prelude.{◌≡◌, cond, ◌↔◌, ◌⊎◌, ℕ, ◌+◌, ◌*◌, ◌^◌, ◌/◌, ◌≤◌, ◌<◌, ltb, Some, None}
use Rattle.ending.specs.Ending.{Answer}
use Rattle.edition.specs.declared.Edition.{Edition}
use Rattle.edition.specs.declared.Edition.TheVariants.{Shipped, Mended}
use Rattle.number.specs.declared.Number.{Number}
use Rattle.number.specs.Number.{mantissa}
use Rattle.number.specs.Restack.{restacked, CountsAsZero}
use Rattle.division.specs.Rounds.{Mantissas, rounds33}

-- Document 01: "Rounded to nearest, halves up, is the floor of the value plus one half." The value is v / n.
abbrev pub nearest : ℕ → ℕ → ℕ
nearest v n = (2 * v + n) / (2 * n)

module _ (m n : ℕ) where
  -- "plus 128 if M is below N, else plus 129"
  abbrev pub added : ℕ
  added = cond (ltb m n) 128 129

  -- "the exact one (M times 2^32 over N if M is below N, else M times 2^31 over N)", times N
  abbrev pub exact : ℕ
  exact = cond (ltb m n) (m * 2 ^ 32) (m * 2 ^ 31)

  -- "R is what is left after the 33rd round"
  abbrev pub R : ℕ
  R = (rounds33 m n).left

  -- "M is below N and 2R is at least N". A3: "Its demand 3 reads without the exception."
  abbrev pub Exception : Edition → Type 0
  Exception Shipped = (m < n) × (n ≤ 2 * R)
  Exception Mended = ⊥

  -- "the result's exponent byte is E and its mantissa is the exact one rounded to nearest, halves up, except exactly when [..]: there it is one lower"
  pub record Result (ed : Edition) (E : ℕ) (number : Number) : Type 0 where
    pub exponent : number.b1 ≡ E
    pub rounded : ¬ Exception ed → mantissa number ≡ nearest exact n
    pub one_lower : Exception ed → mantissa number + 1 ≡ nearest exact n

  pub record Digits : Type 0 where
    pub mantissas : Mantissas m n
    -- "The digits of the listing's 33 trial subtractions write the whole quotient of M times 2^32 by N, with a remainder R below N."
    pub quotient : (rounds33 m n).digits * n + R ≡ m * 2 ^ 32
    pub remainder : R < n

  -- E is any natural number with E + b = a + `added`; below 0 there is none.
  pub record Demand3 (ed : Edition) (a b : ℕ) (answer : Answer) : Type 0 where
    pub digits : Digits
    -- "Division gives report 6 exactly when E is above 255."
    pub report6 : (answer ≡ None) ↔ (255 + b < a + added)
    -- "When E is 1 to 255, [the result]"
    pub result : (E : ℕ) → E + b ≡ a + added → 1 ≤ E → E ≤ 255 → (number : Number) × (answer ≡ Some number) × Result ed E number

-- "number too big: division when the divisor counts as zero, or an exponent byte above 255": where neither counts as zero, E's
abbrev pub QuotientTooBig : Number → Number → Type 0
QuotientTooBig x y =
    CountsAsZero y
    ⊎ ((¬ CountsAsZero x) × (¬ CountsAsZero y) × (255 + (restacked y).b1 < (restacked x).b1 + added (mantissa (restacked x)) (mantissa (restacked y))))
