-- Literal 4's row of the table, and what is known of its two numbers once they are there. No public contract cites this file.
use Rattle.std.specs.Prelude.{ℕ, ◌+◌, ◌*◌, ◌^◌, ◌/◌, ◌%◌, ◌<◌, ◌≡◌, refl, Bool, true, false, ◌||◌, List, Option, Some, None, MatchOption, IfSome}
use Rattle.std.proofs.Common.{sym, ◌∙◌, ap, ap₂, arith, eq-eqb}
use Rattle.std.proofs.Math.Bool.{or_comm}
use Rattle.std.specs.Option.{option_map}
use Rattle.std.specs.Int.Bits.{bit_xor}
use Rattle.edition.specs.declared.Edition.TheVariants.{Shipped}
use Rattle.number.specs.declared.Number.{Number}
use Rattle.number.specs.Number.{number, sign, malformed, mantissa}
use Rattle.number.specs.NumberLaws.{Bytes}
use Rattle.number.specs.FormLaws.{malformed_full}
use Rattle.number.specs.declared.operand.Magnitude.{Magnitude}
use Rattle.number.specs.Operand.{Measured, Measures}
use Rattle.slots.specs.Reach.{lacking, number_at}
use Rattle.multiplication.specs.Multiplication.{both_short, product_of}
use Rattle.division.proofs.DivisionLaws.{signs_differ}
use Rattle.multiplication.specs.MultiplicationLaws.{both_zero}
use Rattle.multiplication.specs.Places.{product_at, full_by_full, full_by_short}
use Rattle.multiplication.specs.Commutes.{product_commutes}
use Rattle.multiplying.specs.declared.product.Factors.{Factors}
use Rattle.literals.specs.Literals.{two, row, row_of}
use Rattle.literals.specs.Operate.{outcome, operate_of}
use Rattle.literals.proofs.WayLaws.{two_malformed}

pub product_line : row_of 4 ≡ row 4 (two (λ ed. product_of)) 2 1
unfolding row_of
product_line = refl

-- the depth is as it was read, both numbers are there, and both are short, or not
pub record Pair (s : List ℕ) (d old : ℕ) (short : Bool) : Type 0 where
  pub same : d ≡ old
  pub there : lacking s old 2 ≡ false
  pub forms : both_short (number_at s old 1) (number_at s old 0) ≡ short

-- both go by their words then
pub by_words : (x y : Number) → both_short x y ≡ true → (number 0 x.word ≡ x) × (number 0 y.word ≡ y)
by_words x y h =
    let z = both_zero x y h in
    (ap (λ (b : ℕ). number b x.word) (sym z.0), ap (λ (b : ℕ). number b y.word) (sym z.1))

pub pair_malformed : (s : List ℕ) (d old : ℕ) (b : Bool) → Pair s d old b → malformed (number_at s old 1) || malformed (number_at s old 0) ≡ true → operate_of Shipped s d 4 ≡ (outcome 3 d, s)
pair_malformed s d old b p m =
    ap (λ (k : ℕ). operate_of Shipped s k 4) p.same
    ∙ two_malformed Shipped s old 4 (λ ed. product_of) product_line p.there m
    ∙ ap (λ (k : ℕ). (outcome 3 k, s)) (sym p.same)

-- ---- the factors, where one number is full

pub second_full : (x y : Number) → both_short x y ≡ false → x.b1 ≡ 0 → y.b1 ≡ 0 → ⊥
second_full x y h f g = let z : ◌≡◌ {A = ℕ} 0 1 = cc (simp (eq-eqb x.b1 0 f, eq-eqb y.b1 0 g) at h) in omega arith

-- what they are of two numbers: there are none where one is malformed
abbrev pub Factored : Number → Number → Option Factors → Type 0
Factored x y o =
    MatchOption o (malformed x || malformed y ≡ true)
    (λ f. (malformed x || malformed y ≡ false) × (product_at (f.sign / 2 ^ 31) ((f.m % 2 ^ 31 + 2 ^ 31) * f.n) f.e ≡ product_of x y))

abbrev pub factors_of : ℕ → ℕ → ℕ → ℕ → Factors
factors_of s m n e = record { sign = s; m = m; n = n; e = e }

pub factored_swapped : (x y : Number) (o : Option Factors) → Factored y x o → Factored x y o
factored_swapped x y None h = or_comm (malformed x) (malformed y) ∙ h
factored_swapped x y (Some f) h = (or_comm (malformed x) (malformed y) ∙ h.0, h.1 ∙ product_commutes y x)

module _ (x y : Number) (bx : Bytes x) (by : Bytes y) (f : x.b1 ≡ 0 → ⊥) where
  pub factored_full : (y.b1 ≡ 0 → ⊥) → Factored x y (Some (factors_of (bit_xor x.word y.word) x.word (mantissa y) (x.b1 + y.b1)))
  factored_full g = (
    simp (malformed_full x f, malformed_full y g),
    ap (λ (s : ℕ). product_at s (mantissa x * mantissa y) (x.b1 + y.b1)) (signs_differ x.word y.word (omega arith) (omega arith)) ∙ sym (full_by_full x y bx by f g),
  )

  pub factored_measured : y.b1 ≡ 0 → (m : Magnitude) → m.mask < 2 ^ 32 → Measured y m → Factored x y (Some (factors_of (bit_xor x.word m.mask) x.word m.v (x.b1 + 160)))
  factored_measured g m l h = (
    simp (malformed_full x f, h.form),
    ap₂ (λ (s v : ℕ). product_at s (mantissa x * v) (x.b1 + 160)) (signs_differ x.word m.mask (omega arith) l ∙ ap (λ (s : ℕ). (sign x + s) % 2) h.signs) h.away
        ∙ sym (full_by_short x y bx by f g),
  )

  pub factored_short : y.b1 ≡ 0 → (o : Option Magnitude) → IfSome o (λ m. m.mask < 2 ^ 32) → Measures y o
      → Factored x y (option_map (λ m. factors_of (bit_xor x.word m.mask) x.word m.v (x.b1 + 160)) o)
  factored_short g None l h = simp (malformed_full x f, h)
  factored_short g (Some m) l h = factored_measured g m l h
