-- A2, the operations: of numbers that are the same but for b5 of a short or odd one, the form and the cell are the same, and so is what an operation
-- gives, but for b5 again. (Sums and int: ButB5Sums.)
use Rattle.std.specs.Prelude.{ℕ, ◌-◌, ◌≡◌, refl, ◌||◌, Some}
use Rattle.ending.specs.Ending.{Answer}
use Rattle.std.proofs.Common.{◌∙◌, inl, inr}
use Rattle.std.proofs.Math.Path.{ap, ap₂}
use Rattle.edition.specs.declared.Edition.{Edition}
use Rattle.edition.specs.declared.Edition.TheVariants.{Shipped, Mended}
use Rattle.number.specs.declared.Number.{Number}
use Rattle.number.specs.declared.form.Form.{Form}
use Rattle.number.specs.declared.form.Form.TheVariants.{Full, Short, Odd, Malformed}
use Rattle.number.specs.Number.{short_of, form_of, is_malformed, malformed, is_odd, odd, passes_zero_test}
use Rattle.number.specs.Restack.{restacked}
use Rattle.number.specs.Negate.{negated_as, negated}
use Rattle.value.specs.Double.{double_of_restacked, double_of}
use Rattle.division.specs.Division.{restacked_quotient, quotient_of}
use Rattle.multiplication.specs.Multiplication.{product_of}
use Rattle.truncation.specs.Truncate.{truncated}
use Rattle.truncation.specs.TruncateLaws.{truncate_not_full}
use Rattle.literals.specs.Reports.{malformed_in}
use Rattle.display.specs.declared.shown.Cell.TheVariants.{Value}
use Rattle.display.specs.Cell.{shown, number_shown}
use Rattle.demands.specs.Independence.{Answers, done, answers_same}
use Rattle.demands.specs.Alike.{choice}
use Rattle.demands.specs.ButB5.{ShortOrOdd, Like, SameParts, b1_zero, short_both, parts_same}

-- what an operation keeps, in either edition
abbrev pub KeepsOne : (Edition → Number → Answer) → Type 0
KeepsOne f = (ed : Edition) (x x' : Number) → Like x x' → Answers Like (f ed x) (f ed x')

abbrev pub KeepsTwo : (Edition → Number → Number → Answer) → Type 0
KeepsTwo f = (ed : Edition) (x x' y y' : Number) → Like x x' → Like y y' → Answers Like (f ed x y) (f ed x' y')

module _ (x x' : Number) (h : Like x x') where
  pub malformed_alike : (ed : Edition) → malformed_in ed x ≡ malformed_in ed x'
  unfolding malformed odd
  malformed_alike Shipped = ap is_malformed (parts_same x x' h).forms
  malformed_alike Mended = ap (λ (f : Form). is_malformed f || is_odd f) (parts_same x x' h).forms

  -- the cell's double goes by the re-stacked number
  pub shown_alike : number_shown x ≡ number_shown x'
  unfolding shown double_of
  shown_alike = ap (λ (f : Form). shown f x) (parts_same x x' h).forms ∙ go (form_of x')
    where
      values : Value (double_of x) ≡ Value (double_of x')
      values = ap (λ (y : Number). Value (double_of_restacked y)) (parts_same x x' h).restacks

      go : (f : Form) → shown f x ≡ shown f x'
      go Full = values
      go Short = values
      go Odd = refl
      go Malformed = refl

-- "A number that passes the zero test stays as it is; [..] odd becomes five zero bytes; other shorts change sign": by the sign and the magnitude.
pub negated_alike : (x x' : Number) → Like x x' → Like (negated x) (negated x')
unfolding negated
negated_alike x x' (inl e) = inl (ap negated e)
negated_alike x x' (inr b) =
    rw (← s.zero_tests, ← s.forms) (choice Like (passes_zero_test x) (λ e. inr b) (λ e. inl (changed b.form)))
  where
    s : SameParts x x'
    s = parts_same x x' (inr b)

    changed : ShortOrOdd x → negated_as (form_of x) x ≡ negated_as (form_of x) x'
    changed (inl e) = rw e (ap₂ (λ (g v : ℕ). short_of (1 - g) v) s.signs s.magnitudes)
    changed (inr e) = rw e

-- "Short and odd stay, b5 included."
pub truncated_alike : (ed : Edition) (x x' : Number) → Like x x' → Like (truncated ed x) (truncated ed x')
truncated_alike ed x x' (inl e) = inl (ap (truncated ed) e)
truncated_alike ed x x' (inr b) = rw (truncate_not_full ed x (b1_zero x b.form), truncate_not_full ed x' (b1_zero x' (short_both x x' b))) (inr b)

module _ (x x' y y' : Number) (h : Like x x') (k : Like y y') where
  s : SameParts x x'
  s = parts_same x x' h

  t : SameParts y y'
  t = parts_same y y' k

  pub quotient_same : (ed : Edition) → quotient_of ed x y ≡ quotient_of ed x' y'
  unfolding quotient_of
  quotient_same ed = ap₂ (restacked_quotient ed) s.restacks t.restacks

  pub product_same : product_of x y ≡ product_of x' y'
  unfolding product_of
  product_same = rw (s.restacks, t.restacks, s.magnitudes, t.magnitudes, s.signs, t.signs, s.exponents, t.exponents)

pub negation_keeps : KeepsOne (λ ed x. Some (negated x))
negation_keeps ed x x' h = done (negated_alike x x' h)

pub truncation_keeps : KeepsOne (λ ed x. Some (truncated ed x))
truncation_keeps ed x x' h = done (truncated_alike ed x x' h)

pub restacking_keeps : KeepsOne (λ ed x. Some (restacked x))
restacking_keeps ed x x' h = done (inl (parts_same x x' h).restacks)

pub division_keeps : KeepsTwo quotient_of
division_keeps ed x x' y y' h k = answers_same (λ n. inl refl) _ _ (quotient_same x x' y y' h k ed)

pub multiplication_keeps : KeepsTwo (λ ed. product_of)
multiplication_keeps ed x x' y y' h k = answers_same (λ n. inl refl) _ _ (product_same x x' y y' h k)
