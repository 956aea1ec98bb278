-- Report 6, exactly: "number too big: division when the divisor counts as zero, or an exponent byte above 255", where no row before it holds.
use Rattle.std.specs.Prelude.{ℕ, refl, ◌↔◌, List, Some, None}
use Rattle.ending.specs.Ending.{Answer}
use Rattle.std.proofs.Math.Path.{◌≡◌, ap}
use Rattle.std.proofs.Common.{sym, ◌∙◌}
use native.Mathlib.Omega.{arith}
use Rattle.edition.specs.declared.Edition.{Edition}
use Rattle.number.specs.declared.Number.{Number}
use Rattle.number.specs.NumberLaws.{Bytes}
use Rattle.number.specs.Restack.{restacked}
use Rattle.number.specs.Negate.{negated}
use Rattle.addition.specs.Addition.{sum_of, difference_of}
use Rattle.addition.specs.TooBig.{SumTooBig}
use Rattle.addition.proofs.TooBigLaws.{sum_too_big, difference_too_big}
use Rattle.division.specs.Division.{quotient_of}
use Rattle.division.specs.Demand3.{QuotientTooBig}
use Rattle.division.proofs.Demand3Laws.{quotient_too_big}
use Rattle.multiplication.specs.Multiplication.{product_of}
use Rattle.multiplication.specs.Rounding.{ProductTooBig}
use Rattle.multiplication.specs.RoundingLaws.{product_too_big}
use Rattle.truncation.specs.Truncate.{truncated}
use Rattle.truncation.specs.StepLaws.{int_done}
use Rattle.slots.specs.Slots.{lower, top}
use Rattle.literals.specs.Literals.{one, two, operation_of}
use Rattle.literals.specs.Reports.{is_too_big, too_big}
use Rattle.literals.specs.Operate.{operate_of}
use Rattle.demands.specs.Accepted.{Passed, too_big_lem}
use Rattle.demands.specs.Counts.{takes_of, takes_are}
use Rattle.demands.specs.Bytes.{AreBytes, operand_bytes, is_too_big_lem}
use Rattle.demands.specs.Demand1.{operation_report}
use Rattle.demands.specs.Demand2.{literals}

module _ (ed : Edition) (s : List ℕ) (b : AreBytes s) (d : ℕ) where
  of_two : (l : ℕ) (f : Edition → Number → Number → Answer) (P : Number → Number → Type 0) → operation_of l ≡ two f
      → ((x y : Number) → Bytes x → Bytes y → (f ed x y ≡ None) ↔ P x y)
      → ((operate_of ed s d l).0.report ≡ 6) ↔ (Passed ed s d l × P (lower s d) (top s d))
  unfolding too_big is_too_big
  of_two l f P e t = (
    (λ r. let p = (too_big_lem ed s d l).0 (sym (operation_report ed s d l) ∙ r) in (p.0, (here p.0).0 (is_too_big_lem _ (simp e at p.1)))),
    (λ p. operation_report ed s d l ∙ (too_big_lem ed s d l).1 (p.0, simp e (ap is_too_big ((here p.0).1 p.1)))),
  )
    where
      here : Passed ed s d l → (f ed (lower s d) (top s d) ≡ None) ↔ P (lower s d) (top s d)
      here p =
          let k = takes_are l ∙ ap takes_of e in
          t (lower s d) (top s d) (operand_bytes ed s d l 2 b p (omega arith) (omega arith)) (operand_bytes ed s d l 1 b p (omega arith) (omega arith))

  of_one : (l : ℕ) (f : Edition → Number → Answer) → operation_of l ≡ one f → ((x : Number) → Bytes x → (n : Number) × (f ed x ≡ Some n)) → ¬ ((operate_of ed s d l).0.report ≡ 6)
  unfolding too_big
  of_one l f e t r =
      let p = (too_big_lem ed s d l).0 (sym (operation_report ed s d l) ∙ r) in
      let k = takes_are l ∙ ap takes_of e in
      let n = t (top s d) (operand_bytes ed s d l 1 b p.0 (omega arith) (omega arith)) in
      let o : ◌≡◌ {A = ℕ} 0 1 = cc (is_too_big_lem (f ed (top s d)) (simp e at p.1), n.1) in
      omega arith

  -- divide: the divisor counts as zero; or neither does, and E is above 255
  pub division_6 : ((operate_of ed s d 5).0.report ≡ 6) ↔ (Passed ed s d 5 × QuotientTooBig (lower s d) (top s d))
  division_6 = of_two 5 quotient_of QuotientTooBig literals.4 (quotient_too_big ed)

  -- multiply: neither counts as zero, and the exponent bytes and P are A1's
  pub multiplication_6 : ((operate_of ed s d 4).0.report ≡ 6) ↔ (Passed ed s d 4 × ProductTooBig (lower s d) (top s d))
  multiplication_6 = of_two 4 (λ ed. product_of) ProductTooBig literals.3 product_too_big

  -- add: the aligned sum is 2^32 or more, or -2^32 or less, at exponent byte 255
  pub addition_6 : ((operate_of ed s d 15).0.report ≡ 6) ↔ (Passed ed s d 15 × SumTooBig (lower s d) (top s d))
  addition_6 = of_two 15 sum_of SumTooBig literals.5 (λ x y bx by. sum_too_big ed x y bx.b1_below by.b1_below)

  -- subtract: so of the first and the negated second
  pub subtraction_6 : ((operate_of ed s d 3).0.report ≡ 6) ↔ (Passed ed s d 3 × SumTooBig (lower s d) (negated (top s d)))
  subtraction_6 = of_two 3 difference_of (λ x y. SumTooBig x (negated y)) literals.2 (λ x y bx by. difference_too_big ed x y bx.b1_below by.b1_below)

  -- negate, int, truncate and re-stack: never
  pub never_6 : ¬ ((operate_of ed s d 27).0.report ≡ 6)
      × ¬ ((operate_of ed s d 39).0.report ≡ 6)
      × ¬ ((operate_of ed s d 58).0.report ≡ 6)
      × ¬ ((operate_of ed s d 61).0.report ≡ 6)
  never_6 = (
    of_one 27 _ literals.6 (λ x c. (negated x, refl)),
    of_one 39 _ literals.7 (int_done ed),
    of_one 58 _ literals.9 (λ x c. (truncated ed x, refl)),
    of_one 61 _ literals.10 (λ x c. (restacked x, refl)),
  )
