-- Demand 3 of either edition, of literal 5's own report, depth and bytes on a stack. What its digits write, and what the result is, are the records of crate
-- division, where the exception is the shipped edition's alone.
use Rattle.std.specs.Prelude.{ℕ, ◌+◌, ◌-◌, ◌*◌, ◌≤◌, ◌<◌, ◌≡◌, ◌↔◌, List, length, get_or, Some}
use Rattle.std.proofs.Common.{sym, ◌∙◌, arith}
use Rattle.std.proofs.Math.Path.{ap, subst⁻¹}
use Rattle.edition.specs.declared.Edition.{Edition}
use Rattle.edition.specs.declared.Edition.TheVariants.{Mended}
use Rattle.number.specs.declared.Number.{Number}
use Rattle.number.specs.Number.{mantissa}
use Rattle.number.specs.Restack.{restacked, CountsAsZero}
use Rattle.division.specs.Division.{quotient_of}
use Rattle.division.specs.Demand3.{nearest, added, exact, Digits, Result, Demand3}
use Rattle.division.proofs.Demand3Laws.{demand3}
use Rattle.slots.specs.Outcome.{Outcome}
use Rattle.slots.specs.Slots.{number_in, lower, top}
use Rattle.literals.specs.Literals.{row_of, operation_of, takes}
use Rattle.literals.specs.Reports.{is_too_big, too_big}
use Rattle.literals.specs.Operate.{operate_of}
use Rattle.demands.specs.Accepted.{Passed, too_big_lem}
use Rattle.demands.specs.Bytes.{AreBytes, operand_bytes, is_too_big_lem}
use Rattle.demands.specs.Demand1.{operation_report}
use Rattle.demands.specs.Demand2.{literals}
use Rattle.demands.specs.Answered.{answered}

-- "any two well-formed operands of a division that no report before 6 refuses, neither counting as zero": a malformed one is report 3, and in the
-- mended edition an odd one is
pub record Divides (ed : Edition) (s : List ℕ) (d : ℕ) : Type 0 where
  pub bytes : AreBytes s
  pub passed : Passed ed s d 5
  pub dividend : ¬ CountsAsZero (lower s d)
  pub divisor : ¬ CountsAsZero (top s d)

module _ (s : List ℕ) (d : ℕ) where
  -- "Re-stacked, they have mantissas M and N"
  abbrev pub M : ℕ
  M = mantissa (restacked (lower s d))

  abbrev pub N : ℕ
  N = mantissa (restacked (top s d))

module _ (ed : Edition) (s : List ℕ) (d : ℕ) where
  -- what literal 5 gives: report and depth, and the bytes of the stack
  abbrev pub divided : Outcome × List ℕ
  divided = operate_of ed s d 5

  -- "The result is the number left in the dividend's slot."
  pub record Left (E : ℕ) : Type 0 where
    pub report : divided.0.report ≡ 0
    pub depth : divided.0.depth ≡ d - 1
    pub result : Result (M s d) (N s d) ed E (number_in divided.1 (d - 2))
    pub long : length divided.1 ≡ length s
    pub elsewhere : (k : ℕ) → (5 * (d - 2) ≤ k → k < 5 * (d - 2) + 5 → ⊥) → get_or divided.1 k 0 ≡ get_or s k 0

  -- E is any natural number with E and the divisor's re-stacked exponent byte the dividend's and `added`; below 0 there is none.
  pub record OnStack : Type 0 where
    pub digits : Digits (M s d) (N s d)
    -- "Division gives report 6 exactly when E is above 255."
    pub report6 : (divided.0.report ≡ 6) ↔ (255 + (restacked (top s d)).b1 < (restacked (lower s d)).b1 + added (M s d) (N s d))
    -- "When E is 1 to 255, [the result]"
    pub left : (E : ℕ) → E + (restacked (top s d)).b1 ≡ (restacked (lower s d)).b1 + added (M s d) (N s d) → 1 ≤ E → E ≤ 255 → Left E

module _ (ed : Edition) (s : List ℕ) (d : ℕ) (h : Divides ed s d) where
  clauses : Demand3 (M s d) (N s d) ed (restacked (lower s d)).b1 (restacked (top s d)).b1 (quotient_of ed (lower s d) (top s d))
  unfolding takes row_of
  clauses =
      demand3 ed (lower s d) (top s d) (operand_bytes ed s d 5 2 h.bytes h.passed (omega arith) (omega arith))
      (operand_bytes ed s d 5 1 h.bytes h.passed (omega arith) (omega arith)) h.dividend h.divisor

  is_left : (E : ℕ) (n : Number) → quotient_of ed (lower s d) (top s d) ≡ Some n → Result (M s d) (N s d) ed E n → Left ed s d E
  is_left E n e r =
      let a = answered ed s d 5 quotient_of literals.4 h.passed n e in
      record {
        report = a.report;
        depth = a.depth;
        result = subst⁻¹ (Result (M s d) (N s d) ed E) a.there r;
        long = a.long;
        elsewhere = a.elsewhere;
      }

  -- Demand 3: every clause of it, of what literal 5 gives.
  pub division_on_stack : OnStack ed s d
  unfolding operation_of row_of too_big is_too_big
  division_on_stack =
      record {
        digits = clauses.digits;
        report6 = (
          (λ r. clauses.report6.0 (is_too_big_lem _ ((too_big_lem ed s d 5).0 (sym (operation_report ed s d 5) ∙ r)).1)),
          (λ e. operation_report ed s d 5 ∙ (too_big_lem ed s d 5).1 (h.passed, ap is_too_big (clauses.report6.1 e))),
        );
        left = λ E is one most. let r = clauses.result E is one most in is_left E r.0 r.1 r.2;
      }

-- A3, of the mended edition: "Its demand 3 reads without the exception: always nearest, halves up." When E is 1 to 255, literal 5 is done, the result's exponent
-- byte is E, and its mantissa is the exact one, M times 2^32 (or 2^31) over N, rounded to nearest.
module _ (s : List ℕ) (d : ℕ) (h : Divides Mended s d) where
  abbrev pub mended_quotient : Number
  mended_quotient = number_in (operate_of Mended s d 5).1 (d - 2)

  pub always_nearest : (E : ℕ) → E + (restacked (top s d)).b1 ≡ (restacked (lower s d)).b1 + added (M s d) (N s d) → 1 ≤ E → E ≤ 255
      → ((operate_of Mended s d 5).0.report ≡ 0) × (mended_quotient.b1 ≡ E) × (mantissa mended_quotient ≡ nearest (exact (M s d) (N s d)) (N s d))
  always_nearest E is one most =
      let l = (division_on_stack Mended s d h).left E is one most in
      (l.report, l.result.exponent, l.result.rounded (λ exception. exception))
