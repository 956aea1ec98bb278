-- Document 02, A1: what it asks to be shown of multiplication, and what the digits are, of literal 4's own report, depth and bytes on a stack.
use Rattle.std.specs.Prelude.{ℕ, ◌+◌, ◌-◌, ◌*◌, ◌≤◌, ◌<◌, ◌≡◌, refl, ◌↔◌, List, length, get_or}
use Rattle.std.proofs.Common.{sym, ◌∙◌, ap, arith}
use Rattle.std.proofs.Math.Path.{subst⁻¹}
use Rattle.edition.specs.declared.Edition.{Edition}
use Rattle.number.specs.declared.Number.{Number}
use Rattle.number.specs.Number.{mantissa}
use Rattle.number.specs.Restack.{restacked, CountsAsZero}
use Rattle.multiplication.specs.Multiplication.{sign_of_two, taken, product_of}
use Rattle.multiplication.specs.Rounding.{Overflows, Result, Products}
use Rattle.multiplication.specs.RoundingLaws.{products}
use Rattle.multiplication.specs.Commutes.{product_commutes}
use Rattle.slots.specs.Outcome.{Outcome}
use Rattle.slots.specs.Slots.{slot, number_in, bytes_of, lower, top}
use Rattle.literals.specs.Literals.{row_of, takes}
use Rattle.literals.specs.Operate.{operate_of}
use Rattle.demands.specs.Accepted.{Passed}
use Rattle.demands.specs.Bytes.{AreBytes, operand_bytes}
use Rattle.demands.specs.Demand2.{literals}
use Rattle.demands.specs.Independence.{Answers, answers_same}
use Rattle.demands.specs.Commutes.{commuted_outcome, commuted_bytes}
use Rattle.demands.specs.Answered.{answered}
use Rattle.demands.specs.Report6.{multiplication_6}

-- two well-formed operands of literal 4 that no report before 6 refuses, neither counting as zero: a malformed one is report 3, and in the mended edition an
-- odd one is
pub record Multiplies (ed : Edition) (s : List ℕ) (d : ℕ) : Type 0 where
  pub bytes : AreBytes s
  pub passed : Passed ed s d 4
  pub first : ¬ CountsAsZero (lower s d)
  pub second : ¬ CountsAsZero (top s d)

module _ (s : List ℕ) (d : ℕ) where
  -- "the re-stacked exponent bytes", and "the product of the mantissas"
  abbrev pub A : ℕ
  A = (restacked (lower s d)).b1

  abbrev pub B : ℕ
  B = (restacked (top s d)).b1

  abbrev pub P : ℕ
  P = mantissa (restacked (lower s d)) * mantissa (restacked (top s d))

module _ (ed : Edition) (s : List ℕ) (d : ℕ) where
  -- what literal 4 gives: report and depth, and the bytes of the stack
  abbrev pub multiplied : Outcome × List ℕ
  multiplied = operate_of ed s d 4

  pub record LeftProduct : Type 0 where
    pub report : multiplied.0.report ≡ 0
    pub depth : multiplied.0.depth ≡ d - 1
    pub result : Result (A s d) (B s d) (P s d) (sign_of_two (lower s d) (top s d)) (number_in multiplied.1 (d - 2))
    pub long : length multiplied.1 ≡ length s
    pub elsewhere : (k : ℕ) → (5 * (d - 2) ≤ k → k < 5 * (d - 2) + 5 → ⊥) → get_or multiplied.1 k 0 ≡ get_or s k 0

  -- E, before the rounding, is any natural number that makes A + B with 128 or 129; below 0 there is none.
  pub record ProductOnStack : Type 0 where
    -- "a pair overflows exactly when the re-stacked exponent bytes sum to more than 384, or to 384 with P at least 2^63 - 2^30"
    pub report6 : (multiplied.0.report ≡ 6) ↔ Overflows (A s d) (B s d) (P s d)
    pub left : (E : ℕ) → E + taken (P s d) ≡ A s d + B s d → 1 ≤ E → ¬ Overflows (A s d) (B s d) (P s d) → LeftProduct

module _ (ed : Edition) (s : List ℕ) (d : ℕ) (h : Multiplies ed s d) where
  clauses : Products (A s d) (B s d) (P s d) (sign_of_two (lower s d) (top s d)) (product_of (lower s d) (top s d))
  unfolding takes row_of
  clauses =
      products (lower s d) (top s d) (operand_bytes ed s d 4 2 h.bytes h.passed (omega arith) (omega arith))
      (operand_bytes ed s d 4 1 h.bytes h.passed (omega arith) (omega arith)) h.first h.second

  pub product_on_stack : ProductOnStack ed s d
  product_on_stack =
      let six = multiplication_6 ed s h.bytes d in
      record {
        report6 = ((λ r. (six.0 r).1.2), (λ o. six.1 (h.passed, (h.first, h.second, o))));
        left = λ E is one fit.
            let r = clauses.result E is one fit in
            let a = answered ed s d 4 (λ ed. product_of) literals.3 h.passed r.0 r.1 in
            record {
              report = a.report;
              depth = a.depth;
              result = subst⁻¹ (Result (A s d) (B s d) (P s d) (sign_of_two (lower s d) (top s d))) a.there r.2;
              long = a.long;
              elsewhere = a.elsewhere;
            };
      }

-- "Multiplication commutes", bytes and report: with the two operands in each other's place, the report, the depth and the result's five bytes are the same.
module _ (ed : Edition) (s s' : List ℕ) (d : ℕ) (long : length s ≡ length s') (first : lower s d ≡ top s' d) (second : top s d ≡ lower s' d) where
  commuting : (x y : Number) → Answers ◌≡◌ (product_of x y) (product_of y x)
  commuting x y = answers_same (λ n. refl) _ _ (product_commutes x y)

  pub commutes_outcome : (operate_of ed s d 4).0 ≡ (operate_of ed s' d 4).0
  commutes_outcome = commuted_outcome ed ◌≡◌ 4 (λ ed. product_of) literals.3 commuting s s' d long first second

  pub commutes_bytes : (operate_of ed s d 4).0.report ≡ 0 → slot (operate_of ed s d 4).1 (d - 2) ≡ slot (operate_of ed s' d 4).1 (d - 2)
  commutes_bytes r = let b = commuted_bytes ed ◌≡◌ 4 (λ ed. product_of) literals.3 commuting s s' d long first second r in b.2 ∙ ap bytes_of b.4 ∙ sym b.3
