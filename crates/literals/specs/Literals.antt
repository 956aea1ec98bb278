-- Document 01, "Literals", and document 02, A1: the eleven literals, with what each does and how many numbers it takes and leaves.
use Rattle.std.specs.Prelude.{ℕ, cond, List, [], ◌∷◌, eqb, Some}
use Rattle.ending.specs.Ending.{Answer}
use Rattle.edition.specs.declared.Edition.{Edition}
use Rattle.number.specs.declared.Number.{Number}
use Rattle.number.specs.Restack.{restacked}
use Rattle.number.specs.Negate.{negated}
use Rattle.addition.specs.Addition.{sum_of, difference_of}
use Rattle.division.specs.Division.{quotient_of}
use Rattle.multiplication.specs.Multiplication.{product_of}
use Rattle.truncation.specs.Truncate.{truncated}
use Rattle.truncation.specs.Int.{int_of}

-- What a literal does, in an edition. `one` works on the top, `two` on the lower operand, which is the first, and the top. `unknown` is in no row.
pub data Operation : Type 0 where
  exchange : Operation
  delete : Operation
  duplicate : Operation
  one : (Edition → Number → Answer) → Operation
  two : (Edition → Number → Number → Answer) → Operation
  unknown : Operation

pub record Row : Type 0 where
  pub literal : ℕ
  pub operation : Operation
  pub takes : ℕ
  pub leaves : ℕ

abbrev pub row : ℕ → Operation → ℕ → ℕ → Row
row l o t n = record { literal = l; operation = o; takes = t; leaves = n }

-- Literal, operation, takes, leaves: one table for both editions
abbrev pub table : List Row
table =
    row 1 exchange 2 2
    ∷ row 2 delete 1 0
    ∷ row 3 (two difference_of) 2 1
    ∷ row 4 (two (λ ed. product_of)) 2 1
    ∷ row 5 (two quotient_of) 2 1
    ∷ row 15 (two sum_of) 2 1
    ∷ row 27 (one (λ ed x. Some (negated x))) 1 1
    ∷ row 39 (one int_of) 1 1
    ∷ row 49 duplicate 1 2
    ∷ row 58 (one (λ ed x. Some (truncated ed x))) 1 1
    ∷ row 61 (one (λ ed x. Some (restacked x))) 1 1
    ∷ []

-- the row of a literal; one that is not in the table does nothing
abbrev pub find : ℕ → List Row → Row
find l [] = row l unknown 0 0
find l (r ∷ rs) = cond (eqb l r.literal) r (find l rs)

unfoldable pub row_of : ℕ → Row
row_of l = find l table

unfoldable pub operation_of : ℕ → Operation
operation_of l = (row_of l).operation

unfoldable pub takes : ℕ → ℕ
takes l = (row_of l).takes

unfoldable pub leaves : ℕ → ℕ
leaves l = (row_of l).leaves
