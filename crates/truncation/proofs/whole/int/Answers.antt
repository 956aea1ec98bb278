-- `int` meets its contract: the tests that led to each `return` are the premises of a law of `int_of`.
use Rattle.std.proofs.Common.{ap, arith, eq-zero-or-pos, inl, inr, sym, ◌<◌, ◌∙◌, ◌≡◌, ◌≤◌, ◌⊎◌}
use Rattle.std.specs.Prelude.{Some}
use Rattle.edition.specs.declared.Edition.TheVariants.{Shipped}
use Rattle.number.specs.declared.Number.{Number}
use Rattle.number.specs.Number.{sign}
use Rattle.number.specs.NumberLaws.{Bytes}
use Rattle.truncation.specs.Int.{int_of}
use Rattle.truncation.specs.TruncateLaws.{truncate_full, truncate_not_full, truncate_whole, taken_not_145}
use Rattle.truncation.specs.IntLaws.{int_positive, int_short, int_odd}
use Rattle.truncation.specs.FloorLaws.{int_large}
use Rattle.truncation.proofs.whole.int.Goals as goal

-- all bits are whole
large : (x : Number) → Bytes x → 160 ≤ x.b1 → int_of Shipped x ≡ Some x
large x b h = go (eq-zero-or-pos (sign x))
  where
    go : (sign x ≡ 0) ⊎ (0 < sign x) → int_of Shipped x ≡ Some x
    go (inl z) =
        int_positive Shipped x z ∙ ap Some (truncate_full Shipped x (omega arith) ∙ truncate_whole Shipped x (omega arith) (taken_not_145 x Shipped (omega arith)) h)
    go (inr p) = int_large Shipped x b (omega (arith, b.word_below, p)) (omega arith) h

pub returns-then-word-lt-TOP_BIT : goal.returns-then-word-lt-TOP_BIT
returns-then-word-lt-TOP_BIT c = int_positive Shipped _ (omega arith) ∙ ap Some (truncate_not_full Shipped _ (omega arith))

pub returns-then-low_half-eq0 : goal.returns-then-low_half-eq0
returns-then-low_half-eq0 c = int_odd Shipped _ (omega arith) (omega arith) (omega arith) (sym c.low_half.ensures ∙ c.if-low_half-eq0.true)

pub returns-then-e-eq0 : goal.returns-then-e-eq0
returns-then-e-eq0 c = int_short Shipped _ (omega arith) (omega arith) (omega arith) (omega arith)

pub returns-then-word-lt-TOP_BIT-2 : goal.returns-then-word-lt-TOP_BIT-2
returns-then-word-lt-TOP_BIT-2 c = int_positive Shipped _ (omega arith) ∙ ap Some (sym c.truncate.ensures)

pub returns : goal.returns
returns c = large _ (omega arith) (omega arith)
