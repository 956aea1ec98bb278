-- `least` meets its contract: two cases of `closed`.
use Rattle.std.proofs.Common.{ap, arith, sym, ℕ, ◌∙◌}
use Rattle.std.specs.Prelude.{Some}
use Rattle.number.specs.Number.{number}
use Rattle.ending.specs.Ending.{loose}
use Rattle.ending.proofs.EndingLaws.{closed_below_zero, closed_smallest}
use Rattle.ending.proofs.closing.least.Goals as goal

pub returns-then-e-lt-BIAS : goal.returns-then-e-lt-BIAS
returns-then-e-lt-BIAS c t d = sym (closed_below_zero _ (loose t _ d) (omega arith))

pub returns : goal.returns
returns c t d = ap (λ (w : ℕ). Some (number 1 w)) c.full_word.ensures ∙ sym (closed_smallest _ (loose t _ d) (omega arith))
