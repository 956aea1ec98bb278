-- `carry_and_end` meets its contract: each `return` is a case law of `ended_sum`.
use Rattle.std.proofs.Common.{ap, arith, sym, ℕ, ◌+◌, ◌∙◌}
use Rattle.std.specs.Prelude.{Some}
use Rattle.number.specs.Number.{number}
use Rattle.addition.proofs.AdditionLaws.{sum_ended, sum_too_big, sum_stored}
use Rattle.addition.proofs.sum.carry_and_end.Goals as goal

pub returns : goal.returns
returns c =
    let e = c.args.e in
    ap (λ (w : ℕ). Some (number (e + 1) w)) c.full_word.ensures ∙ sym (sum_stored _ _ _ (omega arith) (omega arith) (omega arith) (omega arith))

pub returns-then-t-lt-CARRY : goal.returns-then-t-lt-CARRY
returns-then-t-lt-CARRY c = c.ending.ensures ∙ sym (sum_ended _ _ _ (omega arith) (omega arith))

pub returns-then-e-eq255 : goal.returns-then-e-eq255
returns-then-e-eq255 c = let a = c.args in sym (sum_too_big a.sign a.t a.e (omega arith) (omega arith) (omega arith))
