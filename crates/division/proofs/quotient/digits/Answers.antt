-- `digits` meets its contract by the quotient law at 33 rounds.
use Rattle.std.proofs.Common.{ap₂, arith, ℕ, ◌∙◌}
use Rattle.division.specs.Rounds.{rounds33}
use Rattle.division.proofs.DivisionLaws.{rounds33_div, rounds33_below}
use Rattle.division.proofs.quotient.digits.Goals as goal

pub returns : goal.returns
returns c =
    let m = c.mantissa.result in
    let n = c.mantissa-2.result in
    let is = rounds33_div m n (omega arith) in
    let below = rounds33_below m n (omega arith) in
    (is ∙ ap₂ (λ (a b : ℕ). (rounds33 a b).digits) c.mantissa.ensures c.mantissa-2.ensures, omega arith)
