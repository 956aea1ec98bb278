-- `doubled_digit` meets its contract: what is left after 33 rounds is the remainder, and the digit is 1 where twice that is the divisor or more.
use Rattle.std.proofs.Common.{ap₂, arith, sym, ℕ, ◌∙◌, ◌≡◌}
use Rattle.edition.specs.declared.Edition.TheVariants.{Mended}
use Rattle.division.specs.Rounds.{rounds33, digit34}
use Rattle.division.specs.RoundsLaws.{digit34_goes, digit34_stays}
use Rattle.division.proofs.DivisionLaws.{rounds33_mod}
use Rattle.division.proofs.quotient.doubled_digit.Goals as goal

of_words : {a b m n : ℕ} → a ≡ m → b ≡ n → digit34 Mended b (rounds33 a b) ≡ digit34 Mended n (rounds33 m n)
of_words e f = ap₂ (λ (a b : ℕ). digit34 Mended b (rounds33 a b)) e f

pub returns-then-left-by : goal.returns-then-left-by
returns-then-left-by c =
    let m = c.mantissa.result in
    let n = c.mantissa-by.result in
    let left = rounds33_mod m n (omega arith) in
    (sym (digit34_stays n (rounds33 m n) (omega (arith, c.if-left-by.true))) ∙ of_words c.mantissa.ensures c.mantissa-by.ensures, omega arith)

pub returns : goal.returns
returns c =
    let m = c.mantissa.result in
    let n = c.mantissa-by.result in
    let left = rounds33_mod m n (omega arith) in
    (sym (digit34_goes n (rounds33 m n) (omega (arith, c.if-left-by.false))) ∙ of_words c.mantissa.ensures c.mantissa-by.ensures, omega arith)
