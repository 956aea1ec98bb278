-- `divided` meets its contract: the second number has its parts too, or is malformed.
use Rattle.std.proofs.Common.{ap, ap₂, arith, mod-eq_of_lt, subst, sym, ℕ, ◌∙◌}
use Rattle.std.proofs.lemmas.Option.{MatchOption-at_none, MatchOption-at_some}
use Rattle.number.specs.declared.Number.{Number}
use Rattle.number.specs.Number.{number}
use Rattle.number.specs.Operand.{operand, Unpacked, Unpacks}
use Rattle.number.proofs.OperandLaws.{full_operand, unpacks_short}
use Rattle.division.specs.Division.{quotient_of}
use Rattle.slots.specs.Reach.{number_at}
use Rattle.literals.specs.Operate.{outcome, operate_of}
use Rattle.literals.proofs.WayLaws.{two_malformed}
use Rattle.odd.specs.EitherLaws.{formless}
use Rattle.dividing.specs.Quotient.{division_line}
use Rattle.dividing.proofs.quotient.divided.Goals as goal
use Rattle.dividing.proofs.quotient.divided.Goals.{After-operand_of}
use Rattle.dividing.proofs.quotient.divided.Given.{Over as Given}

-- a divisor that is not full
short : (g : Given) (c : After-operand_of g) → Unpacks (number_at c.args.stack.now c.args.old 0) c.operand_of.result
short g c = unpacks_short _ _ (sym c.b1_at-b1.ensures ∙ c.if-b1-ne0.false) (c.operand_of.ensures _ (sym c.b2_at.ensures ∙ sym (mod-eq_of_lt (omega arith))) (sym c.low_at.ensures))

pub returns-in_default : goal.returns-in_default
returns-in_default g c =
    let x = c.requires in
    let m = MatchOption-at_none _ _ c.in_default.is (short g (goal.at.returns-in_default g c).After-operand_of) in
    ap (λ (k : ℕ). operate_of g.E.Rom.EDITION c.args.stack.now k 5) x.same
    ∙ two_malformed g.E.Rom.EDITION _ _ _ quotient_of division_line x.there (formless _ _ 5 quotient_of division_line g.E.Rom.EDITION (simp (x.first.form, m)))
    ∙ ap (λ (k : ℕ). (outcome 3 k, c.args.stack.now)) (sym x.same)

pub quotient-requires : goal.quotient-requires
quotient-requires g c =
    let b = c.b1_at-b1.result in
    let w = c.word_at-word.result in
    (c.requires, subst (λ (x : Number). Unpacked x (operand w w b)) (ap₂ number c.b1_at-b1.ensures c.word_at-word.ensures) (full_operand (number b w) (omega arith) c.if-b1-ne0.true))

pub quotient-requires-2 : goal.quotient-requires-2
quotient-requires-2 g c = (c.requires, MatchOption-at_some _ _ _ c.in-Some.is (short g (goal.at.quotient-requires-2 g c).After-operand_of))
