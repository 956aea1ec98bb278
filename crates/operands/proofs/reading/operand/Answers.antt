-- `operand` meets its contract: a full number as it is, and any other by its b2 and its low half.
use Rattle.std.proofs.Common.{ap₂, arith, mod-eq_of_lt, subst, sym, ◌∙◌}
use Rattle.number.specs.declared.Number.{Number}
use Rattle.number.specs.Number.{number}
use Rattle.number.specs.Operand.{Unpacked, operand}
use Rattle.number.proofs.OperandLaws.{full_operand, unpacks_short}
use Rattle.operands.proofs.reading.operand.Goals as goal

pub returns-then-b1-ne0 : goal.returns-then-b1-ne0
returns-then-b1-ne0 c =
    let b = c.b1_at-b1.result in
    let w = c.word_at-word.result in
    subst (λ (x : Number). Unpacked x (operand w w b)) (ap₂ number c.b1_at-b1.ensures c.word_at-word.ensures) (full_operand (number b w) (omega arith) c.if-b1-ne0.true)

pub returns : goal.returns
returns c =
    unpacks_short _ _ (sym c.b1_at-b1.ensures ∙ c.if-b1-ne0.false) (c.operand_of.ensures _ (sym c.b2_at.ensures ∙ sym (mod-eq_of_lt (omega arith))) (sym c.low_at.ensures))
