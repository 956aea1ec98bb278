-- `decimal_in` meets its contract: the digits from here on give the whole.
use Rattle.std.proofs.Common.{rules, arith, refl, sym, ◌∙◌}
use Rattle.sheet.proofs.DecimalLaws.{decimal_empty, decimal_any, decimal_none, decimal_over, decimal_within, decimal_done}
use Rattle.sheet.proofs.decimal.decimal_in.Goals as goal

pub returns-then-is_empty-clause-value : goal.returns-then-is_empty-clause-value
returns-then-is_empty-clause-value c = sym (decimal_empty _ _ (search rules))

pub loop-c-init : goal.loop-c-init
loop-c-init c = (decimal_any _ _ (search rules), omega arith)

pub returns-in_err-value-clause-value : goal.returns-in_err-value-clause-value
returns-in_err-value-clause-value c =
    c.from_residual.ensures ∙ sym (decimal_none _ _ _ _ c.loop-c-test.true refl (omega (arith, c.in_err-value.ensures))) ∙ c.loop-c.invariant.0

pub returns-then-most-value-clause-value : goal.returns-then-most-value-clause-value
returns-then-most-value-clause-value c =
    let digit = c.in_ok-value.ensures in
    sym (decimal_over _ _ _ _ c.loop-c-test.true digit.1 (omega (arith, digit)) c.if-most-value.true) ∙ c.loop-c.invariant.0

pub loop-c-preserved : goal.loop-c-preserved
loop-c-preserved c =
    let digit = c.in_ok-value.ensures in
    (sym (decimal_within _ _ _ _ c.loop-c-test.true digit.1 (omega (arith, digit)) c.if-most-value.false) ∙ c.loop-c.invariant.0, c.if-most-value.false)

pub returns-clause-value : goal.returns-clause-value
returns-clause-value c = sym (decimal_done _ _ _ _ c.loop-c-test.false) ∙ c.loop-c.invariant.0
