-- `number_of` meets its contract: what follows so many steps gives the whole.
use Rattle.std.proofs.Common.{arith, refl, sym, ◌∙◌}
use Rattle.sheet.proofs.NumbersLaws.{number_done, number_short, number_digit, number_third, number_half, number_blank, number_other}
use Rattle.sheet.proofs.numbers.number_of.Goals.{in-Some+else-steps-eq2, in-None+else-steps-eq1+else-not-is_blank}
use Rattle.sheet.proofs.numbers.number_of.Goals as goal

pub returns-then-steps-eq2 : goal.returns-then-steps-eq2
returns-then-steps-eq2 c =
    let digit = c.in-Some.ensures in
    sym (number_third _ _ _ _ c.loop-c-test.true _ digit.1 (omega (arith, digit)) c.if-steps-eq2.true) ∙ c.loop-c.invariant.0

pub returns-then-steps-eq1 : goal.returns-then-steps-eq1
returns-then-steps-eq1 c =
    sym (number_half _ _ _ _ c.loop-c-test.true _ refl (omega (arith, c.in-None.ensures)) c.if-steps-eq1.true) ∙ c.loop-c.invariant.0

pub returns-then-not-is_blank : goal.returns-then-not-is_blank
returns-then-not-is_blank c =
    let other = sym c.is_blank.ensures ∙ c.if-not-is_blank.true in
    sym (number_other _ _ _ _ c.loop-c-test.true _ refl (omega (arith, c.in-None.ensures)) c.if-steps-eq1.false other) ∙ c.loop-c.invariant.0

pub loop-c-preserved : goal.loop-c-preserved
loop-c-preserved c =
    let l = c.loop-c in
    elim c.match-digit.branch [
      | in-Some+else-steps-eq2 w ↦
          let digit = w.in-Some.ensures in
          let next = number_digit _ _ _ _ c.loop-c-test.true _ digit.1 (omega (arith, digit)) w.if-steps-eq2.false in
          rw (w.steps-is, w.value-is) (sym next ∙ l.invariant.0, omega (arith, l.invariant.1), omega (arith, digit))
      | in-None+else-steps-eq1+else-not-is_blank w ↦
          let blank = sym w.is_blank.ensures ∙ w.if-not-is_blank.false in
          let next = number_blank _ _ _ _ c.loop-c-test.true _ refl (omega (arith, w.in-None.ensures)) w.if-steps-eq1.false blank in
          rw (w.steps-is, w.value-is) (sym next ∙ l.invariant.0, omega (arith, l.invariant.1, w.if-steps-eq1.false), l.invariant.2)
    ]

pub returns-then-steps-ne14 : goal.returns-then-steps-ne14
returns-then-steps-ne14 c = sym (number_short _ _ _ _ c.loop-c-test.false c.if-steps-ne14.true) ∙ c.loop-c.invariant.0

pub returns : goal.returns
returns c = sym (number_done _ _ _ _ c.loop-c-test.false c.if-steps-ne14.false) ∙ c.loop-c.invariant.0
