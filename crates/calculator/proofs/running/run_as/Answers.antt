-- `run_as` meets its contract: each turn does the next literal of the run, or stops at it.
use Rattle.std.proofs.Common.{ap, arith, eqb-true, length, ℕ, refl, sym, ◌<◌, ◌∙◌, ◌≡◌}
use borrow.Author.Tests.{eqb-false}
use Rattle.calculator.specs.Outcome.{run_outcome}
use Rattle.calculator.specs.RunLaws.{at_end, stops, goes_on, run_over, run_too_long, run_starts}
use Rattle.calculator.proofs.running.run_as.Goals as goal
use Rattle.calculator.proofs.running.run_as.Goals.{then-over_limits-via-then-over_limits, then-over_limits-via-else-over_limits+then-literals-gt-LITERALS_LIMIT}

pub returns-then-over_limits : goal.returns-then-over_limits
returns-then-over_limits g c =
    elim c.then-over_limits.branch [
      | then-over_limits-via-then-over_limits w ↦ run_over g.E.Rom.EDITION _ _ _ (sym c.over_limits.ensures ∙ w.if-over_limits.true)
      | then-over_limits-via-else-over_limits+then-literals-gt-LITERALS_LIMIT w ↦
          run_too_long g.E.Rom.EDITION _ _ _ (sym c.over_limits.ensures ∙ w.if-over_limits.false) w.if-literals-gt-LITERALS_LIMIT.true
    ]

pub loop-position-init : goal.loop-position-init
loop-position-init g c = (run_starts g.E.Rom.EDITION _ _ _ (sym c.over_limits.ensures ∙ c.if-over_limits.false) c.if-literals-gt-LITERALS_LIMIT.false, refl, omega arith)

pub returns-then-not-is_done : goal.returns-then-not-is_done
returns-then-not-is_done g c =
    let step = c.operate_as-report in
    let l = c.loop-position in
    let k : l.position < length c.args.literals.now = omega arith in
    sym l.invariant.0 ∙ stops g.E.Rom.EDITION _ _ _ _ k _ _ step.ensures (eqb-false _ _ (sym c.is_done.ensures ∙ c.if-not-is_done.true))

pub loop-position-preserved : goal.loop-position-preserved
loop-position-preserved g c =
    let step = c.operate_as-report in
    let l = c.loop-position in
    let k : l.position < length c.args.literals.now = omega arith in (
      sym (goes_on g.E.Rom.EDITION _ _ _ _ k _ _ step.ensures (eqb-true _ _ (sym c.is_done.ensures ∙ c.if-not-is_done.false))) ∙ l.invariant.0,
      step.auto.stack ∙ l.invariant.1,
      omega arith,
    )

pub returns-after-loop-position : goal.returns-after-loop-position
returns-after-loop-position g c =
    let l = c.loop-position in
    let e : l.position ≡ length c.args.literals.now = omega arith in
    sym l.invariant.0 ∙ at_end g.E.Rom.EDITION _ _ _ _ e ∙ ap (λ (n : ℕ). (run_outcome 0 n l.after, l.stack)) e
