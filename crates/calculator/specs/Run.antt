-- "A run checks report 1 once, even for an empty list, and refuses with nothing done and position 0. It then does the literals in turn
-- and stops at the first refused literal, with that report, the position (literals done before it), and bench and depth as those left
-- them. Report 0 has the list's length as position."
use Rattle.std.specs.Prelude.{ℕ, ◌+◌, List, [], ◌∷◌, cond, ◌||◌, eqb}
use Rattle.edition.specs.declared.Edition.{Edition}
use Rattle.calculator.specs.Outcome.{RunOutcome}
use Rattle.slots.specs.Reports.{over_limits}
use Rattle.literals.specs.Reports.{too_many_literals}
use Rattle.literals.specs.Operate.{operate_of}

-- the literals that are left, after i of them, on the stack s at depth d, each in the run's edition
unfoldable pub go_on : Edition → List ℕ → ℕ → List ℕ → ℕ → RunOutcome × List ℕ
go_on ed [] i s d = (record { report = 0; position = i; depth = d }, s)
go_on ed (l ∷ ls) i s d =
    let o = operate_of ed s d l in
    cond (eqb o.0.report 0)
    (go_on ed ls (i + 1) o.1 o.0.depth)
    (record { report = o.0.report; position = i; depth = d }, s)

unfoldable pub run_of : Edition → List ℕ → ℕ → List ℕ → RunOutcome × List ℕ
run_of ed s d ls =
    cond (over_limits s d || too_many_literals ls)
    (record { report = 1; position = 0; depth = d }, s)
    (go_on ed ls 0 s d)
