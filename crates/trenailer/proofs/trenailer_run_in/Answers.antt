-- `trenailer_run_in` meets its contract: the edition of that number, or none.
use Rattle.std.proofs.Common.{ap, sym, ℕ, ◌∙◌}
use Rattle.calculator.specs.Outcome.{run_outcome}
use Rattle.trenailer.proofs.Numbered.{run_known, run_none}
use Rattle.trenailer.proofs.trenailer_run_in.Goals as goal

pub returns-in-Ok : goal.returns-in-Ok
returns-in-Ok c =
    run_known _ _ _ _ _ c.in-Ok.ensures ∙ c.run_in-ran.ensures
    ∙ ap (λ (n : ℕ). (run_outcome n c.run_in-ran.result.position c.run_in-ran.result.depth, c.run_in-ran.new.stack)) (sym c.number.ensures)

pub returns-in-Err : goal.returns-in-Err
returns-in-Err c = run_none _ _ _ _ c.in-Err.ensures
