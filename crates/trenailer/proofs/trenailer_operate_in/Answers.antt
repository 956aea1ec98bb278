-- `trenailer_operate_in` meets its contract: the edition of that number, or none.
use Rattle.std.proofs.Common.{ap, sym, ℕ, ◌∙◌}
use Rattle.literals.specs.Operate.{outcome}
use Rattle.trenailer.proofs.Numbered.{operate_known, operate_none}
use Rattle.trenailer.proofs.trenailer_operate_in.Goals as goal

pub returns-in-Ok : goal.returns-in-Ok
returns-in-Ok c =
    operate_known _ _ _ _ _ c.in-Ok.ensures ∙ c.operate_in_place_in.ensures
    ∙ ap (λ (n : ℕ). (outcome n c.operate_in_place_in.new.depth, c.operate_in_place_in.new.stack)) (sym c.number.ensures)

pub returns-in-Err : goal.returns-in-Err
returns-in-Err c = operate_none _ _ _ _ c.in-Err.ensures
