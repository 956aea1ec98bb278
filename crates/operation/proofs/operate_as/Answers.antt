-- `operate_as` meets its contract: each arm does the literal of its row.
use Rattle.std.proofs.Common.{ap, refl, ◌∙◌}
use Rattle.literals.specs.Literals.{row_of, operation_of}
use Rattle.literals.specs.Reports.{not_in_table}
use Rattle.literals.specs.Operate.{operate_of}
use Rattle.literals.specs.OperateLaws.{in_no_row}
use Rattle.operation.proofs.operate_as.Goals as goal

pub returns-in_default : goal.returns-in_default
returns-in_default g c =
    let r = c.in_default.in_default-own.rest in
    c.unknown-in_default.ensures _ _
    (in_no_row _ r.0.0.0.0.0.0.0.0.0.0.1 r.0.0.0.0.0.0.0.0.0.1 r.0.0.0.0.0.0.0.0.1 r.0.0.0.0.0.0.0.1 r.0.0.0.0.0.0.1 r.0.0.0.0.0.1 r.0.0.0.0.1 r.0.0.0.1 r.0.0.1 r.0.1 r.1)

pub returns-in-0 : goal.returns-in-0
unfolding not_in_table operation_of row_of
returns-in-0 g c = ap (operate_of _ _ _) c.in-0.is ∙ c.unknown.ensures _ _ refl
