-- `unknown` meets its contract: report 1 comes before report 5.
use Rattle.std.proofs.Common.{sym, ◌∙◌}
use Rattle.slots.specs.LimitLaws.{within_of}
use Rattle.literals.specs.ReportLaws.{report_5}
use Rattle.literals.specs.OperateLaws.{operate_over, operate_refused}
use Rattle.literals.proofs.missing.unknown.Goals as goal

pub returns-then-over_limits : goal.returns-then-over_limits
returns-then-over_limits c ed l h = operate_over ed _ _ l (sym c.over_limits.ensures ∙ c.if-over_limits.true)

pub returns : goal.returns
returns c ed l h = operate_refused ed _ _ l (report_5 ed _ _ l (within_of _ _ (sym c.over_limits.ensures ∙ c.if-over_limits.false)) h)
