-- `delete` meets its contract: it moves the depth and no byte.
use Rattle.std.proofs.Common.{arith, sym, ◌∙◌}
use Rattle.slots.specs.ReachLaws.{has}
use Rattle.literals.proofs.MoveLaws.{delete_lacking, delete_done}
use Rattle.moving.proofs.literal.delete.Goals as goal

pub returns-then-is_empty : goal.returns-then-is_empty
returns-then-is_empty g c ed = delete_lacking ed _ _ (sym c.is_empty.ensures ∙ c.if-is_empty.true) _ c.refusal.ensures

pub overflow_sub-depth : goal.overflow_sub-depth
overflow_sub-depth g c = omega (arith, has _ _ _ (sym c.is_empty.ensures ∙ c.if-is_empty.false))

pub returns : goal.returns
returns g c ed = delete_done ed _ _ (sym c.is_empty.ensures ∙ c.if-is_empty.false)
