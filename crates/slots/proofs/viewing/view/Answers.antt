-- `view` meets its contract: within the limits the top's five bytes lie inside the slice.
use Rattle.std.proofs.Common.{arith, sym, ◌∙◌}
use native.Mathlib.Nat.{add-sub_cancel_left}
use Rattle.slots.specs.ReachLaws.{has}
use Rattle.slots.specs.ViewLaws.{view_empty, view_top}
use Rattle.slots.proofs.viewing.view.Goals as goal

pub returns-then-lacks : goal.returns-then-lacks
returns-then-lacks c = sym (view_empty _ _ (sym c.lacks.ensures ∙ c.if-lacks.true))

pub overflow_sub-start : goal.overflow_sub-start
overflow_sub-start c = omega (arith, has _ _ _ (sym c.lacks.ensures ∙ c.if-lacks.false))

pub overflow_mul-start : goal.overflow_mul-start
overflow_mul-start c = omega (arith, has _ _ _ (sym c.lacks.ensures ∙ c.if-lacks.false))

pub overflow_add-result : goal.overflow_add-result
overflow_add-result c = omega (arith, has _ _ _ (sym c.lacks.ensures ∙ c.if-lacks.false))

pub slice_bounds-result-end-2 : goal.slice_bounds-result-end-2
slice_bounds-result-end-2 c = omega (arith, has _ _ _ (sym c.lacks.ensures ∙ c.if-lacks.false))

pub returns : goal.returns
returns c = rw add-sub_cancel_left (sym (view_top _ _ (sym c.lacks.ensures ∙ c.if-lacks.false)))
