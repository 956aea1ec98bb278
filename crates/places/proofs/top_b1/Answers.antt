-- `top_b1` meets its contract: the first byte of the slot, where the stack has it.
use Rattle.std.proofs.Common.{ap, arith, sym, ℕ, ◌∙◌}
use Rattle.number.specs.declared.Number.{Number}
use Rattle.slots.specs.Slots.{number_in}
use Rattle.slots.specs.ReachLaws.{has, none_at, number_at_lem}
use Rattle.places.proofs.top_b1.Goals as goal

abbrev b1 : Number → ℕ
b1 n = n.b1

pub returns : goal.returns
unfolding number_in
returns c = sym (ap b1 (number_at_lem _ _ _ (sym c.lacks_top.ensures ∙ c.if-lacks_top.false)))

pub returns-then-lacks_top : goal.returns-then-lacks_top
returns-then-lacks_top c = sym (ap b1 (none_at _ _ _ (sym c.lacks_top.ensures ∙ c.if-lacks_top.true)))

pub overflow_sub-result : goal.overflow_sub-result
overflow_sub-result c = omega (arith, has _ _ _ (sym c.lacks_top.ensures ∙ c.if-lacks_top.false))

pub overflow_mul-result : goal.overflow_mul-result
overflow_mul-result c = omega (arith, has _ _ _ (sym c.lacks_top.ensures ∙ c.if-lacks_top.false))

pub bounds-stack-depth : goal.bounds-stack-depth
bounds-stack-depth c = omega (arith, has _ _ _ (sym c.lacks_top.ensures ∙ c.if-lacks_top.false))
