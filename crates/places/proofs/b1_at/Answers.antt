-- `b1_at` meets its contract: the first byte of the slot, where the stack has it.
use Rattle.std.proofs.Common.{ap, arith, sym, ℕ, ◌∙◌}
use Rattle.number.specs.declared.Number.{Number}
use Rattle.slots.specs.Slots.{number_in}
use Rattle.slots.specs.ReachLaws.{has, none_at, number_at_lem}
use Rattle.places.proofs.b1_at.Goals as goal

abbrev b1 : Number → ℕ
b1 n = n.b1

pub returns : goal.returns
unfolding number_in
returns c = sym (ap b1 (number_at_lem _ _ _ (sym c.lacks.ensures ∙ c.if-lacks.false)))

pub returns-then-lacks : goal.returns-then-lacks
returns-then-lacks c = sym (ap b1 (none_at _ _ _ (sym c.lacks.ensures ∙ c.if-lacks.true)))

pub overflow_sub-result : goal.overflow_sub-result
overflow_sub-result c = omega (arith, has _ _ _ (sym c.lacks.ensures ∙ c.if-lacks.false))

pub overflow_mul-result : goal.overflow_mul-result
overflow_mul-result c = omega (arith, has _ _ _ (sym c.lacks.ensures ∙ c.if-lacks.false))

pub bounds-stack-depth : goal.bounds-stack-depth
bounds-stack-depth c = omega (arith, has _ _ _ (sym c.lacks.ensures ∙ c.if-lacks.false))
