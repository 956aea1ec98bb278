-- `b2_at` meets its contract: the second byte of the slot, where the stack has it.
use Rattle.std.proofs.Common.{ap, arith, sym, ◌∙◌}
use Rattle.number.specs.Number.{b2}
use Rattle.slots.specs.SlotLaws.{parts_in}
use Rattle.slots.specs.ReachLaws.{has, none_at, number_at_lem}
use Rattle.places.proofs.b2_at.Goals as goal

pub returns : goal.returns
returns c =
    sym (ap b2 (number_at_lem _ _ _ (sym c.lacks.ensures ∙ c.if-lacks.false)) ∙ (parts_in _ _ (λ k. omega (arith, c.shared_slice_known-1.given k))).0)

pub returns-then-lacks : goal.returns-then-lacks
returns-then-lacks c = sym (ap b2 (none_at _ _ _ (sym c.lacks.ensures ∙ c.if-lacks.true)))

pub overflow_sub-result : goal.overflow_sub-result
overflow_sub-result c = omega (arith, has _ _ _ (sym c.lacks.ensures ∙ c.if-lacks.false))

pub overflow_mul-result : goal.overflow_mul-result
overflow_mul-result c = omega (arith, has _ _ _ (sym c.lacks.ensures ∙ c.if-lacks.false))

pub overflow_add-result : goal.overflow_add-result
overflow_add-result c = omega (arith, has _ _ _ (sym c.lacks.ensures ∙ c.if-lacks.false))

pub bounds-stack-depth : goal.bounds-stack-depth
bounds-stack-depth c = omega (arith, has _ _ _ (sym c.lacks.ensures ∙ c.if-lacks.false))
