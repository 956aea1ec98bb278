-- `low_at` meets its contract: the third and fourth byte of the slot, where the stack has it.
use Rattle.std.proofs.Common.{ap, arith, false, sym, ◌+◌, ◌∙◌, ◌≡◌}
use Rattle.number.specs.Number.{low}
use Rattle.slots.specs.SlotLaws.{parts_in}
use Rattle.slots.specs.Reach.{lacking}
use Rattle.slots.specs.ReachLaws.{has, none_at, number_at_lem}
use Rattle.places.proofs.low_at.Goals as goal
use Rattle.places.proofs.low_at.Goals.{Else-lacks}

there : (c : Else-lacks) → lacking c.args.stack.now c.args.depth (c.args.above + 1) ≡ false
there c = sym c.lacks.ensures ∙ c.if-lacks.false

pub returns : goal.returns
returns c =
    c.half.ensures ∙ sym (ap low (number_at_lem _ _ _ (there (goal.at.returns c).Else-lacks)) ∙ (parts_in _ _ (λ k. omega (arith, c.shared_slice_known-1.given k))).1)

pub returns-then-lacks : goal.returns-then-lacks
returns-then-lacks c = sym (ap low (none_at _ _ _ (sym c.lacks.ensures ∙ c.if-lacks.true)))

pub overflow_sub-at : goal.overflow_sub-at
overflow_sub-at c = omega (arith, has _ _ _ (there c))

pub overflow_mul-at : goal.overflow_mul-at
overflow_mul-at c = omega (arith, has _ _ _ (there c))

pub overflow_add-at : goal.overflow_add-at
overflow_add-at c = omega (arith, has _ _ _ (there c))

pub bounds-stack-at : goal.bounds-stack-at
bounds-stack-at c = omega (arith, has _ _ _ (there (goal.at.bounds-stack-at c).Else-lacks))

pub overflow_add-at-2 : goal.overflow_add-at-2
overflow_add-at-2 c = omega (arith, has _ _ _ (there (goal.at.overflow_add-at-2 c).Else-lacks))

pub bounds-stack-at-2 : goal.bounds-stack-at-2
bounds-stack-at-2 c = omega (arith, has _ _ _ (there (goal.at.bounds-stack-at-2 c).Else-lacks))
