-- `put_halves_at` meets its contract: it writes where the stack has the number, which keeps its first byte and its last.
use Rattle.std.proofs.Common.{ap, arith, false, length-set, sym, ◌+◌, ◌-◌, ◌∙◌, ◌≡◌}
use Rattle.number.specs.declared.Number.{Number}
use Rattle.number.specs.Number.{halves, stored_over}
use Rattle.slots.specs.Slots.{put_in}
use Rattle.slots.specs.SlotLaws.{put_halves}
use Rattle.slots.specs.Reach.{lacking}
use Rattle.slots.specs.ReachLaws.{has, number_at_lem, put_nowhere, put_there}
use Rattle.places.proofs.put_halves_at.Goals as goal
use Rattle.places.proofs.put_halves_at.Goals.{Else-lacks}

there : (c : Else-lacks) → (let a = c.args in lacking a.stack.now a.depth (a.above + 1) ≡ false)
there c = sym c.lacks.ensures ∙ c.if-lacks.false

pub returns : goal.returns
returns c =
    let a = c.args in
    let s = a.stack.now in
    let i = a.depth - (a.above + 1) in
    let l = there c in
    put_halves s i (omega (arith, has _ _ _ l)) (λ k. omega (arith, c.slice_known-1.given k)) a.byte a.h (omega arith)
    ∙ ap (λ (n : Number). put_in s i (stored_over n (halves a.byte a.h))) (sym (number_at_lem _ _ _ l))
    ∙ sym (put_there _ _ _ _ l)

pub returns-then-lacks : goal.returns-then-lacks
returns-then-lacks c = sym (put_nowhere _ _ _ _ (sym c.lacks.ensures ∙ c.if-lacks.true))

pub overflow_sub-at : goal.overflow_sub-at
overflow_sub-at c = omega (arith, has _ _ _ (there c))

pub overflow_mul-at : goal.overflow_mul-at
overflow_mul-at c = omega (arith, has _ _ _ (there c))

pub overflow_add-stack : goal.overflow_add-stack
overflow_add-stack c = omega (arith, has _ _ _ (there c))

pub bounds-stack-at : goal.bounds-stack-at
bounds-stack-at c = omega (arith, has _ _ _ (there c))

pub overflow_add-stack-2 : goal.overflow_add-stack-2
overflow_add-stack-2 c = omega (arith, has _ _ _ (there c))

pub bounds-stack-at-2 : goal.bounds-stack-at-2
bounds-stack-at-2 c = simp length-set (omega (arith, has _ _ _ (there c)))

pub overflow_add-stack-3 : goal.overflow_add-stack-3
overflow_add-stack-3 c = omega (arith, has _ _ _ (there c))

pub bounds-stack-at-3 : goal.bounds-stack-at-3
bounds-stack-at-3 c = simp length-set (omega (arith, has _ _ _ (there c)))
