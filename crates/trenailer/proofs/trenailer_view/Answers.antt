-- `trenailer_view` meets its contract: a view that is not empty is the top slot, which begins 5 * (depth - 1) bytes into the stack.
use Rattle.std.proofs.Common.{ap, arith, length, sym, ◌∙◌, ◌≡◌}
use Rattle.slots.specs.View.{view_of}
use Rattle.trenailer.specs.ToldLaws.{seen, part_seen, part_empty}
use Rattle.trenailer.proofs.trenailer_view.Goals as goal
use Rattle.trenailer.proofs.trenailer_view.Goals.{Else-seen-eq0}

has_view : (c : Else-seen-eq0) → length (view_of c.args.stack.now c.args.depth) ≡ 0 → ⊥
has_view c e = c.if-seen-eq0.false (ap length c.view-seen.ensures ∙ e)

pub returns-then-seen-eq0 : goal.returns-then-seen-eq0
returns-then-seen-eq0 c = part_empty _ _ _ (sym (ap length c.view-seen.ensures) ∙ c.if-seen-eq0.true)

pub overflow_sub-start : goal.overflow_sub-start
overflow_sub-start c = omega (arith, (seen _ _ (has_view c)).some)

pub overflow_mul-start : goal.overflow_mul-start
overflow_mul-start c = omega (arith, (seen _ _ (has_view c)).fits)

pub returns : goal.returns
returns c = part_seen _ _ (has_view c) _
