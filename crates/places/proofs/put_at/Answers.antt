-- `put_at` meets its contract: it writes where the stack has the number.
use Rattle.std.proofs.Common.{arith, sym, ◌∙◌}
use Rattle.slots.specs.ReachLaws.{has, put_nowhere, put_there}
use Rattle.places.proofs.put_at.Goals as goal

pub returns : goal.returns
returns c =
    c.put_in.ensures ∙ sym (put_there _ _ _ _ (sym c.lacks.ensures ∙ c.if-lacks.false))

pub returns-then-lacks : goal.returns-then-lacks
returns-then-lacks c = sym (put_nowhere _ _ _ _ (sym c.lacks.ensures ∙ c.if-lacks.true))

pub overflow_sub-depth : goal.overflow_sub-depth
overflow_sub-depth c = omega (arith, has _ _ _ (sym c.lacks.ensures ∙ c.if-lacks.false))

pub put_in-requires : goal.put_in-requires
put_in-requires c = omega (arith, has _ _ _ (sym c.lacks.ensures ∙ c.if-lacks.false))
