-- `put_top` meets its contract: it writes where the stack has the number.
use Rattle.std.proofs.Common.{arith, sym, ◌∙◌}
use Rattle.slots.specs.ReachLaws.{has, put_nowhere, put_there}
use Rattle.places.proofs.put_top.Goals as goal

pub returns : goal.returns
returns c =
    c.put_in.ensures ∙ sym (put_there _ _ _ _ (sym c.lacks_top.ensures ∙ c.if-lacks_top.false))

pub returns-then-lacks_top : goal.returns-then-lacks_top
returns-then-lacks_top c = sym (put_nowhere _ _ _ _ (sym c.lacks_top.ensures ∙ c.if-lacks_top.true))

pub overflow_sub-depth : goal.overflow_sub-depth
overflow_sub-depth c = omega (arith, has _ _ _ (sym c.lacks_top.ensures ∙ c.if-lacks_top.false))

pub put_in-requires : goal.put_in-requires
put_in-requires c = omega (arith, has _ _ _ (sym c.lacks_top.ensures ∙ c.if-lacks_top.false))
