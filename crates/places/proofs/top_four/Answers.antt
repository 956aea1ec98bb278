-- `top_four` meets its contract: swapped, what is read is the word.
use Rattle.std.proofs.Common.{ap, arith, sym, ℕ, ◌∙◌}
use Rattle.number.specs.declared.Number.{Number}
use Rattle.number.specs.Number.{swapped_of}
use Rattle.slots.specs.SlotLaws.{four_word}
use Rattle.slots.specs.ReachLaws.{has, none_at, number_at_lem}
use Rattle.places.proofs.top_four.Goals as goal

abbrev word : Number → ℕ
word n = n.word

pub returns : goal.returns
returns c =
    ap swapped_of c.four_in.ensures
    ∙ four_word _ _ (λ k. omega (arith, c.shared_slice_known-1.given k))
    ∙ sym (ap word (number_at_lem _ _ _ (sym c.lacks_top.ensures ∙ c.if-lacks_top.false)))

pub returns-then-lacks_top : goal.returns-then-lacks_top
returns-then-lacks_top c = sym (ap word (none_at _ _ _ (sym c.lacks_top.ensures ∙ c.if-lacks_top.true)))

pub overflow_sub-depth : goal.overflow_sub-depth
overflow_sub-depth c = omega (arith, has _ _ _ (sym c.lacks_top.ensures ∙ c.if-lacks_top.false))

pub four_in-requires : goal.four_in-requires
four_in-requires c = omega (arith, has _ _ _ (sym c.lacks_top.ensures ∙ c.if-lacks_top.false))
