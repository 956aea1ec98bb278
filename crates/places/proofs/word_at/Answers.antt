-- `word_at` meets its contract: what is read the other way round is swapped.
use Rattle.std.proofs.Common.{ap, arith, sym, ℕ, ◌∙◌}
use Rattle.number.specs.declared.Number.{Number}
use Rattle.number.specs.Number.{swapped_of}
use Rattle.slots.specs.SlotLaws.{four_word}
use Rattle.slots.specs.ReachLaws.{has, none_at, number_at_lem}
use Rattle.places.proofs.word_at.Goals as goal

abbrev word : Number → ℕ
word n = n.word

pub returns : goal.returns
returns c =
    c.swapped.ensures
    ∙ ap swapped_of c.four_in.ensures
    ∙ four_word _ _ (λ k. omega (arith, c.shared_slice_known-1.given k))
    ∙ sym (ap word (number_at_lem _ _ _ (sym c.lacks.ensures ∙ c.if-lacks.false)))

pub returns-then-lacks : goal.returns-then-lacks
returns-then-lacks c = sym (ap word (none_at _ _ _ (sym c.lacks.ensures ∙ c.if-lacks.true)))

pub overflow_sub-depth : goal.overflow_sub-depth
overflow_sub-depth c = omega (arith, has _ _ _ (sym c.lacks.ensures ∙ c.if-lacks.false))

pub four_in-requires : goal.four_in-requires
four_in-requires c = omega (arith, has _ _ _ (sym c.lacks.ensures ∙ c.if-lacks.false))
