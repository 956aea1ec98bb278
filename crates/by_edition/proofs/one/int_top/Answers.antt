-- `int_top` meets its contract: it writes where a part was cut off.
use Rattle.std.proofs.Common.{List, eq-eqb, ne_eqb, sym, ℕ, ◌+◌, ◌^◌, ◌∙◌, ◌≡◌}
use Rattle.number.specs.Number.{number}
use Rattle.slots.specs.Reach.{number_at, put_at}
use Rattle.by_edition.specs.IntLaws.{int_top}
use Rattle.by_edition.proofs.one.int_top.Goals as goal

module _ (s : List ℕ) (d : ℕ) where
  lowered : ((number_at s d 0).word ≡ 2 ^ 31 → ⊥) → put_at s d 0 (number 145 (2 ^ 31 + 2 ^ 15)) ≡ int_top s d
  unfolding int_top
  lowered h = sym (simp (ne_eqb _ _ h))

  kept : (number_at s d 0).word ≡ 2 ^ 31 → s ≡ int_top s d
  unfolding int_top
  kept h = sym (simp (eq-eqb _ _ h))

pub returns-then-word_at : goal.returns-then-word_at
returns-then-word_at c = c.put_at.ensures ∙ lowered _ _ (λ e. c.if-word_at.true (c.word_at.ensures ∙ e))

pub returns-else-word_at : goal.returns-else-word_at
returns-else-word_at c = kept _ _ (sym c.word_at.ensures ∙ c.if-word_at.false)
