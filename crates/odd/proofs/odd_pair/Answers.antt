-- `odd_pair` meets its contract: each way out is a case of it.
use Rattle.std.proofs.Common.{Bool, List, cond, false, refl, sym, true, ℕ, ◌||◌, ◌∙◌, ◌≡◌}
use Rattle.edition.specs.declared.Edition.{Edition}
use Rattle.edition.specs.declared.Edition.TheVariants.{Shipped, Mended}
use Rattle.number.specs.Number.{odd}
use Rattle.slots.specs.Reach.{lacking, number_at}
use Rattle.odd.specs.Mending.{odd_in, odd_pair}
use Rattle.odd.proofs.odd_pair.Goals as goal

module _ (ed : Edition) (s : List ℕ) (d : ℕ) where
  few : true ≡ lacking s d 2 → false ≡ odd_pair ed s d
  unfolding odd_pair
  few h = simp (sym h)

  none : ed ≡ Shipped → false ≡ odd_pair ed s d
  unfolding odd_pair
  none e = go (lacking s d 2)
    where
      go : (b : Bool) → false ≡ cond b false (odd_in ed (number_at s d 1) || odd_in ed (number_at s d 0))
      go true = refl
      go false = sym (simp e)

  first : ed ≡ Mended → false ≡ lacking s d 2 → true ≡ odd (number_at s d 1) → true ≡ odd_pair ed s d
  unfolding odd_pair
  first e h o = simp (sym h, e, sym o)

  second : ed ≡ Mended → false ≡ lacking s d 2 → false ≡ odd (number_at s d 1) → (b : Bool) → b ≡ odd (number_at s d 0) → b ≡ odd_pair ed s d
  unfolding odd_pair
  second e h o b q = q ∙ sym (simp (sym h, e, sym o))

pub returns-then-lacks : goal.returns-then-lacks
returns-then-lacks g c = few _ _ _ (sym c.if-lacks.true ∙ c.lacks.ensures)

pub returns-then-odd_at : goal.returns-then-odd_at
returns-then-odd_at g c =
    first _ _ _ (sym c.EDITION.ensures ∙ c.in-Mended.is) (sym c.if-lacks.false ∙ c.lacks.ensures) (sym c.if-odd_at.true ∙ c.odd_at.ensures)

pub returns-in-Shipped : goal.returns-in-Shipped
returns-in-Shipped g c = none _ _ _ (sym c.EDITION.ensures ∙ c.in-Shipped.is)

pub returns-else-odd_at : goal.returns-else-odd_at
returns-else-odd_at g c =
    second _ _ _ (sym c.EDITION.ensures ∙ c.in-Mended.is) (sym c.if-lacks.false ∙ c.lacks.ensures) (sym c.if-odd_at.false ∙ c.odd_at.ensures) _ c.odd_at-in-Mended.ensures
