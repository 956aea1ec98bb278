-- `multiply` meets its contract: an odd operand is refused, and a product is the same in both editions.
use Rattle.std.proofs.Common.{refl, sym, ◌∙◌}
use Rattle.multiplication.specs.Multiplication.{product_of}
use Rattle.literals.specs.Literals.{row_of}
use Rattle.odd.specs.EitherLaws.{pair_refused, pair_same}
use Rattle.by_edition.proofs.two.multiply.Goals as goal

pub returns-then-odd_pair : goal.returns-then-odd_pair
unfolding row_of
returns-then-odd_pair g c = pair_refused _ _ 4 (λ ed. product_of) refl _ (sym c.odd_pair.ensures ∙ c.if-odd_pair.true)

pub returns : goal.returns
unfolding row_of
returns g c =
    pair_same _ _ 4 (λ ed. product_of) refl _ (sym c.odd_pair.ensures ∙ c.if-odd_pair.false) refl ∙ c.multiply.ensures
