-- `negate` meets its contract: an odd operand is refused, and negation is the same in both editions.
use Rattle.std.proofs.Common.{Some, refl, sym, ◌∙◌}
use Rattle.number.specs.Negate.{negated}
use Rattle.literals.specs.Literals.{row_of}
use Rattle.odd.specs.EitherLaws.{top_refused, top_same}
use Rattle.by_edition.proofs.one.negate.Goals as goal

pub returns-then-odd_top : goal.returns-then-odd_top
unfolding row_of
returns-then-odd_top g c = top_refused _ _ 27 (λ ed x. Some (negated x)) refl _ (sym c.odd_top.ensures ∙ c.if-odd_top.true)

pub returns : goal.returns
unfolding row_of
returns g c =
    top_same _ _ 27 (λ ed x. Some (negated x)) refl _ refl _ (sym c.odd_top.ensures ∙ c.if-odd_top.false) refl ∙ c.negate.ensures
