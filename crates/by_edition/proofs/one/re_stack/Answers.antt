-- `re_stack` meets its contract: an odd operand is refused, and re-stacking is the same in both editions.
use Rattle.std.proofs.Common.{Some, refl, sym, ◌∙◌}
use Rattle.number.specs.Restack.{restacked}
use Rattle.literals.specs.Literals.{row_of}
use Rattle.odd.specs.EitherLaws.{top_refused, top_same}
use Rattle.by_edition.proofs.one.re_stack.Goals as goal

pub returns-then-odd_top : goal.returns-then-odd_top
unfolding row_of
returns-then-odd_top g c = top_refused _ _ 61 (λ ed x. Some (restacked x)) refl _ (sym c.odd_top.ensures ∙ c.if-odd_top.true)

pub returns : goal.returns
unfolding row_of
returns g c =
    top_same _ _ 61 (λ ed x. Some (restacked x)) refl _ refl _ (sym c.odd_top.ensures ∙ c.if-odd_top.false) refl ∙ c.re_stack.ensures
