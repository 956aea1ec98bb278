-- `add` meets its contract: an odd operand is refused, and the answer is the shipped edition's, mended.
use Rattle.std.proofs.Common.{refl, sym, ◌∙◌}
use Rattle.addition.specs.Addition.{sum_of}
use Rattle.addition.proofs.MendedLaws.{sum_mended}
use Rattle.literals.specs.Literals.{row_of}
use Rattle.odd.specs.EitherLaws.{Follows, pair_refused, pair_follows}
use Rattle.by_edition.proofs.Mended.{done, refused}
use Rattle.by_edition.proofs.two.add.Goals as goal
use Rattle.by_edition.proofs.two.add.Goals.{After-add-report}
use Rattle.by_edition.proofs.two.add.Given.{Over as Given}

follows : (g : Given) (c : After-add-report g) → Follows _ _ 15 _ _ _ c.add-report.ensures g.E.Rom.EDITION
unfolding row_of
follows g c =
    pair_follows _ _ 15 sum_of refl _ _ _ c.add-report.ensures _ (sym c.odd_pair.ensures ∙ c.if-odd_pair.false) (sum_mended _ _)

pub returns-then-odd_pair : goal.returns-then-odd_pair
unfolding row_of
returns-then-odd_pair g c = pair_refused _ _ 15 sum_of refl _ (sym c.odd_pair.ensures ∙ c.if-odd_pair.true)

pub returns-then-is_done : goal.returns-then-is_done
returns-then-is_done g c = done _ _ _ _ _ _ c.add-report.ensures _ (follows g (goal.at.returns-then-is_done g c).After-add-report) (sym c.if-is_done.true) c.is_done.ensures c.mend_top.ensures

pub returns-else-is_done : goal.returns-else-is_done
returns-else-is_done g c = refused _ _ _ _ _ _ c.add-report.ensures _ (follows g (goal.at.returns-else-is_done g c).After-add-report) (sym c.if-is_done.false) c.is_done.ensures
