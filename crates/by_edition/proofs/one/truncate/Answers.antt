-- `truncate` meets its contract: an odd operand is refused, and the answer is the shipped edition's, mended.
use Rattle.std.proofs.Common.{Some, ap, arith, refl, sym, ◌∙◌}
use Rattle.edition.specs.declared.Edition.TheVariants.{Shipped}
use Rattle.truncation.specs.Truncate.{truncated}
use Rattle.truncation.specs.MendedLaws.{truncate_mended}
use Rattle.slots.specs.Reach.{number_at}
use Rattle.slots.specs.ReachLaws.{number_bytes}
use Rattle.literals.specs.Literals.{row_of}
use Rattle.odd.specs.Mending.{minds}
use Rattle.odd.specs.EitherLaws.{Follows, leaves, top_refused, top_follows}
use Rattle.by_edition.proofs.Mended.{done, refused}
use Rattle.by_edition.proofs.one.truncate.Goals as goal
use Rattle.by_edition.proofs.one.truncate.Given.{Over as Given}
use Rattle.by_edition.proofs.one.truncate.Goals.{After-truncate-report}

follows : (g : Given) (c : After-truncate-report g) → Follows _ _ 58 _ _ _ c.truncate-report.ensures g.E.Rom.EDITION
unfolding row_of
follows g c =
    let x = number_at c.args.stack.now c.args.depth.now 0 in
    let o = sym c.odd_top.ensures ∙ c.if-odd_top.false in
    top_follows _ _ 58 (λ ed y. Some (truncated ed y)) refl (truncated Shipped x) refl _ _ _ c.truncate-report.ensures _ o
    (λ m. ap Some (truncate_mended x (number_bytes _ _ 0 (λ j. omega (arith, c.slice_known-1.given j))) (sym (minds x m) ∙ o)))

pub returns-then-odd_top : goal.returns-then-odd_top
unfolding row_of
returns-then-odd_top g c = top_refused _ _ 58 (λ ed x. Some (truncated ed x)) refl _ (sym c.odd_top.ensures ∙ c.if-odd_top.true)

pub returns-then-is_done : goal.returns-then-is_done
returns-then-is_done g c = done _ _ _ _ _ _ c.truncate-report.ensures _ (follows g (goal.at.returns-then-is_done g c).After-truncate-report) (sym c.if-is_done.true) c.is_done.ensures c.mend_top.ensures

pub returns-else-is_done : goal.returns-else-is_done
returns-else-is_done g c = refused _ _ _ _ _ _ c.truncate-report.ensures _ (follows g (goal.at.returns-else-is_done g c).After-truncate-report) (sym c.if-is_done.false) c.is_done.ensures
