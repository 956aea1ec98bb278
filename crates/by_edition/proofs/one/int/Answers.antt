-- `int` meets its contract: an odd operand is refused, and the answer is the shipped edition's, mended, away from what that takes for -65,536.
use Rattle.std.proofs.Common.{ap, arith, refl, sym, ◌∙◌}
use Rattle.edition.specs.declared.Edition.TheVariants.{Shipped}
use Rattle.truncation.specs.Int.{int_of}
use Rattle.truncation.specs.StepLaws.{int_done}
use Rattle.truncation.specs.MendedLaws.{int_mended}
use Rattle.addition.specs.MendedLaws.{mended_answer}
use Rattle.number.specs.declared.Number.{Number}
use Rattle.slots.specs.Reach.{number_at}
use Rattle.slots.specs.ReachLaws.{number_bytes}
use Rattle.literals.specs.Literals.{row_of}
use Rattle.odd.specs.Mending.{minds}
use Rattle.odd.specs.EitherLaws.{Follows, leaves, top_refused, top_follows}
use Rattle.by_edition.specs.IntLaws.{tests, int_taken}
use Rattle.by_edition.proofs.Mended.{done, refused}
use Rattle.by_edition.proofs.one.int.Goals as goal
use Rattle.by_edition.proofs.one.int.Given.{Over as Given}
use Rattle.by_edition.proofs.one.int.Goals.{After-int-report, Else-odd_top}

-- the number on top, made of bytes, is not odd
abbrev top : (g : Given) → Else-odd_top g → Number
top g c = let i = c.args in number_at i.stack.now i.depth.now 0

follows : (g : Given) (c : After-int-report g) → Follows _ _ 39 _ _ _ c.int-report.ensures g.E.Rom.EDITION
unfolding row_of
follows g c =
    let x = number_at c.args.stack.now c.args.depth.now 0 in
    let b = number_bytes c.args.stack.now c.args.depth.now 0 (λ j. omega (arith, c.slice_known-1.given j)) in
    let o = sym c.odd_top.ensures ∙ c.if-odd_top.false in
    let n = int_done Shipped x b in
    top_follows _ _ 39 int_of refl n.0 n.1 _ _ _ c.int-report.ensures _ o
    (λ m. int_mended x b (sym (minds x m) ∙ o) (sym (tests x m) ∙ sym c.taken_top.ensures ∙ c.if-taken_top.false) ∙ ap mended_answer n.1)

pub returns-then-odd_top : goal.returns-then-odd_top
unfolding row_of
returns-then-odd_top g c = top_refused _ _ 39 int_of refl _ (sym c.odd_top.ensures ∙ c.if-odd_top.true)

pub returns-then-taken_top : goal.returns-then-taken_top
unfolding row_of
returns-then-taken_top g c =
    leaves (int_taken _ _ (λ j. omega (arith, c.slice_known-1.given j)) _ (sym c.taken_top.ensures ∙ c.if-taken_top.true)) c.int_top.ensures

pub returns-then-is_done : goal.returns-then-is_done
returns-then-is_done g c = done _ _ _ _ _ _ c.int-report.ensures _ (follows g (goal.at.returns-then-is_done g c).After-int-report) (sym c.if-is_done.true) c.is_done.ensures c.mend_top.ensures

pub returns-else-is_done : goal.returns-else-is_done
returns-else-is_done g c = refused _ _ _ _ _ _ c.int-report.ensures _ (follows g (goal.at.returns-else-is_done g c).After-int-report) (sym c.if-is_done.false) c.is_done.ensures
