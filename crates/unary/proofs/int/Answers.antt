-- `int` meets its contract: each way out is a case of the operation; of what is not full, odd alone does not stay.
use Rattle.std.proofs.Common.{ap, ap₂, arith, false, refl, subst, sym, ◌∙◌, ◌≡◌}
use Rattle.std.specs.Prelude.{Some}
use Rattle.ending.specs.Ending.{Answer}
use Rattle.edition.specs.declared.Edition.{Edition}
use Rattle.edition.specs.declared.Edition.TheVariants.{Shipped}
use Rattle.number.specs.declared.Number.{Number}
use Rattle.number.specs.Number.{malformed, number}
use Rattle.number.specs.FormLaws.{form_stays}
use Rattle.truncation.specs.Int.{int_of}
use Rattle.truncation.specs.IntLaws.{int_kept, int_of_odd}
use Rattle.slots.specs.Reach.{lacking, number_at}
use Rattle.literals.specs.Literals.{row_of}
use Rattle.literals.proofs.WayLaws.{one_lacking, one_malformed, one_put, one_kept}
use Rattle.unary.proofs.int.Goals as goal
use Rattle.unary.proofs.int.Goals.{Else-lacks_at, Else-malformed_at}

abbrev f : Edition → Number → Answer
f = int_of

there : (c : Else-lacks_at) → lacking c.args.stack.now c.args.depth.now 1 ≡ false
there c = sym c.lacks_at.ensures ∙ c.if-lacks_at.false

formed : (c : Else-malformed_at) → malformed (number_at c.args.stack.now c.args.depth.now 0) ≡ false
formed c = sym c.malformed_at.ensures ∙ c.if-malformed_at.false

pub returns-then-lacks_at : goal.returns-then-lacks_at
unfolding row_of
returns-then-lacks_at c = one_lacking Shipped _ _ 39 f refl (sym c.lacks_at.ensures ∙ c.if-lacks_at.true) _ c.refusal.ensures

pub returns-then-malformed_at : goal.returns-then-malformed_at
unfolding row_of
returns-then-malformed_at c = one_malformed Shipped _ _ 39 f refl (there (goal.at.returns-then-malformed_at c).Else-lacks_at) (sym c.malformed_at.ensures ∙ c.if-malformed_at.true)

pub returns-then-b1-ne0 : goal.returns-then-b1-ne0
unfolding row_of
returns-then-b1-ne0 c =
    one_put Shipped _ _ 39 f refl (there (goal.at.returns-then-b1-ne0 c).Else-lacks_at) c.b1_at-b1.ensures c.word_at-word.ensures (formed (goal.at.returns-then-b1-ne0 c).Else-malformed_at) c.int-n.ensures c.put_at.ensures

pub returns-then-word-ne16711680 : goal.returns-then-word-ne16711680
unfolding row_of
returns-then-word-ne16711680 c =
    let is = ap₂ number c.b1_at-b1.ensures c.word_at-word.ensures in
    let m = formed (goal.at.returns-then-word-ne16711680 c).Else-malformed_at in
    one_kept Shipped _ _ 39 f refl (there (goal.at.returns-then-word-ne16711680 c).Else-lacks_at) (λ k. omega (arith, c.slice_known-1.given k)) m
    (subst (λ (x : Number). int_of Shipped x ≡ Some x) is
    (int_kept Shipped _ (record { b1_below = omega arith; word_below = omega arith }) (form_stays _ (omega arith) (omega arith) (ap malformed is ∙ m) (omega arith))))

pub returns : goal.returns
unfolding row_of
returns c =
    one_put Shipped _ _ 39 f refl (there (goal.at.returns c).Else-lacks_at) c.b1_at-b1.ensures c.word_at-word.ensures (formed (goal.at.returns c).Else-malformed_at) (int_of_odd Shipped _ (record { b1_below = omega arith; word_below = omega arith }) (omega arith) (omega arith)) c.put_at-2.ensures
