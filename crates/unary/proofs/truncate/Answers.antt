-- `truncate` meets its contract: each way out is a case of the operation; what is short or whole stays.
use Rattle.std.proofs.Common.{ap, arith, false, refl, sym, ◌∙◌, ◌≡◌}
use Rattle.std.specs.Prelude.{Some}
use Rattle.ending.specs.Ending.{Answer}
use Rattle.edition.specs.declared.Edition.{Edition}
use Rattle.edition.specs.declared.Edition.TheVariants.{Shipped}
use Rattle.number.specs.declared.Number.{Number}
use Rattle.number.specs.Number.{malformed}
use Rattle.truncation.specs.Truncate.{truncated}
use Rattle.truncation.specs.TruncateLaws.{truncate_not_full, truncate_full, truncate_whole, taken_not_145}
use Rattle.slots.specs.Reach.{lacking, number_at}
use Rattle.literals.specs.Literals.{row_of}
use Rattle.literals.proofs.WayLaws.{one_lacking, one_malformed, one_put, one_kept}
use Rattle.unary.proofs.truncate.Goals as goal
use Rattle.unary.proofs.truncate.Goals.{Else-lacks_at, Else-malformed_at}

abbrev f : Edition → Number → Answer
f = λ ed x. Some (truncated ed x)

there : (c : Else-lacks_at) → lacking c.args.stack.now c.args.depth.now 1 ≡ false
there c = sym c.lacks_at.ensures ∙ c.if-lacks_at.false

formed : (c : Else-malformed_at) → malformed (number_at c.args.stack.now c.args.depth.now 0) ≡ false
formed c = sym c.malformed_at.ensures ∙ c.if-malformed_at.false

pub returns-then-lacks_at : goal.returns-then-lacks_at
unfolding row_of
returns-then-lacks_at c = one_lacking Shipped _ _ 58 f refl (sym c.lacks_at.ensures ∙ c.if-lacks_at.true) _ c.refusal.ensures

pub returns-then-malformed_at : goal.returns-then-malformed_at
unfolding row_of
returns-then-malformed_at c = one_malformed Shipped _ _ 58 f refl (there (goal.at.returns-then-malformed_at c).Else-lacks_at) (sym c.malformed_at.ensures ∙ c.if-malformed_at.true)

pub returns-then-b1-eq0 : goal.returns-then-b1-eq0
unfolding row_of
returns-then-b1-eq0 c = one_kept Shipped _ _ 58 f refl (there (goal.at.returns-then-b1-eq0 c).Else-lacks_at) (λ k. omega (arith, c.slice_known-1.given k)) (formed (goal.at.returns-then-b1-eq0 c).Else-malformed_at) (ap Some (truncate_not_full Shipped _ (sym c.b1_at-b1.ensures ∙ c.if-b1-eq0.true)))

pub returns-then-b1-gt159 : goal.returns-then-b1-gt159
unfolding row_of
returns-then-b1-gt159 c =
    let q = c.b1_at-b1.ensures in
    one_kept Shipped _ _ 58 f refl (there (goal.at.returns-then-b1-gt159 c).Else-lacks_at) (λ k. omega (arith, c.slice_known-1.given k)) (formed (goal.at.returns-then-b1-gt159 c).Else-malformed_at)
    (ap Some (truncate_full Shipped _ (omega (arith, q)) ∙ truncate_whole Shipped _ (omega (arith, q)) (taken_not_145 _ Shipped (omega (arith, q))) (omega (arith, q))))

pub returns : goal.returns
unfolding row_of
returns c =
    one_put Shipped _ _ 58 f refl (there (goal.at.returns c).Else-lacks_at) c.b1_at-b1.ensures c.word_at-word.ensures (formed (goal.at.returns c).Else-malformed_at) (ap Some (sym c.truncate-n.ensures)) c.put_at.ensures
