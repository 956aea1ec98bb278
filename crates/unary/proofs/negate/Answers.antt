-- `negate` meets its contract: each way out is a case of the operation; of a full number the sign bit alone is written anew.
use Rattle.std.proofs.Common.{ap, ap₂, arith, false, refl, subst, sym, ◌∙◌, ◌≡◌}
use Rattle.std.specs.Prelude.{Some}
use Rattle.ending.specs.Ending.{Answer}
use Rattle.edition.specs.declared.Edition.{Edition}
use Rattle.edition.specs.declared.Edition.TheVariants.{Shipped}
use Rattle.number.specs.declared.Number.{Number}
use Rattle.number.specs.Number.{malformed, number}
use Rattle.number.specs.Negate.{negated}
use Rattle.number.proofs.NegateLaws.{negate_full, negate_none, negate_formed}
use Rattle.slots.specs.Reach.{lacking, number_at}
use Rattle.literals.specs.Literals.{row_of}
use Rattle.literals.proofs.WayLaws.{one_lacking, one_malformed, one_put, one_kept}
use Rattle.unary.proofs.negate.Goals as goal
use Rattle.unary.proofs.negate.Goals.{Else-b1-ne0, Else-lacks_at, Else-malformed_at}

abbrev f : Edition → Number → Answer
f = λ ed x. Some (negated x)

there : (c : Else-lacks_at) → lacking c.args.stack.now c.args.depth.now 1 ≡ false
there c = sym c.lacks_at.ensures ∙ c.if-lacks_at.false

formed : (c : Else-malformed_at) → malformed (number_at c.args.stack.now c.args.depth.now 0) ≡ false
formed c = sym c.malformed_at.ensures ∙ c.if-malformed_at.false

-- what is not full, by the parts that are read
short : (c : Else-b1-ne0) → number 0 c.word_at-word.result ≡ number_at c.args.stack.now c.args.depth.now 0
short c = ap₂ number (sym c.if-b1-ne0.false ∙ c.b1_at-b1.ensures) c.word_at-word.ensures

pub returns-then-lacks_at : goal.returns-then-lacks_at
unfolding row_of
returns-then-lacks_at c = one_lacking Shipped _ _ 27 f refl (sym c.lacks_at.ensures ∙ c.if-lacks_at.true) _ c.refusal.ensures

pub returns-then-malformed_at : goal.returns-then-malformed_at
unfolding row_of
returns-then-malformed_at c = one_malformed Shipped _ _ 27 f refl (there (goal.at.returns-then-malformed_at c).Else-lacks_at) (sym c.malformed_at.ensures ∙ c.if-malformed_at.true)

pub returns-then-b1-ne0 : goal.returns-then-b1-ne0
unfolding row_of
returns-then-b1-ne0 c =
    one_put Shipped _ _ 27 f refl (there (goal.at.returns-then-b1-ne0 c).Else-lacks_at) c.b1_at-b1.ensures c.word_at-word.ensures (formed (goal.at.returns-then-b1-ne0 c).Else-malformed_at) (ap Some (negate_full _ c.if-b1-ne0.true ∙ ap (number _) refl)) c.put_at.ensures

pub returns-then-four-eq0 : goal.returns-then-four-eq0
unfolding row_of
returns-then-four-eq0 c =
    one_kept Shipped _ _ 27 f refl (there (goal.at.returns-then-four-eq0 c).Else-lacks_at) (λ k. omega (arith, c.slice_known-1.given k)) (formed (goal.at.returns-then-four-eq0 c).Else-malformed_at)
    (ap Some (subst (λ (x : Number). negated x ≡ x) (short (goal.at.returns-then-four-eq0 c).Else-b1-ne0) (negate_none _ _ (omega arith) c.swapped-four.ensures c.if-four-eq0.true)))

pub returns : goal.returns
unfolding row_of
returns c =
    let m = formed (goal.at.returns c).Else-malformed_at in
    one_put Shipped _ _ 27 f refl (there (goal.at.returns c).Else-lacks_at) (sym c.if-b1-ne0.false ∙ c.b1_at-b1.ensures) c.word_at-word.ensures m
    (ap Some (negate_formed _ _ _ _ (omega arith) (ap malformed (short (goal.at.returns c).Else-b1-ne0) ∙ m) c.swapped-four.ensures c.if-four-eq0.false (omega arith) (omega arith) c.swapped.ensures))
    c.put_at-2.ensures
