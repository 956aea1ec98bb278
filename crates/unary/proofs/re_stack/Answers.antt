-- `re_stack` meets its contract: each way out is a case of the operation; a full number stays.
use Rattle.std.proofs.Common.{Some, ap, ap₂, arith, false, mod-eq_of_lt, refl, sym, ℕ, ◌∙◌, ◌≡◌}
use Rattle.std.proofs.lemmas.Option.{MatchOption-at_none, MatchOption-at_some}
use Rattle.edition.specs.declared.Edition.{Edition}
use Rattle.edition.specs.declared.Edition.TheVariants.{Shipped}
use Rattle.number.specs.declared.Number.{Number}
use Rattle.number.specs.Number.{number}
use Rattle.number.specs.FormLaws.{malformed_full}
use Rattle.number.specs.Operand.{Unpacks}
use Rattle.number.proofs.OperandLaws.{unpacks_short}
use Rattle.number.specs.Restack.{restacked}
use Rattle.number.proofs.RestackLaws.{restack_full}
use Rattle.ending.specs.Ending.{Answer}
use Rattle.slots.specs.Reach.{lacking, number_at}
use Rattle.literals.specs.Literals.{row_of}
use Rattle.literals.proofs.WayLaws.{one_lacking, one_malformed, one_put, one_kept}
use Rattle.unary.proofs.re_stack.Goals as goal
use Rattle.unary.proofs.re_stack.Goals.{After-operand_of, Else-lacks_at}

abbrev f : Edition → Number → Answer
f = λ ed x. Some (restacked x)

there : (c : Else-lacks_at) → lacking c.args.stack.now c.args.depth.now 1 ≡ false
there c = sym c.lacks_at.ensures ∙ c.if-lacks_at.false

-- a short number, by its parts
unpacked : (c : After-operand_of) → Unpacks (number_at c.args.stack.now c.args.depth.now 0) c.operand_of.result
unpacked c =
    unpacks_short _ _ (sym c.b1_at-b1.ensures ∙ c.if-b1-ne0.false) (c.operand_of.ensures _ (sym c.b2_at.ensures ∙ sym (mod-eq_of_lt (omega arith))) (sym c.low_at.ensures))

pub returns-then-lacks_at : goal.returns-then-lacks_at
unfolding row_of
returns-then-lacks_at c = one_lacking Shipped _ _ 61 f refl (sym c.lacks_at.ensures ∙ c.if-lacks_at.true) _ c.refusal.ensures

pub returns-then-b1-ne0 : goal.returns-then-b1-ne0
unfolding row_of
returns-then-b1-ne0 c =
    let full : ¬ (◌≡◌ {A = ℕ} _ 0) = λ z. c.if-b1-ne0.true (c.b1_at-b1.ensures ∙ z) in
    one_kept Shipped _ _ 61 f refl (there (goal.at.returns-then-b1-ne0 c).Else-lacks_at) (λ k. omega (arith, c.slice_known-1.given k)) (malformed_full _ full) (ap Some (restack_full _ full))

pub returns-in_default : goal.returns-in_default
unfolding row_of
returns-in_default c =
    one_malformed Shipped _ _ 61 f refl (there (goal.at.returns-in_default c).Else-lacks_at) (MatchOption-at_none _ _ c.in_default.is (unpacked (goal.at.returns-in_default c).After-operand_of))

pub returns-then-n-eq0 : goal.returns-then-n-eq0
unfolding row_of
returns-then-n-eq0 c =
    let u = MatchOption-at_some _ _ _ c.in-Some.is (unpacked (goal.at.returns-then-n-eq0 c).After-operand_of) in
    one_put Shipped _ _ 61 f refl (there (goal.at.returns-then-n-eq0 c).Else-lacks_at) refl refl u.form (ap Some (sym u.stands ∙ u.none c.if-n-eq0.true)) c.put_at.ensures

pub returns : goal.returns
unfolding row_of
returns c =
    let u = MatchOption-at_some _ _ _ c.in-Some.is (unpacked (goal.at.returns c).After-operand_of) in
    one_put Shipped _ _ 61 f refl (there (goal.at.returns c).Else-lacks_at) refl refl u.form (ap Some (sym u.stands ∙ ap₂ number (sym (mod-eq_of_lt u.byte)) (omega arith))) c.put_at-2.ensures
