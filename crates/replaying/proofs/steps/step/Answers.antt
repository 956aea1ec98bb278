-- `step` meets its contract: the literal decides, as in the definition.
use Rattle.std.proofs.Common.{[], ap, eqb-true, false, not, refl, sym, true, ◌∙◌, ◌≡◌}
use borrow.Author.Tests.{eqb-false}
use Rattle.slots.specs.declared.report.Report.TheVariants.{Done}
use Rattle.slots.specs.Push.{push_of}
use Rattle.literals.specs.Operate.{operate_of}
use Rattle.recording.specs.Recording.{literal_in}
use Rattle.replaying.proofs.ReplayLaws.{step_push, step_literal, push_differs, literal_differs}
use Rattle.replaying.proofs.HeldLaws.{holds, holds_as, report_differs_lem, depth_differs_lem, head_same}
use Rattle.replaying.proofs.steps.step.Goals as goal
use Rattle.replaying.proofs.steps.step.Goals.{After-push_in_place-report, Else-literal-eq0}

-- a push, and what it gave
pushed : (c : After-push_in_place-report) → (literal_in c.args.bytes.now ≡ 0)
pushed c = sym c.literal_in-literal.ensures ∙ c.if-literal-eq0.true

-- a literal
some : (c : Else-literal-eq0) → (literal_in c.args.bytes.now ≡ 0 → ⊥)
some c z = c.if-literal-eq0.false (c.literal_in-literal.ensures ∙ z)

pub returns-then-not-is_done : goal.returns-then-not-is_done
returns-then-not-is_done c =
    let l = pushed (goal.at.returns-then-not-is_done c).After-push_in_place-report in
    holds_as _ _ _ _ _ _ _ _ c.by_head.ensures (step_push _ _ _ l ∙ ap (push_of _ _) (sym c.top_in.ensures) ∙ c.push_in_place-report.ensures) (push_differs _ _ _ _ l refl)

pub returns-then-literal-eq0 : goal.returns-then-literal-eq0
returns-then-literal-eq0 c =
    let l = pushed (goal.at.returns-then-literal-eq0 c).After-push_in_place-report in
    holds_as _ _ _ _ _ _ _ _ c.by_head-then-literal-eq0.ensures (step_push _ _ _ l ∙ ap (push_of _ _) (sym c.top_in.ensures) ∙ c.push_in_place-report.ensures) (push_differs _ _ _ _ l refl)

pub returns-then-not-is_done-2 : goal.returns-then-not-is_done-2
returns-then-not-is_done-2 c =
    holds _ _ _ _ _ _ (step_literal _ _ _ (some (goal.at.returns-then-not-is_done-2 c).Else-literal-eq0) ∙ ap (operate_of _ _ _) (sym c.literal_in-literal.ensures) ∙ c.operate_as-report.ensures) true
    (report_differs_lem _ _ _ _ (λ z. eqb-false _ _ (sym c.if-not-is_done-2.ensures) (z ∙ sym c.report_in.ensures ∙ c.if-report_in-ne0.false)))

-- one that is done has the record's report, 0
pub returns-then-depth-depth_in : goal.returns-then-depth-depth_in
returns-then-depth-depth_in c =
    holds _ _ _ _ _ Done (step_literal _ _ _ (some (goal.at.returns-then-depth-depth_in c).Else-literal-eq0) ∙ ap (operate_of _ _ _) (sym c.literal_in-literal.ensures) ∙ rw (eqb-true _ _ (sym c.if-not-is_done-2.ensures)) at c.operate_as-report.ensures) true
    (depth_differs_lem _ _ _ _ (sym c.if-report_in-ne0.false ∙ c.report_in.ensures) (λ z. c.if-depth-depth_in.true (z ∙ sym c.depth_in.ensures)))

pub returns-then-has_top : goal.returns-then-has_top
returns-then-has_top c =
    holds _ _ _ _ _ Done (step_literal _ _ _ (some (goal.at.returns-then-has_top c).Else-literal-eq0) ∙ ap (operate_of _ _ _) (sym c.literal_in-literal.ensures) ∙ rw (eqb-true _ _ (sym c.if-not-is_done-2.ensures)) at c.operate_as-report.ensures) false
    (ap not (sym c.if-has_top.true) ∙ literal_differs _ _ _ _ {b = true} (head_same _ _ _ [] (sym c.if-report_in-ne0.false ∙ c.report_in.ensures) (c.if-depth-depth_in.false ∙ c.depth_in.ensures)) refl (some (goal.at.returns-then-has_top c).Else-literal-eq0) c.has_top.ensures)

pub returns : goal.returns
returns c =
    holds _ _ _ _ _ Done (step_literal _ _ _ (some (goal.at.returns c).Else-literal-eq0) ∙ ap (operate_of _ _ _) (sym c.literal_in-literal.ensures) ∙ rw (eqb-true _ _ (sym c.if-not-is_done-2.ensures)) at c.operate_as-report.ensures) true
    (ap not (sym c.if-has_top.false) ∙ literal_differs _ _ _ _ {b = true} (head_same _ _ _ [] (sym c.if-report_in-ne0.false ∙ c.report_in.ensures) (c.if-depth-depth_in.false ∙ c.depth_in.ensures)) refl (some (goal.at.returns c).Else-literal-eq0) c.has_top.ensures)
