-- `refused` meets its contract: the head and then the top decide.
use Rattle.std.proofs.Common.{ap, false, not, sym, true, ◌∙◌}
use Rattle.literals.specs.Operate.{operate_of}
use Rattle.replaying.proofs.ReplayLaws.{step_literal, head_differs_lem, literal_differs}
use Rattle.replaying.proofs.HeldLaws.{holds}
use Rattle.replaying.proofs.steps.refused.Goals as goal

pub returns-then-has_top : goal.returns-then-has_top
returns-then-has_top c =
    holds _ _ _ _ _ _ (step_literal _ _ _ (λ z. c.requires.1 (c.requires.0 ∙ z)) ∙ ap (operate_of _ _ _) (sym c.requires.0) ∙ c.operate_in_place_in-report.ensures) false
    (ap not (sym c.if-has_top.true) ∙ literal_differs _ _ _ _ c.has_head.ensures c.if-has_head.true (λ z. c.requires.1 (c.requires.0 ∙ z)) c.has_top.ensures)

pub returns-then-has_head : goal.returns-then-has_head
returns-then-has_head c =
    holds _ _ _ _ _ _ (step_literal _ _ _ (λ z. c.requires.1 (c.requires.0 ∙ z)) ∙ ap (operate_of _ _ _) (sym c.requires.0) ∙ c.operate_in_place_in-report.ensures) true
    (ap not (sym c.if-has_top.false) ∙ literal_differs _ _ _ _ c.has_head.ensures c.if-has_head.true (λ z. c.requires.1 (c.requires.0 ∙ z)) c.has_top.ensures)

pub returns : goal.returns
returns c =
    holds _ _ _ _ _ _ (step_literal _ _ _ (λ z. c.requires.1 (c.requires.0 ∙ z)) ∙ ap (operate_of _ _ _) (sym c.requires.0) ∙ c.operate_in_place_in-report.ensures) true
    (head_differs_lem _ _ _ _ c.has_head.ensures c.if-has_head.false)
