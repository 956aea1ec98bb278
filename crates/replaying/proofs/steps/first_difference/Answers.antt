-- `first_difference` meets its contract: its tests are the definition's, in their order.
use Rattle.std.proofs.Common.{eq-eqb, ne_eqb, sym, ◌∙◌}
use Rattle.replaying.specs.ReplayLaws.{first_field}
use Rattle.replaying.proofs.steps.first_difference.Goals as goal

pub returns-then-number-report_in : goal.returns-then-number-report_in
unfolding first_field
returns-then-number-report_in c = sym (simp (ne_eqb _ _ (λ z. c.if-number-report_in.true (c.number.ensures ∙ z ∙ sym c.report_in.ensures))))

pub returns-then-depth-depth_in : goal.returns-then-depth-depth_in
unfolding first_field
returns-then-depth-depth_in c =
    sym (simp (eq-eqb _ _ (sym c.number.ensures ∙ c.if-number-report_in.false ∙ c.report_in.ensures), ne_eqb _ _ (λ z. c.if-depth-depth_in.true (z ∙ sym c.depth_in.ensures))))

pub returns : goal.returns
unfolding first_field
returns c =
    sym (simp (eq-eqb _ _ (sym c.number.ensures ∙ c.if-number-report_in.false ∙ c.report_in.ensures), eq-eqb _ _ (c.if-depth-depth_in.false ∙ c.depth_in.ensures)))
