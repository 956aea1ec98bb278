-- `has_head` meets its contract: the report and then the depth decide.
use Rattle.std.proofs.Common.{ap, eq-eqb, eqb, ne_eqb, not, sym, ℕ, ◌∙◌}
use Rattle.replaying.specs.ReplayLaws.{head_differs}
use Rattle.replaying.proofs.steps.has_head.Goals as goal

pub returns-then-number-report_in : goal.returns-then-number-report_in
unfolding head_differs
returns-then-number-report_in c = sym (simp (ne_eqb _ _ (λ z. c.if-number-report_in.true (c.number.ensures ∙ z ∙ sym c.report_in.ensures))))

pub returns : goal.returns
unfolding head_differs
returns c = ap (λ (k : ℕ). not (eqb c.args.depth k)) c.depth_in.ensures ∙ sym (simp (eq-eqb _ _ (sym c.number.ensures ∙ c.if-number-report_in.false ∙ c.report_in.ensures)))
