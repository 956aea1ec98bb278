-- `top_differs` meets its contract: only a literal's top is looked at.
use Rattle.std.proofs.Common.{ap, not, sym, ◌∙◌}
use Rattle.replaying.proofs.TopLaws.{top_of_push, top_of_literal}
use Rattle.replaying.proofs.steps.top_differs.Goals as goal

pub returns-then-literal_in-eq0 : goal.returns-then-literal_in-eq0
returns-then-literal_in-eq0 c = top_of_push _ _ _ (sym c.literal_in.ensures ∙ c.if-literal_in-eq0.true)

pub returns : goal.returns
returns c = ap not c.has_top.ensures ∙ top_of_literal _ _ _ (λ z. c.if-literal_in-eq0.false (c.literal_in.ensures ∙ z))
