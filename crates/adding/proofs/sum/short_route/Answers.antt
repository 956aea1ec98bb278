-- `short_route` meets its contract: its tests are the definition's.
use Rattle.std.proofs.Common.{sym, ◌∙◌}
use Rattle.adding.specs.Sum.{goes_first, goes_second, says_short}
use Rattle.adding.proofs.sum.short_route.Goals as goal

pub returns-then-b1_at-ne0 : goal.returns-then-b1_at-ne0
returns-then-b1_at-ne0 c = goes_second _ _ _ (λ e. c.if-b1_at-ne0.true (c.b1_at.ensures ∙ e))

pub returns-then-b1_at-ne0-2 : goal.returns-then-b1_at-ne0-2
returns-then-b1_at-ne0-2 c = goes_first _ _ _ (λ e. c.if-b1_at-ne0-2.true (c.b1_at-2.ensures ∙ e))

pub returns : goal.returns
returns c =
    says_short _ _ _ _ (sym c.b1_at-2.ensures ∙ c.if-b1_at-ne0-2.false) (sym c.b1_at.ensures ∙ c.if-b1_at-ne0.false)
    (c.short_sum.ensures _ _ (sym c.b2_at.ensures) (sym c.low_at.ensures) (sym c.b2_at-2.ensures) (sym c.low_at-2.ensures))
