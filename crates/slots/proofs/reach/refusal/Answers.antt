-- `refusal` meets its contract: its tests are the definition's.
use Rattle.std.proofs.Common.{le-ltb, lt-ltb, sym, ◌∙◌}
use Rattle.slots.specs.Reach.{refusal_of}
use Rattle.slots.proofs.reach.refusal.Goals as goal

pub returns-then-over_limits : goal.returns-then-over_limits
unfolding refusal_of
returns-then-over_limits c = sym (simp (sym c.over_limits.ensures ∙ c.if-over_limits.true))

pub returns-then-depth-takes : goal.returns-then-depth-takes
unfolding refusal_of
returns-then-depth-takes c = sym (simp (sym c.over_limits.ensures ∙ c.if-over_limits.false, lt-ltb _ _ c.if-depth-takes.true))

pub returns : goal.returns
unfolding refusal_of
returns c = sym (simp (sym c.over_limits.ensures ∙ c.if-over_limits.false, le-ltb _ _ c.if-depth-takes.false))
