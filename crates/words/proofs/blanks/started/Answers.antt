-- `started` meets its contract: what is left starts where the whole does.
use Rattle.std.proofs.Common.{rules, sym, ◌∙◌}
use Rattle.words.proofs.Laws.{started_kept}
use Rattle.words.proofs.blanks.started.Goals as goal

pub returns-then-not-is_blank : goal.returns-then-not-is_blank
returns-then-not-is_blank c = sym (started_kept _ _ _ c.in-Some.ensures.cases.0 (search rules)) ∙ c.loop-first.invariant
