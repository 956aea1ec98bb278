-- `started` meets its contract: what is left starts where the whole does.
use Rattle.std.proofs.Common.{length, ◌≡◌}
use Rattle.words.specs.Blanks.{started}
use Rattle.words.proofs.blanks.started.Given as goal

abbrev pub invariant-loop-first : goal.invariant-loop-first
invariant-loop-first l = started l.rest ≡ started l.text

abbrev pub decreases-loop-first : goal.decreases-loop-first
decreases-loop-first l = length l.rest
