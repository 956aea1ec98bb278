-- `ended` meets its contract: what is left ends where the whole does.
use Rattle.std.proofs.Common.{length, ◌≡◌}
use Rattle.words.proofs.Laws.{ended}
use Rattle.words.proofs.blanks.ended.Given as goal

abbrev pub invariant-loop-last : goal.invariant-loop-last
invariant-loop-last l = ended l.rest ≡ ended l.text

abbrev pub decreases-loop-last : goal.decreases-loop-last
decreases-loop-last l = length l.rest
