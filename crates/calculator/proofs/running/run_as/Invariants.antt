-- `run_as` meets its contract: the invariant is that what is left to run from here equals the whole run.
use Rattle.std.proofs.Common.{drop, length, ◌≡◌, ◌≤◌}
use Rattle.calculator.specs.Run.{go_on, run_of}
use Rattle.calculator.proofs.running.run_as.Given as goal

abbrev pub invariant-loop-position : goal.invariant-loop-position
invariant-loop-position g l =
    (go_on g.E.Rom.EDITION (drop l.position l.literals) l.position l.stack l.after ≡ run_of g.E.Rom.EDITION l.initial.stack l.depth l.literals)
    × (length l.stack ≡ length l.initial.stack)
    × (l.position ≤ length l.literals)
