-- `replay` meets its contract: the invariant is that what is left to replay from here equals the whole replay.
use Rattle.std.proofs.Common.{length, ◌%◌, ◌≡◌, ◌≤◌}
use Rattle.replaying.specs.Replay.{replay_of}
use Rattle.replaying.specs.ReplayLaws.{go_on_with}
use Rattle.replaying.proofs.replaying.replay.Given as goal

abbrev pub invariant-loop-left : goal.invariant-loop-left
invariant-loop-left l =
    (go_on_with l.recording l.left l.stack l.depth ≡ replay_of l.initial.stack l.recording)
    × (length l.stack ≡ length l.initial.stack)
    × (l.left % 16 ≡ 0)
    × (l.left ≤ length l.recording)

abbrev pub decreases-loop-left : goal.decreases-loop-left
decreases-loop-left l = l.left
