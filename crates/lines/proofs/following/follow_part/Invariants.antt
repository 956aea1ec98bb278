-- Once the follower has stopped, it stays so.
use Rattle.std.proofs.Common.{◌≡◌, false}
use Rattle.lines.proofs.following.follow_part.Given as goal

abbrev pub invariant-loop-byte : goal.invariant-loop-byte
invariant-loop-byte g l = g.F.Follower.going l.initial.follower ≡ false → g.F.Follower.going l.follower ≡ false
