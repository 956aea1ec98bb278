-- The records that a replay speaks of are there.
use Rattle.replaying.proofs.BoundsLaws.{spoken_within}
use Rattle.printing.proofs.pages.print_show.Goals as goal

pub put_done-requires : goal.put_done-requires
put_done-requires c = rw c.replay-done.ensures at (spoken_within c.args.stack.now c.args.recording.now)
