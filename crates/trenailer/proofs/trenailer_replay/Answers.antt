-- `trenailer_replay` meets its contract: what it returns and writes are the parts of the replay's answer.
use Rattle.trenailer.specs.Told.{replay_told}
use Rattle.trenailer.proofs.trenailer_replay.Goals as goal

pub returns-in-Agree : goal.returns-in-Agree
unfolding replay_told
returns-in-Agree c = simp (c.replay-done.ensures, c.in-Agree.is)

pub returns-in-Differ : goal.returns-in-Differ
unfolding replay_told
returns-in-Differ c = simp (c.replay-done.ensures, c.in-Differ.is, c.number.ensures)

pub returns-in-Refused : goal.returns-in-Refused
unfolding replay_told
returns-in-Refused c = simp (c.replay-done.ensures, c.in-Refused.is, c.number-in-Refused.ensures)
