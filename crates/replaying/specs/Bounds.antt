-- How many records a replay speaks of: as many as agree, or those up to the one that differs. That they are there stands in proofs/BoundsLaws.
use Rattle.std.specs.Prelude.{ℕ, ◌+◌}
use Rattle.replaying.specs.Answer.{Verdict, Agree, Differ, Refused}

-- how many records a verdict speaks of
unfoldable pub spoken : Verdict → ℕ
spoken (Agree n) = n
spoken (Differ n f) = n + 1
spoken (Refused n) = 0
