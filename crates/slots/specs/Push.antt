-- What a push leaves: report, depth and every byte of the stack. "A refusal returns its number and the old depth and changes no byte."
use Rattle.std.specs.Prelude.{ℕ, zero, suc, ◌+◌, List}
use Rattle.slots.specs.Outcome.{Outcome}
use Rattle.slots.specs.Slots.{put_slot}
use Rattle.slots.specs.Reports.{push_report}

-- by the report: done, with the new depth and bytes; or refused, with the old ones
unfoldable pub settled : ℕ → ℕ → List ℕ → ℕ → List ℕ → Outcome × List ℕ
settled zero d s d' s' = (record { report = 0; depth = d' }, s')
settled (suc k) d s d' s' = (record { report = suc k; depth = d }, s)

-- "A push writes its five bytes, b5 included, into slot depth, and the depth rises by one."
unfoldable pub push_of : List ℕ → ℕ → List ℕ → Outcome × List ℕ
push_of s d p = settled (push_report s d p) d s (d + 1) (put_slot s d p)
