-- What an operation leaves: report, depth and every byte of the stack.
-- "A refusal returns its number and the old depth and changes no byte."
use Rattle.std.specs.Prelude.{ℕ, ◌+◌, ◌-◌, List, Some, None}
use Rattle.ending.specs.Ending.{Answer}
use Rattle.edition.specs.declared.Edition.{Edition}
use Rattle.slots.specs.Outcome.{Outcome}
use Rattle.slots.specs.Slots.{slot, put_slot, put_in, top, lower}
use Rattle.slots.specs.Push.{settled}
use Rattle.literals.specs.Literals.{Operation, exchange, delete, duplicate, one, two, unknown, operation_of, takes, leaves}
use Rattle.literals.specs.Reports.{report_of}

abbrev pub outcome : ℕ → ℕ → Outcome
outcome r d = record { report = r; depth = d }

-- an answer stored in a slot
unfoldable pub stored : List ℕ → ℕ → Answer → List ℕ
stored s i (Some n) = put_in s i n
stored s i None = s

-- The bytes that an accepted operation leaves. "The lower operand is the first, and the result stands in its slot." "An operation
-- that takes two and leaves one leaves the second's slot bytes as they were." "1 swaps and 49 copies all five bytes, and 2 changes no byte."
unfoldable pub bytes_after : Edition → Operation → List ℕ → ℕ → List ℕ
bytes_after ed exchange s d = put_slot (put_slot s (d - 2) (slot s (d - 1))) (d - 1) (slot s (d - 2))
bytes_after ed delete s d = s
bytes_after ed duplicate s d = put_slot s d (slot s (d - 1))
bytes_after ed (one f) s d = stored s (d - 1) (f ed (top s d))
bytes_after ed (two f) s d = stored s (d - 2) (f ed (lower s d) (top s d))
bytes_after ed unknown s d = s

unfoldable pub operate_of : Edition → List ℕ → ℕ → ℕ → Outcome × List ℕ
operate_of ed s d l = settled (report_of ed s d l) d s (d - takes l + leaves l) (bytes_after ed (operation_of l) s d)
