-- The recording that this machine makes of a count: a record for each step in turn, with what the step left.
use Rattle.std.specs.Prelude.{ℕ, ◌/◌, ◌%◌, List, [], ◌∷◌, ◌++◌}
use Rattle.edition.specs.declared.Edition.TheVariants.{Shipped}
use Rattle.slots.specs.Outcome.{Outcome}
use Rattle.slots.specs.Push.{push_of}
use Rattle.literals.specs.Operate.{operate_of}
use Rattle.recording.specs.Recording.{zeros}
use Rattle.replaying.specs.Replay.{top_of}

-- a push of five bytes, or a literal
pub data Step : Type 0 where
  push : List ℕ → Step
  literal : ℕ → Step

unfoldable pub done_by : List ℕ → ℕ → Step → Outcome × List ℕ
done_by s d (push five) = push_of s d five
done_by s d (literal l) = operate_of Shipped s d l

-- the sixteen bytes: literal, report, depth, five bytes, and seven zeros
abbrev pub record_with : ℕ → ℕ → ℕ → List ℕ → List ℕ
record_with l report depth five = (l ∷ report ∷ depth % 256 ∷ depth / 256 % 256 ∷ []) ++ five ++ zeros 7

-- of a push the pushed bytes, and else the top slot after
unfoldable pub record_of : Step → Outcome × List ℕ → List ℕ
record_of (push five) o = record_with 0 o.0.report o.0.depth five
record_of (literal l) o = record_with l o.0.report o.0.depth (top_of o.1 o.0.depth)

-- the recording of steps that are done in turn, from the stack s at depth d on
unfoldable pub recording_of : List Step → List ℕ → ℕ → List ℕ
recording_of [] s d = []
recording_of (x ∷ xs) s d = let o = done_by s d x in record_of x o ++ recording_of xs o.1 o.0.depth
