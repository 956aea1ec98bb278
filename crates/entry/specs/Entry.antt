-- One line of a sheet, from its number, the stack, the depth and the recording so far to what it leaves of them, or to what is wrong with it.
use Rattle.std.specs.Prelude.{Ok, Err, Option, None, Some, ℕ, cond, List, eqb, length}
use Rattle.text.specs.Put.{Text, puts_of}
use Rattle.slots.specs.Slots.{bytes_of}
use Rattle.sheet.specs.declared.meaning.Step.TheVariants.{Nothing, Push, Literal, Named}
use Rattle.words.specs.Blanks.{told_of, trimmed}
use Rattle.sheet.specs.Line.{Line, line_of}
use Rattle.recording.specs.Recording.{zeros}
use Rattle.replaying.specs.Made.{Step, push, literal, done_by, record_of}
use Rattle.reasons.specs.declared.why.Why.{Why}
use Rattle.reasons.specs.Complaint.{why_not, complaint_of}

-- "the top slot after (..; zeros at depth 0)"
unfoldable pub five_of : List ℕ → List ℕ
five_of top = cond (eqb (length top) 0) (zeros 5) top

-- the stack, the depth, and the recording with the place after its last record
abbrev pub Kept : Type 0
Kept = List ℕ × ℕ × Text

-- a step that is done, and recorded, whatever its report
abbrev pub step_kept : List ℕ → ℕ → Text → Step → Kept
step_kept s d t x = ((done_by s d x).1, (done_by s d x).0.depth, puts_of t (record_of x (done_by s d x)))

-- the step that a line says
unfoldable pub said_kept : List ℕ → ℕ → Text → Line → Kept
said_kept s d t (Ok Nothing) = (s, d, t)
said_kept s d t (Ok (Push n)) = step_kept s d t (push (bytes_of n))
said_kept s d t (Ok (Literal l)) = step_kept s d t (literal l)
said_kept s d t (Ok (Named e)) = (s, d, t)
said_kept s d t (Err f) = (s, d, t)

-- A line that is taken says nothing on standard error; another leaves all as it was.
unfoldable pub recorded_by : List ℕ → ℕ → ℕ → List ℕ → Text → List ℕ → Option Why → Kept × Text
recorded_by s d number told t err None = (said_kept s d t (line_of told), (err, 0))
recorded_by s d number told t err (Some why) = ((s, d, t), puts_of (err, 0) (complaint_of number (trimmed told) why))

unfoldable pub line_recorded : List ℕ → ℕ → ℕ → List ℕ → Text → List ℕ → Kept × Text
line_recorded s d number line t err =
    let told = told_of number line in
    recorded_by s d number told t err (why_not (line_of told) t.1)
