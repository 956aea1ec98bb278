-- One line of a sheet, from its number, the stack, the depth and the edition to what it writes and what it leaves.
use Rattle.std.specs.Prelude.{Ok, Err, ℕ, Bool, true, false, List, []}
use Rattle.text.specs.Put.{Text, puts_of}
use Rattle.edition.specs.declared.Edition.{Edition}
use Rattle.sheet.specs.declared.meaning.Step.TheVariants.{Nothing, Push, Literal, Named}
use Rattle.words.specs.Blanks.{told_of, trimmed}
use Rattle.sheet.specs.Line.{Line, line_of}
use Rattle.reply.specs.Step.{step_of, edition_after}
use Rattle.reply.specs.Answer.{written_of, complaint_of}

-- what standard error has of a line
unfoldable pub said_of : Bool → ℕ → List ℕ → Line → List ℕ
said_of terminal number text (Ok Nothing) = []
said_of terminal number text (Ok (Push n)) = []
said_of terminal number text (Ok (Literal l)) = []
said_of terminal number text (Ok (Named e)) = []
said_of terminal number text (Err f) = complaint_of terminal number text f

-- whether another step may be done after a line: not after one that can't be read, unless it can be typed again
unfoldable pub goes_on : Bool → Line → Bool
goes_on terminal (Ok Nothing) = true
goes_on terminal (Ok (Push n)) = true
goes_on terminal (Ok (Literal l)) = true
goes_on terminal (Ok (Named e)) = true
goes_on terminal (Err f) = terminal

-- the stack, the depth and the edition after it, whether another step may be done, and what is put for standard output and for standard error into buffers lent for it
abbrev pub Left : Type 0
Left = List ℕ × ℕ × Edition × Bool × Text × Text

abbrev pub left_by : Bool → Edition → List ℕ → ℕ → ℕ → List ℕ → List ℕ → List ℕ → Line → Left
left_by terminal ed s d number text out err said = (
  (step_of ed s d said).1,
  (step_of ed s d said).0.depth,
  edition_after ed said,
  goes_on terminal said,
  puts_of (out, 0) (written_of number said (step_of ed s d said)),
  puts_of (err, 0) (said_of terminal number text said),
)

-- once the steps may not go on, nothing is done
unfoldable pub line_left : Bool → Bool → Edition → List ℕ → ℕ → ℕ → List ℕ → List ℕ → List ℕ → Left
line_left terminal true ed s d number line out err =
    left_by terminal ed s d number (trimmed (told_of number line)) out err (line_of (told_of number line))
line_left terminal false ed s d number line out err = (s, d, ed, false, (out, 0), (err, 0))
