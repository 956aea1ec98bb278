-- Document 02, A5: "prints one line: `agree 12`, `differ 3 depth` (or report, top) or `refused 8`."
use Rattle.std.specs.Prelude.{ℕ, List, [], ◌∷◌, ◌++◌}
use Rattle.text.specs.Put.{Text, puts_of}
use Rattle.text.specs.Ascii.{ascii}
use Rattle.text.specs.Digits.{decimal_of}
use Rattle.replaying.specs.Answer.{Replayed, Verdict, Agree, Differ, Refused}
use Rattle.replaying.specs.declared.answer.Field.{Field}
use Rattle.replaying.specs.declared.answer.Field.TheVariants.{Report, Depth, Top}

-- a field's name, and the line's end
unfoldable pub field_name : Field → List ℕ
field_name Report = ascii " report\n"
field_name Depth = ascii " depth\n"
field_name Top = ascii " top\n"

unfoldable pub verdict_line : Verdict → List ℕ
verdict_line (Agree n) = ascii "agree " ++ decimal_of n ++ (10 ∷ [])
verdict_line (Differ n f) = ascii "differ " ++ decimal_of n ++ field_name f
verdict_line (Refused n) = ascii "refused " ++ decimal_of n ++ (10 ∷ [])

-- the line that `replay` prints
abbrev pub answer_of : Replayed × List ℕ → List ℕ
answer_of x = verdict_line x.0.verdict

-- the stack after a replay, and a text of it, put into a buffer that is lent
abbrev pub printed : Replayed × List ℕ → List ℕ → (Replayed × List ℕ → List ℕ) → List ℕ × Text
printed x out f = (x.1, puts_of (out, 0) (f x))
