-- What `show` prints: a line a record, up to the first that differs; under that one what this machine gives; and then the line that `replay` prints.
use Rattle.std.specs.Prelude.{ℕ, zero, suc, ◌+◌, cond, not, ◌||◌, List, [], ◌∷◌, ◌++◌, eqb}
use Rattle.text.specs.Ascii.{ascii}
use Rattle.text.specs.Digits.{decimal_of}
use Rattle.slots.specs.View.{view_of}
use Rattle.wording.specs.Wording.{step_answer}
use Rattle.recording.specs.Recording.{literal_in, report_in, depth_in, top_in, first, later}
use Rattle.replaying.specs.Answer.{Replayed, Verdict, Agree, Differ, Refused}
use Rattle.replaying.specs.Replay.{is_push, top_differs}
use Rattle.telling.specs.Verdict.{verdict_line}
use Rattle.printing.specs.Names.{name_of}

-- "report, depth and top as `calc` prints them": a literal's record of an empty stack, with depth 0 and zeros, has no top
unfoldable pub shown_top : List ℕ → List ℕ
shown_top x = cond (is_push x || not (eqb (depth_in x) 0) || top_differs x [] 0) (top_in x) []

abbrev pub record_line : ℕ → List ℕ → List ℕ
record_line i x = decimal_of i ++ (32 ∷ []) ++ name_of (literal_in x) ++ (32 ∷ []) ++ step_answer (report_in x) (depth_in x) (shown_top x)

-- n records, from record i on
unfoldable pub record_lines : ℕ → ℕ → List ℕ → List ℕ
record_lines zero i r = []
record_lines (suc n) i r = record_line i (first r) ++ record_lines n (i + 1) (later r)

-- the records as far as they were done, and what the last of them gave where it differs
unfoldable pub done_lines : List ℕ → Verdict → ℕ → ℕ → List ℕ → List ℕ
done_lines r (Agree n) report depth top = record_lines n 0 r
done_lines r (Differ n f) report depth top = record_lines (n + 1) 0 r ++ ascii "  this machine: " ++ step_answer report depth top
done_lines r (Refused n) report depth top = []

unfoldable pub page_of : List ℕ → Replayed × List ℕ → List ℕ
page_of r x = done_lines r x.0.verdict x.0.report x.0.depth (view_of x.1 x.0.depth) ++ verdict_line x.0.verdict
