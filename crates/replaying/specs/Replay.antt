-- Document 02, A5: "Replay starts at depth 0 on a lent bench and answers "all agree" with the record count, or the number, from 0, of the first record
-- that differs and its first differing field (report, depth, top). The bench is as the records done, that one included, left it. An agreeing refusal
-- changes nothing, and replay goes on. After report 1, and before any step: over 64,000 bytes, a part record, or nonzero bytes 9 to 15 is refused with
-- number 8."
use Rattle.std.specs.Prelude.{ℕ, zero, suc, ◌+◌, Bool, cond, not, ◌&&◌, List, length, ◌==◌}
use Rattle.edition.specs.declared.Edition.TheVariants.{Shipped}
use Rattle.slots.specs.Outcome.{Outcome}
use Rattle.slots.specs.Reports.{over_limits}
use Rattle.slots.specs.Push.{push_of}
use Rattle.slots.specs.View.{view_of}
use Rattle.literals.specs.Operate.{operate_of}
use Rattle.recording.specs.Recording.{literal_in, report_in, depth_in, top_in, first, later, records, same, zeros, not_a_recording}
use Rattle.replaying.specs.Answer.{Replayed, Agree, Differ, Refused}
use Rattle.replaying.specs.declared.answer.Field.{Field}
use Rattle.replaying.specs.declared.answer.Field.TheVariants.{Report, Depth, Top}

-- "byte 0 the literal (0 for push)"
abbrev pub is_push : List ℕ → Bool
is_push x = literal_in x == 0

-- the step of a record, on the stack s at depth d
unfoldable pub step_of : List ℕ → ℕ → List ℕ → Outcome × List ℕ
step_of s d x = cond (is_push x) (push_of s d (top_in x)) (operate_of Shipped s d (literal_in x))

-- "the top slot after (..; zeros at depth 0)": the view, and zeros where it is empty
unfoldable pub top_of : List ℕ → ℕ → List ℕ
top_of s d = cond (length (view_of s d) == 0) (zeros 5) (view_of s d)

-- whether a field of a record differs from what its step gave: the report, the depth d, or the stack s
abbrev pub report_differs : List ℕ → ℕ → Bool
report_differs x report = not (report == report_in x)

abbrev pub depth_differs : List ℕ → ℕ → Bool
depth_differs x d = not (d == depth_in x)

unfoldable pub top_differs : List ℕ → List ℕ → ℕ → Bool
top_differs x s d = not (is_push x) && not (same (top_of s d) (top_in x))

abbrev pub differs : ℕ → Field → Outcome × List ℕ → Replayed × List ℕ
differs i f o = (record { verdict = Differ i f; report = o.0.report; depth = o.0.depth }, o.1)

-- the n records that are left, after i of them, on the stack s at depth d
unfoldable pub go_on : ℕ → List ℕ → ℕ → List ℕ → ℕ → Replayed × List ℕ
go_on zero r i s d = (record { verdict = Agree i; report = 0; depth = d }, s)
go_on (suc n) r i s d =
    let o = step_of s d (first r) in
    cond (report_differs (first r) o.0.report) (differs i Report o)
    (cond (depth_differs (first r) o.0.depth) (differs i Depth o)
    (cond (top_differs (first r) o.1 o.0.depth) (differs i Top o)
    (go_on n (later r) (i + 1) o.1 o.0.depth)))

abbrev pub refused : ℕ → Replayed
refused n = record { verdict = Refused n; report = 0; depth = 0 }

unfoldable pub replay_of : List ℕ → List ℕ → Replayed × List ℕ
replay_of s r =
    cond (over_limits s 0) (refused 1, s)
    (cond (not_a_recording r) (refused 8, s)
    (go_on (records r) r 0 s 0))
