-- The words of the replay's laws (proofs/ReplayLaws): whether and where a record differs, and the rest of a replay.
use Rattle.std.specs.Prelude.{ℕ, ◌-◌, ◌/◌, Bool, cond, ◌||◌, List, length, drop}
use Rattle.replaying.specs.Answer.{Replayed}
use Rattle.replaying.specs.declared.answer.Field.{Field}
use Rattle.replaying.specs.declared.answer.Field.TheVariants.{Report, Depth, Top}
use Rattle.replaying.specs.Replay.{report_differs, depth_differs, top_differs, go_on}

-- whether a record differs from the report, the depth and the stack that its step gave, and its first field that does
unfoldable pub head_differs : List ℕ → ℕ → ℕ → Bool
head_differs x report d = report_differs x report || depth_differs x d

unfoldable pub any_differs : List ℕ → ℕ → ℕ → List ℕ → Bool
any_differs x report d s = head_differs x report d || top_differs x s d

unfoldable pub first_field : List ℕ → ℕ → ℕ → Field
first_field x report d = cond (report_differs x report) Report (cond (depth_differs x d) Depth Top)

-- the rest of a replay, by how many bytes are left
abbrev pub go_on_with : List ℕ → ℕ → List ℕ → ℕ → Replayed × List ℕ
go_on_with r left s d = go_on (left / 16) (drop (length r - left) r) ((length r - left) / 16) s d
