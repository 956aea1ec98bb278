-- A5, small recordings, by computation: each with the whole answer and the bytes left.
use Rattle.std.specs.Prelude.{ℕ, ◌≡◌, refl, List, [], ◌∷◌, ◌++◌, map, take}
use Rattle.number.specs.Number.{form_of, malformed}
use Rattle.slots.specs.Slots.{slot, number_in, put_slot}
use Rattle.slots.specs.Reports.{over_limits, no_room, not_a_number, push_report}
use Rattle.slots.specs.Push.{settled, push_of}
use Rattle.slots.specs.View.{view_of}
use Rattle.literals.specs.Literals.{row_of, operation_of, takes, leaves}
use Rattle.literals.specs.Reports.{not_in_table, no_room_for, malformed_operand, too_big, report_of}
use Rattle.literals.specs.Operate.{bytes_after, operate_of}
use Rattle.recording.specs.Recording.{zeros, same, stray, not_a_recording}
use Rattle.replaying.specs.Answer.{Replayed, Verdict, Agree, Differ, Refused}
use Rattle.replaying.specs.declared.answer.Field.TheVariants.{Report, Depth, Top}
use Rattle.replaying.specs.Replay.{step_of, top_of, top_differs, go_on, replay_of}
use Rattle.replaying.specs.Made.{record_with}

-- a stack, a recording, and what the replay answers and leaves
pub record Case : Type 0 where
  pub stack : List ℕ
  pub recording : List ℕ
  pub answer : Replayed × List ℕ

-- five bytes that no replay reads
abbrev sevens : List ℕ
sevens = 7 ∷ 7 ∷ 7 ∷ 7 ∷ 7 ∷ []

abbrev one : List ℕ
one = 0 ∷ 0 ∷ 1 ∷ 0 ∷ 0 ∷ []

-- a recording on a stack of two slots: the verdict, the report, the depth, and the bytes left
abbrev gives : List ℕ → Verdict → ℕ → ℕ → List ℕ → Case
gives r v report depth t =
    record { stack = sevens ++ sevens; recording = r; answer = (record { verdict = v; report = report; depth = depth }, t) }

-- each replay answers what the case says
abbrev pub Hold : List Case → Type 0
Hold cs = map (λ (c : Case). replay_of c.stack c.recording) cs ≡ map (λ (c : Case). c.answer) cs

-- A record's parts are the literal, the report, the depth and five bytes; 0 pushes, 2 deletes, 49 duplicates.
abbrev pub cases : List Case
cases =
    record { stack = []; recording = []; answer = (record { verdict = Agree 0; report = 0; depth = 0 }, []) }
    -- a push: as it is; another report; the bytes of the depth swapped
    ∷ gives (record_with 0 0 1 one) (Agree 1) 0 1 (one ++ sevens)
    ∷ gives (record_with 0 2 1 one) (Differ 0 Report) 0 1 (one ++ sevens)
    ∷ gives (record_with 0 0 256 one) (Differ 0 Depth) 0 1 (one ++ sevens)
    -- a malformed push, refused as recorded, and one that agrees
    ∷ gives (record_with 0 3 0 (0 ∷ 1 ∷ 0 ∷ 0 ∷ 0 ∷ []) ++ record_with 0 0 1 one) (Agree 2) 0 1 (one ++ sevens)
    -- the top after a literal
    ∷ gives (record_with 0 0 1 one ++ record_with 49 0 2 one) (Agree 2) 0 2 (one ++ one)
    ∷ gives (record_with 0 0 1 one ++ record_with 49 0 2 (zeros 5)) (Differ 1 Top) 0 2 (one ++ one)
    -- a delete that is refused at depth 0, where the top is zeros; and one that leaves depth 0
    ∷ gives (record_with 2 2 0 (zeros 5)) (Agree 1) 0 0 (sevens ++ sevens)
    ∷ gives (record_with 2 2 0 one) (Differ 0 Top) 2 0 (sevens ++ sevens)
    ∷ gives (record_with 0 0 1 one ++ record_with 2 0 1 one) (Differ 1 Depth) 0 0 (one ++ sevens)
    -- 15 bytes, and a byte 15 that is not zero
    ∷ gives (take 15 (record_with 0 0 1 one)) (Refused 8) 0 0 (sevens ++ sevens)
    ∷ gives (take 15 (record_with 0 0 1 one) ++ (1 ∷ [])) (Refused 8) 0 0 (sevens ++ sevens)
    ∷ []

pub replayed : Hold cases
unfolding
    replay_of go_on step_of top_of top_differs not_a_recording stray same push_of push_report not_a_number view_of operate_of settled report_of bytes_after slot put_slot
    number_in over_limits not_in_table no_room no_room_for malformed malformed_operand too_big operation_of takes leaves row_of form_of
replayed = refl
