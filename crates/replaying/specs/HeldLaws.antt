-- What a step's answer says of its record; the laws are in proofs/HeldLaws. No public contract cites this file.
use Rattle.std.specs.Prelude.{◌≡◌, ℕ, Bool, true, false, cond, List, Result, Ok, Err}
use Rattle.slots.specs.declared.report.Report.{Report}
use Rattle.slots.specs.Numbers.{number_of}
use Rattle.literals.specs.Operate.{outcome}
use Rattle.recording.specs.Recording.{report_in}
use Rattle.replaying.specs.Replay.{step_of}
use Rattle.replaying.specs.ReplayLaws.{any_differs}

-- what a step answers of its record: its report where that differs
abbrev pub Held : Type 0
Held = Result (Unit {0}) Report

-- by whether the record differs from what the step gave
abbrev pub held_by : Bool → Report → Held
held_by b report = cond b (Err report) (Ok tt)

-- the step's report; where the record agrees, that is the record's own
abbrev reported : List ℕ → Held → ℕ
reported x (Ok u) = report_in x
reported x (Err report) = number_of report

abbrev is_different : Held → Bool
is_different (Ok u) = false
is_different (Err report) = true

-- of a step of the record x at the depth d of the stack s, which left d' and s'
unfoldable pub Holds : List ℕ → ℕ → List ℕ → Held → ℕ → List ℕ → Type 0
Holds s d x r d' s' = (step_of s d x ≡ (outcome (reported x r) d', s')) × (is_different r ≡ any_differs x (reported x r) d' s')
