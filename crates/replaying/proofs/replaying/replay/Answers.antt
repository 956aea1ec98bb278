-- `replay` meets its contract: the invariant is that what is left to replay from here equals the whole replay.
use Rattle.std.proofs.Common.{arith, refl, sym, ◌∙◌}
use native.Mathlib.Nat.{add-sub_cancel_left}
use Rattle.recording.specs.RecordingLaws.{whole_records}
use Rattle.replaying.proofs.HeldLaws.{held_agrees, held_differs}
use Rattle.replaying.proofs.ReplayLaws.{at_end, turn_differs, turn_agrees, replay_over, replay_refused, replay_starts}
use Rattle.replaying.proofs.replaying.replay.Goals as goal

-- a record is 16 bytes from its place on
pub loop-left-preserved : goal.loop-left-preserved
loop-left-preserved c =
    let l = c.loop-left in
    let r = c.args.recording.now in
    let given = held_agrees _ _ _ _ _ _ (rw add-sub_cancel_left at c.step.ensures) c.in_default.is in (
      sym (turn_agrees r l.left _ _ (omega arith) (omega arith) _ _ given.0 given.1) ∙ l.invariant.0,
      c.step.auto.stack ∙ l.invariant.1,
      omega arith,
      omega arith,
    )

pub returns-in-Err : goal.returns-in-Err
returns-in-Err c =
    let l = c.loop-left in
    let r = c.args.recording.now in
    let given = held_differs _ _ _ _ _ _ _ (rw add-sub_cancel_left at c.step.ensures) c.in-Err.is in
    sym l.invariant.0
    ∙ turn_differs r l.left _ _ (omega arith) (omega arith) _ _ given.0 given.1 (rw add-sub_cancel_left at c.first_difference-field.ensures)

pub returns-then-over_limits : goal.returns-then-over_limits
returns-then-over_limits c = replay_over _ _ (sym c.over_limits.ensures ∙ c.if-over_limits.true) c.refused.ensures

pub returns-then-not_a_recording : goal.returns-then-not_a_recording
returns-then-not_a_recording c = replay_refused _ _ (sym c.over_limits.ensures ∙ c.if-over_limits.false) (sym c.not_a_recording.ensures ∙ c.if-not_a_recording.true) c.refused-then-not_a_recording.ensures

pub loop-left-init : goal.loop-left-init
loop-left-init c =
    let r = sym c.not_a_recording.ensures ∙ c.if-not_a_recording.false in
    (replay_starts _ _ (sym c.over_limits.ensures ∙ c.if-over_limits.false) r, refl, whole_records _ r, omega arith)

pub returns-then-left-eq0 : goal.returns-then-left-eq0
returns-then-left-eq0 c = sym c.loop-left.invariant.0 ∙ at_end c.args.recording.now _ _ _ c.if-left-eq0.true
