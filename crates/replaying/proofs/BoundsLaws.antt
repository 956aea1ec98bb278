-- The records that a replay speaks of are there: as many as agree, or the one that differs.
use Rattle.std.specs.Prelude.{◌≡◌, ℕ, zero, suc, ◌+◌, ◌*◌, ◌≤◌, Bool, true, false, cond, List, length, refl}
use native.Mathlib.Omega.{arith}
use Rattle.slots.specs.Reports.{over_limits}
use Rattle.recording.specs.Recording.{first, later, records, not_a_recording}
use Rattle.recording.specs.RecordingLaws.{not_too_long}
use Rattle.replaying.specs.Answer.{Replayed, Verdict, Agree, Differ}
use Rattle.replaying.specs.declared.answer.Field.{Field}
use Rattle.replaying.specs.Replay.{step_of, report_differs, depth_differs, top_differs, go_on, refused, replay_of}
use Rattle.replaying.specs.Bounds.{spoken}

module _ (k : ℕ) where
  abbrev Within : Replayed × List ℕ → Type 0
  Within x = spoken x.0.verdict ≤ k

  either : (b : Bool) (x y : Replayed × List ℕ) → Within x → Within y → Within (cond b x y)
  either true x y p q = p
  either false x y p q = q

  left_within : (n : ℕ) (r : List ℕ) (i : ℕ) (s : List ℕ) (d : ℕ) → i + n ≤ k → Within (go_on n r i s d)
  unfolding go_on spoken
  left_within zero r i s d h = omega arith
  left_within (suc n) r i s d h =
      let o = step_of s d (first r) in
      either (report_differs (first r) o.0.report) _ _ (omega arith)
      (either (depth_differs (first r) o.0.depth) _ _ (omega arith)
      (either (top_differs (first r) o.1 o.0.depth) _ _ (omega arith) (left_within n (later r) (i + 1) o.1 o.0.depth (omega arith))))

pub spoken_within : (s r : List ℕ) → spoken (replay_of s r).0.verdict ≤ records r
unfolding replay_of spoken
spoken_within s r =
    either (records r) (over_limits s 0) _ _ (omega arith) (either (records r) (not_a_recording r) _ _ (omega arith) (left_within (records r) (records r) r 0 s 0 (omega arith)))

-- so their bytes are there
module _ (r : List ℕ) (v : Verdict) (n : ℕ) (h : spoken v ≤ records r) where
  pub agree_fits : v ≡ Agree n → 16 * n ≤ length r
  unfolding spoken
  agree_fits e = let k : n ≤ records r = rw e at h in omega arith

  pub differ_fits : {f : Field} → v ≡ Differ n f → 16 * (n + 1) ≤ length r
  unfolding spoken
  differ_fits e = let k : n + 1 ≤ records r = rw e at h in omega arith

-- and no recording has more than 4,000
pub spoken_most : (s r : List ℕ) → spoken (replay_of s r).0.verdict ≤ 4000
unfolding replay_of spoken
spoken_most s r = either 4000 (over_limits s 0) _ _ (omega arith) (go (not_a_recording r) refl)
  where
    go : (b : Bool) → not_a_recording r ≡ b → Within 4000 (cond b (refused 8, s) (go_on (records r) r 0 s 0))
    go true e = omega arith
    go false e = left_within 4000 (records r) r 0 s 0 (omega (arith, not_too_long r e))
