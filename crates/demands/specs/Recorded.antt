-- A5, the recording that this machine makes of a count: replayed on the same stack, its records all agree, and the replay leaves what the count left.
use Rattle.std.specs.Prelude.{ℕ, suc, ◌*◌, ◌≤◌, ◌≡◌, refl, false, List, [], ◌∷◌, ◌++◌, length}
use Rattle.std.proofs.Common.{sym, ◌∙◌, ap, arith, length-append, take_at, drop_at}
use Rattle.slots.specs.Outcome.{Outcome}
use Rattle.slots.specs.Reports.{over_limits}
use Rattle.slots.specs.LimitLaws.{within}
use Rattle.recording.specs.Recording.{records, zeros, stray, not_a_recording}
use Rattle.recording.specs.RecordingLaws.{same_refl, by_rest}
use Rattle.replaying.specs.Answer.{Replayed, Agree}
use Rattle.replaying.specs.Replay.{step_of, replay_of}
use Rattle.replaying.specs.Made.{Step, done_by, record_of, recording_of}
use Rattle.demands.specs.ReplayTurns.{Agrees}
use Rattle.demands.specs.Replays.{Follows, none, more, all_agree}
use Rattle.demands.specs.ReplayReads.{replays_alike}
use Rattle.demands.specs.RecordedStep.{Recordable, done_within, record_length, record_rest, same_step, agree}

-- every step can be recorded
pub data All : List Step → Type 0 where
  empty : All []
  also : {x : Step} {xs : List Step} → Recordable x → All xs → All (x ∷ xs)

-- the stack and the depth that steps leave, done in turn from the stack s at depth d on
unfoldable pub left_by : List Step → List ℕ → ℕ → List ℕ × ℕ
left_by [] s d = (s, d)
left_by (x ∷ xs) s d = left_by xs (done_by s d x).1 (done_by s d x).0.depth

-- a record of sixteen bytes, in front of those that follow it
ahead : {n : ℕ} (x : List ℕ) {r s : List ℕ} {d : ℕ} (o : Outcome × List ℕ) {t : List ℕ} {e : ℕ} → length x ≡ 16 → Agrees x s d → step_of s d x ≡ o
    → Follows n r o.1 o.0.depth t e → Follows (suc n) (x ++ r) s d t e
ahead {n} x {r} {s} {d} o {t} {e} l a q f =
    more {n = n} {r = x ++ r} {s = s} {d = d} {t = t} {e = e} (rw (take_at x r 16 l) a)
    (rw (drop_at x r 16 l, take_at x r 16 l, q) f)

follow : {xs : List Step} → All xs → (s : List ℕ) (d : ℕ) → over_limits s d ≡ false
    → Follows (length xs) (recording_of xs s d) s d (left_by xs s d).0 (left_by xs s d).1
unfolding recording_of left_by
follow empty s d w = none
follow (also {x} {xs} h g) s d w =
    let o = done_by s d x in
    ahead (record_of x o) o (record_length x o h) (agree s d w x h) (same_step s d x h) (follow g o.1 o.0.depth (done_within s d w x))

-- the whole recording: sixteen bytes a step, and none of them stray
pub recording_length : {xs : List Step} → All xs → (s : List ℕ) (d : ℕ) → length (recording_of xs s d) ≡ 16 * length xs
unfolding recording_of
recording_length empty s d = refl
recording_length (also {x} {xs} h g) s d =
    let o = done_by s d x in
    simp length-append (omega (arith, record_length x o h, recording_length g o.1 o.0.depth))

recording_rest : {xs : List Step} → All xs → (s : List ℕ) (d : ℕ) → stray (length xs) (recording_of xs s d) ≡ false
unfolding recording_of stray
recording_rest empty s d = refl
recording_rest (also {x} {xs} h g) s d =
    let o = done_by s d x in
    let rest = recording_of xs o.1 o.0.depth in
    let l = record_length x o h in
    rw (take_at (record_of x o) rest 16 l, drop_at (record_of x o) rest 16 l, record_rest x o h)
    (simp (same_refl (zeros 7)) (recording_rest g o.1 o.0.depth))

-- What this machine records, its replay agrees with, and it leaves the stack and the depth that the steps left. Steps are at most 4,000, since a recording is
-- at most 64,000 bytes.
module _ (xs : List Step) (s : List ℕ) (h : All xs) (few : length xs ≤ 4000) (short : length s ≤ 16000) where
  abbrev r : List ℕ
  r = recording_of xs s 0

  count : records r ≡ length xs
  count = omega (arith, recording_length h s 0)

  fit : not_a_recording r ≡ false
  fit =
      let l = recording_length h s 0 in
      sym (by_rest r (omega (arith, l)) (omega (arith, l))) ∙ ap (λ (k : ℕ). stray k r) count ∙ recording_rest h s 0

  pub replays : replay_of s r ≡ (record { verdict = Agree (length xs); report = 0; depth = (left_by xs s 0).1 }, (left_by xs s 0).0)
  replays =
      let w = within s 0 (record { short = short; deep = omega arith }) in
      let f : Follows (records r) r s 0 (left_by xs s 0).0 (left_by xs s 0).1 = rw count (follow h s 0 w) in
      all_agree s r w fit f ∙ rw count refl

  pub recorded_agrees : (replay_of s r).0.verdict ≡ Agree (length xs)
  recorded_agrees = ap (λ (x : Replayed × List ℕ). x.0.verdict) replays

  -- Nothing that the lent stack holds is read: the recording agrees on any stack of that length.
  pub agrees_elsewhere : (s' : List ℕ) → length s' ≡ length s → (replay_of s' r).0.verdict ≡ Agree (length xs)
  agrees_elsewhere s' l = ap (λ (x : Replayed). x.verdict) (replays_alike s' s l r).answers ∙ recorded_agrees
