-- A5, the refusals: "After report 1, and before any step: over 64,000 bytes, a part record, or nonzero bytes 9 to 15 is refused with number 8."
use Rattle.std.specs.Prelude.{ℕ, ◌≡◌, refl, ◌↔◌, ◌⊎◌, Bool, true, false, List}
use Rattle.std.proofs.Common.{ap, inl, inr, ⊎_elim, arith}
use Rattle.slots.specs.Reports.{over_limits}
use Rattle.recording.specs.Recording.{not_a_recording}
use Rattle.replaying.specs.Answer.{Replayed, Refused}
use Rattle.replaying.specs.Replay.{refused, replay_of}
use Rattle.replaying.proofs.ReplayLaws.{replay_over, replay_refused}
use Rattle.demands.specs.Replays.{never_refused}
use Rattle.demands.specs.Unfit.{Unfit, not_a_recording_lem}

module _ (s r : List ℕ) where
  abbrev x : Replayed × List ℕ
  x = replay_of s r

  verdict_of : {y : Replayed} → x ≡ (y, s) → x.0.verdict ≡ y.verdict
  verdict_of e = ap (λ (z : Replayed × List ℕ). z.0.verdict) e

  -- why, and what is left
  refusal : (k : ℕ) → x.0.verdict ≡ Refused k → (b c : Bool) → over_limits s 0 ≡ b → not_a_recording r ≡ c
      → (((k ≡ 1) × (over_limits s 0 ≡ true)) ⊎ ((k ≡ 8) × (over_limits s 0 ≡ false) × Unfit r)) × (x ≡ (refused k, s))
  refusal k v true c e g =
      let q = replay_over s r e refl in
      let p : k ≡ 1 = cc (verdict_of q) in
      (inl (p, e), rw p q)
  refusal k v false true e g =
      let q = replay_refused s r e g refl in
      let p : k ≡ 8 = cc (verdict_of q) in
      (inr (p, e, (not_a_recording_lem r).0 g), rw p q)
  refusal k v false false e g = absurd (never_refused s r e g k v)

  -- "After report 1": that is looked at first, whatever the recording.
  pub refused_1 : (x.0.verdict ≡ Refused 1) ↔ (over_limits s 0 ≡ true)
  refused_1 = (
    (λ v. ⊎_elim (λ h. h.1) (λ h. absurd (omega (arith, h.0))) (refusal 1 v _ _ refl refl).0),
    (λ h. verdict_of (replay_over s r h refl)),
  )

  -- "over 64,000 bytes, a part record, or nonzero bytes 9 to 15 is refused with number 8"
  pub refused_8 : (x.0.verdict ≡ Refused 8) ↔ ((over_limits s 0 ≡ false) × Unfit r)
  refused_8 = (
    (λ v. ⊎_elim (λ h. absurd (omega (arith, h.0))) (λ h. (h.1, h.2)) (refusal 8 v _ _ refl refl).0),
    (λ h. verdict_of (replay_refused s r h.0 ((not_a_recording_lem r).1 h.1) refl)),
  )

  -- "before any step": a refusal changes no byte, its depth is 0, and its number is one of the two.
  pub refused_unchanged : (k : ℕ) → x.0.verdict ≡ Refused k → ((k ≡ 1) ⊎ (k ≡ 8)) × (x ≡ (refused k, s))
  refused_unchanged k v = let y = refusal k v _ _ refl refl in (⊎_elim (λ h. inl h.0) (λ h. inr h.0) y.0, y.1)
