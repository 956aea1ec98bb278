-- A5, what a replay's answer means: "Replay starts at depth 0 on a lent bench and answers "all agree" with the record count, or the number, from 0,
-- of the first record that differs and its first differing field (report, depth, top). The bench is as the records done, that one included, left it."
use Rattle.std.specs.Prelude.{ℕ, zero, suc, ◌+◌, ◌-◌, ◌*◌, ◌<◌, ◌≡◌, refl, ◌↔◌, ◌⊎◌, false, List, drop}
use Rattle.std.proofs.Common.{sym, ◌∙◌, ap, inl, inr, zero-add, add-zero, arith, drop-drop}
use Rattle.slots.specs.Reports.{over_limits}
use Rattle.recording.specs.Recording.{first, later, records, not_a_recording}
use Rattle.replaying.specs.Answer.{Replayed, Agree, Differ, Refused}
use Rattle.replaying.specs.declared.answer.Field.{Field}
use Rattle.replaying.specs.Replay.{step_of, differs, go_on, replay_of}
use Rattle.demands.specs.ReplayTurns.{Agrees, Differs, Found, agreeing, differing, found, goes_on, stops}

-- the first n records of r, each agreeing in its turn, lead from the stack s at depth d to the stack t at depth e
pub data Follows : ℕ → List ℕ → List ℕ → ℕ → List ℕ → ℕ → Type 0 where
  none : {r s : List ℕ} {d : ℕ} → Follows 0 r s d s d
  more : {n : ℕ} {r s : List ℕ} {d : ℕ} {t : List ℕ} {e : ℕ} → Agrees (first r) s d
      → Follows n (later r) (step_of s d (first r)).1 (step_of s d (first r)).0.depth t e → Follows (suc n) r s d t e

-- record n, from 0
abbrev pub record_at : List ℕ → ℕ → List ℕ
record_at r n = first (drop (16 * n) r)

-- record n is the first that differs, in the field f; the records before it left a stack and a depth
pub record FirstToDiffer (n : ℕ) (f : Field) (r s : List ℕ) : Type 0 where
  pub inside : n < records r
  pub stack : List ℕ
  pub depth : ℕ
  pub before : Follows n r s 0 stack depth
  pub there : Differs f (record_at r n) stack depth

-- all of n records are done
abbrev agreed : ℕ → List ℕ → ℕ → Replayed × List ℕ
agreed n t e = (record { verdict = Agree n; report = 0; depth = e }, t)

next : (n : ℕ) (r : List ℕ) → drop (16 * n) (later r) ≡ drop (16 * suc n) r
next n r = let e : 16 + 16 * n ≡ 16 * suc n = omega arith in drop-drop (16 * n) 16 r ∙ ap (λ (k : ℕ). drop k r) e

-- after n records that agree, the replay goes on with the m that are left, from where they led
led : {n : ℕ} {r s : List ℕ} {d : ℕ} {t : List ℕ} {e : ℕ} → Follows n r s d t e → (m i : ℕ) → go_on (n + m) r i s d ≡ go_on m (drop (16 * n) r) (i + n) t e
led none m i = rw (zero-add, add-zero) refl
led (more {n} {r} {s} {d} {t} {e} a f) m i =
    let q : suc n + m ≡ suc (n + m) = omega arith in
    let p : i + 1 + n ≡ i + suc n = omega arith in
    rw q (goes_on (n + m) r i s d a ∙ led f m (i + 1) ∙ rw (next n r, p) refl)

led_all : {n : ℕ} {r s : List ℕ} {d : ℕ} {t : List ℕ} {e : ℕ} → Follows n r s d t e → go_on n r 0 s d ≡ agreed n t e
unfolding go_on
led_all {n} {r} {s} {d} {t} {e} f = ap (λ (k : ℕ). go_on k r 0 s d) (sym (add-zero n)) ∙ led f 0 0 ∙ ap (λ (k : ℕ). agreed k t e) (zero-add n)

led_part : (k : ℕ) (f : Field) {n : ℕ} {r s : List ℕ} {d : ℕ} {t : List ℕ} {e : ℕ} → k < n → Follows k r s d t e → Differs f (record_at r k) t e
    → go_on n r 0 s d ≡ differs k f (step_of t e (record_at r k))
led_part k f {n} {r} {s} {d} {t} {e} l g h =
    let q : n ≡ k + suc (n - suc k) = omega arith in
    ap (λ (m : ℕ). go_on m r 0 s d) q
    ∙ led g (suc (n - suc k)) 0
    ∙ stops (n - suc k) (drop (16 * k) r) (0 + k) t e f h
    ∙ ap (λ (m : ℕ). differs m f (step_of t e (record_at r k))) (zero-add k)

-- the records agree, or one is the first to differ
data Ended (n : ℕ) (r s : List ℕ) (d : ℕ) : Type 0 where
  whole : {t : List ℕ} {e : ℕ} → Follows n r s d t e → Ended n r s d
  part : {k : ℕ} (f : Field) {t : List ℕ} {e : ℕ} → k < n → Follows k r s d t e → Differs f (record_at r k) t e → Ended n r s d

ended : (n : ℕ) (r s : List ℕ) (d : ℕ) → Ended n r s d
ended zero r s d = whole none
ended (suc n) r s d = go (found (first r) s d) (ended n (later r) (step_of s d (first r)).1 (step_of s d (first r)).0.depth)
  where
    go : Found (first r) s d → Ended n (later r) (step_of s d (first r)).1 (step_of s d (first r)).0.depth → Ended (suc n) r s d
    go (differing f h) e = part {k = 0} f (omega arith) none h
    go (agreeing a) (whole f) = whole (more a f)
    go (agreeing a) (part {k} x l f h) = part {k = suc k} x (omega arith) (more a f) (rw (next k r) at h)

module _ (s r : List ℕ) (w : over_limits s 0 ≡ false) (good : not_a_recording r ≡ false) where
  starts : replay_of s r ≡ go_on (records r) r 0 s 0
  unfolding replay_of
  starts = simp (w, good)

  -- "The bench is as the records done, ..": where all of them agree, the stack and the depth are what they led to, and the answer is so.
  pub all_agree : {t : List ℕ} {e : ℕ} → Follows (records r) r s 0 t e → replay_of s r ≡ (record { verdict = Agree (records r); report = 0; depth = e }, t)
  all_agree f = starts ∙ led_all f

  -- ".. that one included, left it": where one is the first to differ, the stack, the depth and the report are those of its step.
  pub first_differs : {n : ℕ} {f : Field} → (h : FirstToDiffer n f r s) → replay_of s r ≡ differs n f (step_of h.stack h.depth (record_at r n))
  first_differs {n} {f} h = starts ∙ led_part n f h.inside h.before h.there

  abbrev x : Replayed × List ℕ
  x = replay_of s r

  agreed_verdict : {t : List ℕ} {e : ℕ} → Follows (records r) r s 0 t e → x.0.verdict ≡ Agree (records r)
  agreed_verdict g = ap (λ (y : Replayed × List ℕ). y.0.verdict) (all_agree g)

  differing_verdict : {n : ℕ} {f : Field} → FirstToDiffer n f r s → x.0.verdict ≡ Differ n f
  differing_verdict h = ap (λ (y : Replayed × List ℕ). y.0.verdict) (first_differs h)

  -- one of these holds of the records
  either : {P : Type 0} → ((t : List ℕ) (e : ℕ) → Follows (records r) r s 0 t e → P) → ((n : ℕ) (f : Field) → FirstToDiffer n f r s → P) → P
  either {P} a b = go (ended (records r) r s 0)
    where
      go : Ended (records r) r s 0 → P
      go (whole {t} {e} g) = a t e g
      go (part {k} f {t} {e} l g h) = b k f (record { inside = l; stack = t; depth = e; before = g; there = h })

  -- "answers "all agree" with the record count"
  pub agrees_exactly : (n : ℕ) → (x.0.verdict ≡ Agree n) ↔ ((n ≡ records r) × Follows n r s 0 x.1 x.0.depth)
  agrees_exactly n = (
    (λ v.
        either
        (λ t e g. let p : n ≡ records r = cc (agreed_verdict g) in (p, rw (all_agree g, p) g))
        (λ m f h. absurd (let z : ◌≡◌ {A = ℕ} 0 1 = cc (differing_verdict h) in omega arith))),
    (λ h. agreed_verdict (rw h.0 at h.1) ∙ ap Agree (sym h.0)),
  )

  -- "or the number, from 0, of the first record that differs and its first differing field (report, depth, top)"
  pub differs_exactly : (n : ℕ) (f : Field) → (x.0.verdict ≡ Differ n f) ↔ FirstToDiffer n f r s
  differs_exactly n f = (
    (λ v.
        either
        (λ t e g. absurd (let z : ◌≡◌ {A = ℕ} 0 1 = cc (agreed_verdict g) in omega arith))
        (λ m k h. let p : m ≡ n = cc (differing_verdict h) in let q : k ≡ f = cc (differing_verdict h) in rw (p, q) at h)),
    differing_verdict,
  )

  -- The answer is one of the two, and never a refusal.
  pub agrees_or_differs : (x.0.verdict ≡ Agree (records r)) ⊎ ((n : ℕ) × (f : Field) × (x.0.verdict ≡ Differ n f))
  agrees_or_differs = either (λ t e g. inl (agreed_verdict g)) (λ n f h. inr (n, f, differing_verdict h))

  pub never_refused : (k : ℕ) → x.0.verdict ≡ Refused k → ⊥
  never_refused k v =
      either
      (λ t e g. let z : ◌≡◌ {A = ℕ} 0 1 = cc (agreed_verdict g) in omega arith)
      (λ n f h. let z : ◌≡◌ {A = ℕ} 0 1 = cc (differing_verdict h) in omega arith)
