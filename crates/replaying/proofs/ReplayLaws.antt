-- The replay, a law a turn: there is no record left, the next one differs, or it agrees.
use Rattle.std.specs.Prelude.{◌≡◌, ℕ, suc, ◌+◌, ◌-◌, ◌/◌, ◌≤◌, Bool, true, false, cond, not, ◌||◌, List, length, drop, ◌≢◌}
use Rattle.std.proofs.Math.Path.{refl, sym, ap}
use Rattle.std.proofs.Common.{◌∙◌, true≢false, drop-drop, eq-eqb, ne_eqb}
use Rattle.std.proofs.lemmas.Bool.{false≢true}
use Rattle.std.proofs.Math.Bool.{or-false}
use Rattle.std.proofs.Math.Nat.{sub-zero, sub_self}
use native.Mathlib.Omega.{arith}
use Rattle.edition.specs.declared.Edition.TheVariants.{Shipped}
use Rattle.slots.specs.Outcome.{Outcome}
use Rattle.slots.specs.Reports.{over_limits}
use Rattle.slots.specs.Push.{push_of}
use Rattle.literals.specs.Operate.{operate_of}
use Rattle.recording.specs.Recording.{literal_in, top_in, first, later, same, not_a_recording}
use Rattle.replaying.specs.Answer.{Replayed, Agree}
use Rattle.replaying.specs.declared.answer.Field.{Field}
use Rattle.replaying.specs.declared.answer.Field.TheVariants.{Report, Depth, Top}
use Rattle.replaying.specs.Replay.{step_of, top_of, report_differs, depth_differs, top_differs, differs, go_on, refused, replay_of}
use Rattle.replaying.proofs.TopLaws.{top_of_push, top_of_literal}
use Rattle.replaying.specs.ReplayLaws.{any_differs, first_field, go_on_with, head_differs}

-- the step of a record
module _ (s : List ℕ) (d : ℕ) (x : List ℕ) where
  pub step_push : literal_in x ≡ 0 → step_of s d x ≡ push_of s d (top_in x)
  unfolding step_of
  step_push h = simp (eq-eqb _ _ h)

  pub step_literal : (literal_in x ≢ 0) → step_of s d x ≡ operate_of Shipped s d (literal_in x)
  unfolding step_of
  step_literal h = simp (ne_eqb _ _ h)

picked_field : (a b c : Bool) (i : ℕ) (o : Outcome × List ℕ) (z : Replayed × List ℕ) → true ≡ a || b || c
    → cond a (differs i Report o) (cond b (differs i Depth o) (cond c (differs i Top o) z)) ≡ differs i (cond a Report (cond b Depth Top)) o
picked_field true b c i o z h = refl
picked_field false true c i o z h = refl
picked_field false false true i o z h = refl
picked_field false false false i o z h = absurd (true≢false h)

picked_none : (a b c : Bool) {A : Type 0} (w x y z : A) → false ≡ a || b || c → cond a w (cond b x (cond c y z)) ≡ z
picked_none true b c w x y z h = absurd (false≢true h)
picked_none false true c w x y z h = absurd (false≢true h)
picked_none false false true w x y z h = absurd (false≢true h)
picked_none false false false w x y z h = refl

-- as a step finds it: of a push the head decides, of a literal the top too
module _ (x : List ℕ) (report d : ℕ) (s : List ℕ) where
  pub push_differs : literal_in x ≡ 0 → {b : Bool} → b ≡ head_differs x report d → b ≡ any_differs x report d s
  unfolding any_differs
  push_differs l h = h ∙ sym (ap (λ (t : Bool). head_differs x report d || t) (sym (top_of_push x s d l)) ∙ or-false _)

  module _ {b : Bool} (h : not b ≡ head_differs x report d) where
    pub head_differs_lem : b ≡ false → true ≡ any_differs x report d s
    unfolding any_differs
    head_differs_lem e = ap (λ (t : Bool). t || top_differs x s d) (ap not (sym e) ∙ h)

    pub literal_differs : b ≡ true → (literal_in x ≢ 0) → {t : Bool} → t ≡ same (top_of s d) (top_in x) → not t ≡ any_differs x report d s
    unfolding any_differs
    literal_differs e l q = ap not q ∙ top_of_literal x s d l ∙ ap (λ (t : Bool). t || top_differs x s d) (ap not (sym e) ∙ h)

-- a turn
module _ (r : List ℕ) (left : ℕ) (s : List ℕ) (d : ℕ) where
  pub at_end : left ≡ 0 → go_on_with r left s d ≡ (record { verdict = Agree (length r / 16); report = 0; depth = d }, s)
  unfolding go_on
  at_end h = rw (h, sub-zero) refl

  abbrev here : List ℕ
  here = first (drop (length r - left) r)

  module _ (k : 16 ≤ left) (l : left ≤ length r) (o : Outcome) (t : List ℕ) (e : step_of s d here ≡ (o, t)) where
    one_more : left / 16 ≡ suc ((left - 16) / 16)
    one_more = omega arith

    pub turn_differs : true ≡ any_differs here o.report o.depth t → {f : Field} → f ≡ first_field here o.report o.depth
        → go_on_with r left s d ≡ differs ((length r - left) / 16) f (o, t)
    unfolding go_on any_differs head_differs first_field
    turn_differs h q = rw (one_more, q, e) (picked_field (report_differs here o.report) (depth_differs here o.depth) (top_differs here t o.depth) _ (o, t) _ h)

    pub turn_agrees : false ≡ any_differs here o.report o.depth t → go_on_with r left s d ≡ go_on_with r (left - 16) t o.depth
    unfolding go_on any_differs head_differs
    turn_agrees h =
        let place : length r - left + 16 ≡ length r - (left - 16) = omega arith in
        let next : (length r - left) / 16 + 1 ≡ (length r - (left - 16)) / 16 = omega arith in
        let rest : go_on ((left - 16) / 16) (later (drop (length r - left) r)) ((length r - left) / 16 + 1) t o.depth ≡ go_on_with r (left - 16) t o.depth =
        rw (drop-drop 16 (length r - left) r, place, next) refl in
        rw (one_more, e) (picked_none (report_differs here o.report) (depth_differs here o.depth) (top_differs here t o.depth) _ _ _ _ h ∙ rest)

module _ (s r : List ℕ) where
  pub replay_over : {x : Replayed} → over_limits s 0 ≡ true → x ≡ refused 1 → replay_of s r ≡ (x, s)
  unfolding replay_of
  replay_over h e = rw e (simp h)

  module _ (w : over_limits s 0 ≡ false) where
    pub replay_refused : {x : Replayed} → not_a_recording r ≡ true → x ≡ refused 8 → replay_of s r ≡ (x, s)
    unfolding replay_of
    replay_refused h e = rw e (simp (w, h))

    pub replay_starts : not_a_recording r ≡ false → go_on_with r (length r) s 0 ≡ replay_of s r
    unfolding replay_of
    replay_starts h = rw sub_self (simp (w, h))
