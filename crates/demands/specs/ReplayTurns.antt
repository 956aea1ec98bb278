-- A5, one record: "byte 0 the literal (0 for push), 1 the report, 2 and 3 the depth after, low first, 4 to 8 the top slot after (for a push, the pushed
-- bytes, not compared; zeros at depth 0)". A record agrees with what its step gives, or one of its fields is the first to differ; said in equations, where
-- the replay asks tests.
use Rattle.std.specs.Prelude.{ℕ, suc, ◌+◌, ◌≡◌, Bool, ◌&&◌, List}
use Rattle.std.proofs.Math.Path.{refl}
use Rattle.std.proofs.Common.{sym, ◌∙◌, ap}
use Rattle.std.proofs.Math.Bool.{true, false, false≢true, not}
use Rattle.std.proofs.Math.Dec.{eqb}
use borrow.Author.Tests.{eq-eqb, ne_eqb, eqb-true, eqb-false}
use Rattle.edition.specs.declared.Edition.TheVariants.{Shipped}
use Rattle.slots.specs.Outcome.{Outcome}
use Rattle.recording.specs.Recording.{literal_in, report_in, depth_in, top_in, first, later, same}
use Rattle.recording.specs.RecordingLaws.{same_refl, same_true, same_by}
use Rattle.replaying.specs.declared.answer.Field.{Field}
use Rattle.replaying.specs.declared.answer.Field.TheVariants.{Report, Depth, Top}
use Rattle.replaying.specs.Replay.{step_of, top_of, top_differs, differs, go_on}
use Rattle.replaying.proofs.ReplayLaws.{step_push, step_literal}
use Rattle.demands.specs.Demand1.{operation_report, push_report_lem, refused_operation, refused_push}

-- the record x agrees with what its step gives on the stack s at depth d: in each of its fields, the top not asked of a push
pub record Agrees (x s : List ℕ) (d : ℕ) : Type 0 where
  pub report : (step_of s d x).0.report ≡ report_in x
  pub depth : (step_of s d x).0.depth ≡ depth_in x
  pub top : (literal_in x ≡ 0 → ⊥) → top_of (step_of s d x).1 (step_of s d x).0.depth ≡ top_in x

-- the field differs, and none before it does
unfoldable pub Differs : Field → List ℕ → List ℕ → ℕ → Type 0
Differs Report x s d = (step_of s d x).0.report ≡ report_in x → ⊥
Differs Depth x s d = ((step_of s d x).0.report ≡ report_in x) × ((step_of s d x).0.depth ≡ depth_in x → ⊥)
Differs Top x s d =
    ((step_of s d x).0.report ≡ report_in x)
    × ((step_of s d x).0.depth ≡ depth_in x)
    × (literal_in x ≡ 0 → ⊥)
    × (top_of (step_of s d x).1 (step_of s d x).0.depth ≡ top_in x → ⊥)

module _ (x s : List ℕ) (d : ℕ) where
  abbrev o : Outcome × List ℕ
  o = step_of s d x

  -- the test of the top says what the equations do
  top_agrees : Agrees x s d → top_differs x o.1 o.0.depth ≡ false
  unfolding top_differs
  top_agrees a = go (eqb (literal_in x) 0) refl
    where
      go : (b : Bool) → eqb (literal_in x) 0 ≡ b → not b && not (same (top_of o.1 o.0.depth) (top_in x)) ≡ false
      go true e = refl
      go false e = rw (a.top (eqb-false _ _ e)) (simp (same_refl (top_in x)))

  top_differs_lem : Differs Top x s d → top_differs x o.1 o.0.depth ≡ true
  unfolding top_differs Differs
  top_differs_lem h = simp (ne_eqb _ _ h.2) (ap not (sym (same_by false (λ z. absurd (false≢true z)) (λ z. absurd (h.3 z)))))

  -- a record agrees, or a field is the first to differ
  pub data Found : Type 0 where
    agreeing : Agrees x s d → Found
    differing : (f : Field) → Differs f x s d → Found

  pub found : Found
  unfolding Differs
  found = by_report (eqb o.0.report (report_in x)) refl
    where
      by_top : o.0.report ≡ report_in x → o.0.depth ≡ depth_in x → (b c : Bool) → eqb (literal_in x) 0 ≡ b → same (top_of o.1 o.0.depth) (top_in x) ≡ c → Found
      by_top p q true c e g = agreeing (record { report = p; depth = q; top = λ l. absurd (l (eqb-true _ _ e)) })
      by_top p q false true e g = agreeing (record { report = p; depth = q; top = λ l. same_true _ _ g })
      by_top p q false false e g =
          differing Top (p, q, eqb-false _ _ e, (λ z. false≢true (sym g ∙ rw z (same_refl (top_in x)))))

      by_depth : o.0.report ≡ report_in x → (b : Bool) → eqb o.0.depth (depth_in x) ≡ b → Found
      by_depth p true e = by_top p (eqb-true _ _ e) _ _ refl refl
      by_depth p false e = differing Depth (p, eqb-false _ _ e)

      by_report : (b : Bool) → eqb o.0.report (report_in x) ≡ b → Found
      by_report true e = by_depth (eqb-true _ _ e) _ refl
      by_report false e = differing Report (eqb-false _ _ e)

-- a turn of the replay
module _ (n : ℕ) (r : List ℕ) (i : ℕ) (s : List ℕ) (d : ℕ) where
  pub goes_on : Agrees (first r) s d → go_on (suc n) r i s d ≡ go_on n (later r) (i + 1) (step_of s d (first r)).1 (step_of s d (first r)).0.depth
  unfolding go_on
  goes_on a = simp (eq-eqb _ _ a.report, eq-eqb _ _ a.depth, top_agrees _ _ _ a)

  pub stops : (f : Field) → Differs f (first r) s d → go_on (suc n) r i s d ≡ differs i f (step_of s d (first r))
  unfolding go_on Differs
  stops Report h = simp (ne_eqb _ _ h)
  stops Depth h = simp (eq-eqb _ _ h.0, ne_eqb _ _ h.1)
  stops Top h = simp (eq-eqb _ _ h.0, eq-eqb _ _ h.1, top_differs_lem _ _ _ h)

-- "An agreeing refusal changes nothing,"
module _ (x s : List ℕ) (d : ℕ) (a : Agrees x s d) (h : report_in x ≡ 0 → ⊥) where
  pub agreeing_refusal : ((step_of s d x).1 ≡ s) × ((step_of s d x).0.depth ≡ d)
  agreeing_refusal = go (eqb (literal_in x) 0) refl
    where
      go : (b : Bool) → eqb (literal_in x) 0 ≡ b → ((step_of s d x).1 ≡ s) × ((step_of s d x).0.depth ≡ d)
      go true e =
          let q = step_push s d x (eqb-true _ _ e) in
          rw q (refused_push s d (top_in x) (λ z. h (sym a.report ∙ ap (λ (y : Outcome × List ℕ). y.0.report) q ∙ push_report_lem s d (top_in x) ∙ z)))
      go false e =
          let q = step_literal s d x (eqb-false _ _ e) in
          rw q
          (refused_operation Shipped s d (literal_in x)
          (λ z. h (sym a.report ∙ ap (λ (y : Outcome × List ℕ). y.0.report) q ∙ operation_report Shipped s d (literal_in x) ∙ z)))

-- "and replay goes on."
pub goes_on_refused : (n : ℕ) (r : List ℕ) (i : ℕ) (s : List ℕ) (d : ℕ) → Agrees (first r) s d → (report_in (first r) ≡ 0 → ⊥)
    → go_on (suc n) r i s d ≡ go_on n (later r) (i + 1) s d
goes_on_refused n r i s d a h =
    let k = agreeing_refusal (first r) s d a h in
    goes_on n r i s d a ∙ rw (k.0, k.1) refl
