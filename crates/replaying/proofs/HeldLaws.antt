-- What a step's answer says of its record. No public contract cites this file.
use Rattle.std.specs.Prelude.{◌≡◌, ℕ, Bool, true, false, not, ◌||◌, List, ◌==◌, ◌≢◌, Ok, Err}
use Rattle.std.proofs.Math.Path.{refl, sym, ap, subst}
use Rattle.std.proofs.Common.{◌∙◌}
use Rattle.std.proofs.lemmas.Bool.{false≢true}
use borrow.Author.Tests.{eq-eqb, ne_eqb, eqb-true}
use Rattle.literals.specs.Operate.{outcome}
use Rattle.recording.specs.Recording.{report_in, depth_in}
use Rattle.slots.specs.declared.report.Report.{Report}
use Rattle.slots.specs.Numbers.{number_of}
use Rattle.replaying.specs.Replay.{step_of, depth_differs, top_differs}
use Rattle.replaying.specs.ReplayLaws.{head_differs, any_differs}
use Rattle.replaying.specs.HeldLaws.{Held, Holds, held_by}

module _ (x : List ℕ) (report d : ℕ) (s : List ℕ) where
  pub report_differs_lem : (report ≢ report_in x) → true ≡ any_differs x report d s
  unfolding any_differs head_differs
  report_differs_lem h = sym (simp (ne_eqb report (report_in x) h))

  pub head_same : report ≡ report_in x → d ≡ depth_in x → false ≡ head_differs x report d
  unfolding head_differs
  head_same h k = sym (simp (eq-eqb _ _ h, eq-eqb _ _ k))

  pub depth_differs_lem : report ≡ report_in x → (d ≢ depth_in x) → true ≡ any_differs x report d s
  unfolding any_differs head_differs
  depth_differs_lem h k = sym (simp (eq-eqb _ _ h, ne_eqb _ _ k))

  same_report : false ≡ any_differs x report d s → report ≡ report_in x
  unfolding any_differs head_differs
  same_report h = go (report == report_in x) refl h
    where
      go : (b : Bool) → (report == report_in x) ≡ b → false ≡ (not b || depth_differs x d) || top_differs x s d → report ≡ report_in x
      go true e k = eqb-true _ _ e
      go false e k = absurd (false≢true k)

module _ (s : List ℕ) (d : ℕ) (x : List ℕ) (d' : ℕ) (s' : List ℕ) where
  -- by the step's own report
  pub holds : (report : Report) → step_of s d x ≡ (outcome (number_of report) d', s') → (b : Bool) → b ≡ any_differs x (number_of report) d' s' → Holds s d x (held_by b report) d' s'
  unfolding Holds
  holds report e true h = (e, h)
  holds report e false h =
      let same = same_report x (number_of report) d' s' h in
      (e ∙ ap (λ (n : ℕ). (outcome n d', s')) same, h ∙ ap (λ (n : ℕ). any_differs x n d' s') same)

  pub holds_as : (r : Held) (report : Report) (b : Bool) → r ≡ held_by b report → step_of s d x ≡ (outcome (number_of report) d', s') → b ≡ any_differs x (number_of report) d' s' → Holds s d x r d' s'
  holds_as r report b i e h = subst (λ (y : Held). Holds s d x y d' s') (sym i) (holds report e b h)

  pub held_agrees : (r : Held) → Holds s d x r d' s' → r ≡ Ok tt → (step_of s d x ≡ (outcome (report_in x) d', s')) × (false ≡ any_differs x (report_in x) d' s')
  unfolding Holds
  held_agrees r h e = subst (λ (y : Held). Holds s d x y d' s') e h

  pub held_differs : (r : Held) (n : Report) → Holds s d x r d' s' → r ≡ Err n → (step_of s d x ≡ (outcome (number_of n) d', s')) × (true ≡ any_differs x (number_of n) d' s')
  unfolding Holds
  held_differs r n h e = subst (λ (y : Held). Holds s d x y d' s') e h
