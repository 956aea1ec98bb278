-- Independence, of every call: over a relation that every literal keeps, two stacks that agree below the depth get the same answers, a run's position among
-- them, are left so that they agree below the new depth, and make the same cell.
use Prim.Native.Nat.{ℕ, zero, suc, ◌+◌, ◌-◌}
use Rattle.std.proofs.Math.Path.{◌≡◌, refl}
use Rattle.std.specs.Prelude.{Bool, true, false, cond, not, ◌||◌, ltb, eqb}
use mathlib.Core.List.{List, [], ◌∷◌}
use Rattle.std.proofs.Common.{arith}
use borrow.Author.Tests.{ltb-false, eqb-false}
use Rattle.edition.specs.declared.Edition.{Edition}
use Rattle.slots.specs.Outcome.{Outcome}
use Rattle.calculator.specs.Outcome.{RunOutcome}
use Rattle.slots.specs.Slots.{put_slot}
use Rattle.slots.specs.Reports.{over_limits, push_report}
use Rattle.slots.specs.Push.{settled, push_of}
use Rattle.literals.specs.Literals.{operation_of, takes, leaves}
use Rattle.literals.specs.Reports.{too_many_literals, not_in_table, report_of}
use Rattle.literals.specs.Operate.{bytes_after, operate_of}
use Rattle.calculator.specs.Run.{go_on, run_of}
use Rattle.display.specs.Cell.{number_shown, cell_of}
use Rattle.demands.specs.Accepted.{accepted, within, pushable, fits}
use Rattle.demands.specs.Counts.{takes_are, leaves_are}
use Rattle.demands.specs.Agreement.{Agree, limits_agree, room_agrees, of_numbers, put_at_lem}
use Rattle.demands.specs.Independence.{Carried, rows_same, bytes_agree}

-- both answer the same, and what they leave agrees below the new depth
pub record Alike (R : List ℕ → List ℕ → Type 0) (x x' : Outcome × List ℕ) : Type 0 where
  pub answers : x.0 ≡ x'.0
  pub leave : Agree R x.0.depth x.1 x'.1

pub record RunsAlike (R : List ℕ → List ℕ → Type 0) (x x' : RunOutcome × List ℕ) : Type 0 where
  pub answers : x.0 ≡ x'.0
  pub leave : Agree R x.0.depth x.1 x'.1

-- two choices by one test are related if each of their ways is
pub choice : {A : Type 0} (R : A → A → Type 0) (b : Bool) {x x' y y' : A} → (b ≡ true → R x x') → (b ≡ false → R y y') → R (cond b x y) (cond b x' y')
choice R true h k = h refl
choice R false h k = k refl

pub neither : (b c : Bool) → b || c ≡ false → (b ≡ false) × (c ≡ false)
neither true c e = absurd (let z : ◌≡◌ {A = ℕ} 0 1 = cc in omega arith)
neither false c e = (refl, e)

module _ {R : List ℕ → List ℕ → Type 0} (c : Carried R) where
  module _ (d : ℕ) (s s' : List ℕ) (a : Agree R d s s') where
    report_same : (ed : Edition) (l : ℕ) → report_of ed s d l ≡ report_of ed s' d l
    unfolding report_of
    report_same ed l =
        rw (← limits_agree d s s' a)
        (choice ◌≡◌ (over_limits s d) (λ e. refl) (λ e.
        choice ◌≡◌ (not_in_table (operation_of l)) (λ u. refl) (λ u.
        choice ◌≡◌ (ltb d (takes l)) (λ f. refl) (λ f.
        let enough = ltb-false d (takes l) f in
        let r = rows_same ed c d s s' a (operation_of l) (c.operations l) (omega (arith, takes_are l)) in
        simp (r.0, r.1, r.2)))))

    settled_alike : (r e : ℕ) (t t' : List ℕ) → (r ≡ 0 → Agree R e t t') → Alike R (settled r d s e t) (settled r d s' e t')
    unfolding settled
    settled_alike zero e t t' h = record { answers = refl; leave = h refl }
    settled_alike (suc k) e t t' h = record { answers = refl; leave = a }

    pub related_operations : (ed : Edition) (l : ℕ) → Alike R (operate_of ed s d l) (operate_of ed s' d l)
    unfolding operate_of
    related_operations ed l =
        rw (← report_same ed l)
        (settled_alike (report_of ed s d l) (d - takes l + leaves l) (bytes_after ed (operation_of l) s d) (bytes_after ed (operation_of l) s' d)
        (λ ok.
        let y = ((accepted ed s d l).0 ok).0 in
        let w = within ed s d l y in
        rw (takes_are l, leaves_are l) (bytes_agree ed c d s s' a w.1 (operation_of l) (c.operations l) (omega (arith, takes_are l)) y.room)))

    push_report_same : (p : List ℕ) → push_report s d p ≡ push_report s' d p
    unfolding push_report
    push_report_same p = simp (limits_agree d s s' a, room_agrees d s s' a)

    pub related_pushes : (p : List ℕ) → Alike R (push_of s d p) (push_of s' d p)
    unfolding push_of
    related_pushes p =
        rw (← push_report_same p)
        (settled_alike (push_report s d p) (d + 1) (put_slot s d p) (put_slot s' d p)
        (λ ok.
        let y = fits s d p (pushable s d p ok) in
        put_at_lem d s s' a (record { long = y.1; long' = y.1; related = c.same p }) y.0))

    pub related_cells : (r : ℕ) → cell_of r s d ≡ cell_of r s' d
    unfolding cell_of
    related_cells r =
        rw (← limits_agree d s s' a)
        (choice ◌≡◌ (not (eqb r 0)) (λ e. refl) (λ e.
        choice ◌≡◌ (over_limits s d) (λ f. refl) (λ f.
        choice ◌≡◌ (eqb d 0) (λ g. refl) (λ g.
        of_numbers d s s' a (λ x x'. number_shown x ≡ number_shown x') c.cells (d - 1) (omega (arith, eqb-false d 0 g))))))

  rest_alike : (ed : Edition) (ls : List ℕ) (i d : ℕ) (s s' : List ℕ) → Agree R d s s' → RunsAlike R (go_on ed ls i s d) (go_on ed ls i s' d)
  unfolding go_on
  rest_alike ed [] i d s s' a = record { answers = refl; leave = a }
  rest_alike ed (l ∷ ls) i d s s' a =
      let h = related_operations d s s' a ed l in
      rw (← h.answers)
      (choice (RunsAlike R) (eqb (operate_of ed s d l).0.report 0) (λ e. rest_alike ed ls (i + 1) _ _ _ h.leave) (λ e. record { answers = refl; leave = a }))

  pub related_runs : (ed : Edition) (d : ℕ) (s s' : List ℕ) → Agree R d s s' → (ls : List ℕ) → RunsAlike R (run_of ed s d ls) (run_of ed s' d ls)
  unfolding run_of
  related_runs ed d s s' a ls =
      rw (← limits_agree d s s' a)
      (choice (RunsAlike R) (over_limits s d || too_many_literals ls) (λ e. record { answers = refl; leave = a }) (λ e. rest_alike ed ls 0 d s s' a))

  -- the cell made from a run's report and the stack after it
  pub related_run_cells : (ed : Edition) (d : ℕ) (s s' : List ℕ) → Agree R d s s' → (ls : List ℕ)
      → (let x = run_of ed s d ls in let x' = run_of ed s' d ls in cell_of x.0.report x.1 x.0.depth ≡ cell_of x'.0.report x'.1 x'.0.depth)
  related_run_cells ed d s s' a ls = let h = related_runs ed d s s' a ls in rw (← h.answers) (related_cells _ _ _ h.leave _)
