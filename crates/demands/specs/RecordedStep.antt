-- A5, one record that this machine writes: it has sixteen bytes, the step can be read off it, and what it says is what the step gives again.
use Prim.Native.Nat.{ℕ, zero, suc, ◌+◌, ◌*◌, ◌/◌, ◌%◌}
use Rattle.std.specs.Prelude.{◌≡◌, Bool, length}
use Rattle.std.proofs.Math.Path.{refl, sym, ap}
use Rattle.std.proofs.Common.{◌∙◌, arith, length-append, take_at, drop_at, eqb-true}
use Rattle.std.proofs.Math.Bool.{true, false}
use mathlib.Core.List.{List}
use Rattle.std.proofs.Math.Dec.{eqb}
use Rattle.std.proofs.lemmas.Bool.{eqb-false}
use Rattle.edition.specs.declared.Edition.TheVariants.{Shipped}
use Rattle.slots.specs.Outcome.{Outcome}
use Rattle.slots.specs.SlotLaws.{length_put_slot}
use Rattle.slots.specs.Reports.{over_limits, push_report}
use Rattle.slots.specs.LimitLaws.{within, within_of}
use Rattle.slots.specs.Push.{settled, push_of}
use Rattle.literals.specs.Reports.{report_of}
use Rattle.literals.specs.Operate.{operate_of}
use Rattle.recording.specs.Recording.{rest_in, zeros}
use Rattle.replaying.specs.Replay.{step_of, top_of}
use Rattle.replaying.proofs.ReplayLaws.{step_push, step_literal}
use Rattle.replaying.proofs.TopLaws.{top_long}
use Rattle.replaying.specs.Made.{Step, push, literal, done_by, record_of}
use Rattle.demands.specs.Accepted.{pushable, fits}
use Rattle.demands.specs.Demand1.{refused_operation}
use Rattle.demands.specs.Report1.{stays_within}
use Rattle.demands.specs.ReplayTurns.{Agrees}

-- Five bytes are pushed, or a literal is done, accepted or refused; 0 is no literal here, since "byte 0 the literal (0 for push)".
abbrev pub Recordable : Step → Type 0
Recordable (push five) = length five ≡ 5
Recordable (literal l) = l ≡ 0 → ⊥

-- a step keeps the stack's limits, whatever its report
module _ (s : List ℕ) (d : ℕ) (w : over_limits s d ≡ false) where
  push_within : (p : List ℕ) → over_limits (push_of s d p).1 (push_of s d p).0.depth ≡ false
  unfolding push_of settled
  push_within p = go (push_report s d p) refl
    where
      go : (n : ℕ) → push_report s d p ≡ n → over_limits (push_of s d p).1 (push_of s d p).0.depth ≡ false
      go zero e =
          let y = fits s d p (pushable s d p e) in
          let long = length_put_slot s d y.0 p y.1 in
          rw e (within _ _ (record { short = omega (arith, long, (within_of s d w).short); deep = omega (arith, long, y.0) }))
      go (suc k) e = rw e w

  pub done_within : (x : Step) → over_limits (done_by s d x).1 (done_by s d x).0.depth ≡ false
  unfolding done_by
  done_within (push five) = push_within five
  done_within (literal l) = go (eqb (report_of Shipped s d l) 0) refl
    where
      go : (b : Bool) → eqb (report_of Shipped s d l) 0 ≡ b → over_limits (operate_of Shipped s d l).1 (operate_of Shipped s d l).0.depth ≡ false
      go true e = stays_within Shipped s d l (eqb-true _ _ e)
      go false e = let k = refused_operation Shipped s d l (eqb-false _ _ e) in rw (k.0, k.1) w

-- a record is sixteen bytes, the last seven of them zero
pub record_length : (x : Step) (o : Outcome × List ℕ) → Recordable x → length (record_of x o) ≡ 16
unfolding record_of
record_length (push five) o h = simp length-append (omega (arith, h))
record_length (literal l) o h = simp length-append (omega (arith, top_long o.1 o.0.depth))

pub record_rest : (x : Step) (o : Outcome × List ℕ) → Recordable x → rest_in (record_of x o) ≡ zeros 7
unfolding record_of
record_rest (push five) o h = rw (drop_at five (zeros 7) 5 h) refl
record_rest (literal l) o h = rw (drop_at (top_of o.1 o.0.depth) (zeros 7) 5 (top_long _ _)) refl

-- it has the step again, and what the step gave
module _ (s : List ℕ) (d : ℕ) where
  pub same_step : (x : Step) → Recordable x → step_of s d (record_of x (done_by s d x)) ≡ done_by s d x
  unfolding record_of done_by
  same_step (push five) h = step_push s d (record_of (push five) (push_of s d five)) refl ∙ ap (push_of s d) (take_at five (zeros 7) 5 h)
  same_step (literal l) h = step_literal s d (record_of (literal l) (operate_of Shipped s d l)) h

  module _ (w : over_limits s d ≡ false) where
    two_bytes : (x : Step) → (done_by s d x).0.depth ≡ (done_by s d x).0.depth % 256 + 256 * ((done_by s d x).0.depth / 256 % 256)
    two_bytes x = let y = within_of _ _ (done_within s d w x) in omega (arith, y.short, y.deep)

    pub agree : (x : Step) → Recordable x → Agrees (record_of x (done_by s d x)) s d
    unfolding record_of
    agree (push five) h =
        let e = same_step (push five) h in
        record {
          report = ap (λ (y : Outcome × List ℕ). y.0.report) e;
          depth = ap (λ (y : Outcome × List ℕ). y.0.depth) e ∙ two_bytes (push five);
          top = λ l. absurd (l refl);
        }
    agree (literal l) h =
        let e = same_step (literal l) h in
        record {
          report = ap (λ (y : Outcome × List ℕ). y.0.report) e;
          depth = ap (λ (y : Outcome × List ℕ). y.0.depth) e ∙ two_bytes (literal l);
          top = λ k. ap (λ (y : Outcome × List ℕ). top_of y.1 y.0.depth) e ∙ sym (take_at (top_of _ _) (zeros 7) 5 (top_long _ _));
        }
