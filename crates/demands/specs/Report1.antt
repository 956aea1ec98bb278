-- Report 1 of a run, exactly: "bench over 16,000 bytes, 5 x depth over its length, or a literal list over 60,000". "A run checks report 1
-- once": a literal that is done keeps the stack's length and leaves a depth within it, so no later one is refused with 1.
use Rattle.std.specs.Prelude.{ℕ, ◌+◌, ◌-◌, ◌*◌, ◌≤◌, ◌≡◌, refl, ◌↔◌, ◌⊎◌, Bool, true, false, cond, ◌||◌, List, ltb}
use Rattle.std.proofs.Common.{sym, ◌∙◌, ap, inl, inr, ⊎_elim, true≢false, arith}
use Rattle.std.proofs.lemmas.Bool.{false≢true}
use Rattle.std.proofs.Math.ListN.{length}
use borrow.Author.Tests.{ltb-false}
use Rattle.edition.specs.declared.Edition.{Edition}
use Rattle.slots.specs.Reports.{over_limits, no_room}
use Rattle.slots.specs.LimitLaws.{within, within_of}
use Rattle.literals.specs.Literals.{Operation, exchange, delete, duplicate, one, two, unknown, operation_of, takes}
use Rattle.literals.specs.Reports.{too_many_literals, not_in_table, no_room_for, malformed_operand, too_big, report_of}
use Rattle.literals.specs.Operate.{operate_of}
use Rattle.calculator.specs.Run.{run_of}
use Rattle.demands.specs.Accepted.{accepted}
use Rattle.demands.specs.Counts.{takes_of, leaves_of, takes_are, leaves_are}
use Rattle.demands.specs.Demand1.{refused_run}
use Rattle.demands.specs.Demand2.{stands, new_depth, after_two, after_one, after_delete, after_duplicate, after_exchange}
use Rattle.demands.specs.Alike.{neither}
use Rattle.demands.specs.Demand2Run.{Leads, none, more, Stopped, position_is_done}

module _ (ed : Edition) (s : List ℕ) (d l : ℕ) (ok : report_of ed s d l ≡ 0) where
  -- an accepted literal keeps the stack's length, and its new depth is within it
  kept : (o : Operation) → operation_of l ≡ o → (length (operate_of ed s d l).1 ≡ length s) × (5 * (d - takes_of o + leaves_of o) ≤ length s)
  unfolding not_in_table no_room_for no_room
  kept exchange e = let w = stands ed s d l ok exchange e in ((after_exchange ed s d l ok e).0, omega arith)
  kept delete e = let w = stands ed s d l ok delete e in (ap length (after_delete ed s d l ok e), omega arith)
  kept duplicate e =
      let w = stands ed s d l ok duplicate e in
      ((after_duplicate ed s d l ok e).long, omega (arith, ltb-false (length s) (5 * (d + 1)) (simp e at ((accepted ed s d l).0 ok).0.room)))
  kept (one f) e = let w = stands ed s d l ok (one f) e in ((after_one ed s d l ok f e).2.long, omega arith)
  kept (two f) e = let w = stands ed s d l ok (two f) e in ((after_two ed s d l ok f e).2.long, omega arith)
  kept unknown e = absurd (true≢false (sym (ap not_in_table e) ∙ ((accepted ed s d l).0 ok).0.known))

  pub stays_within : over_limits (operate_of ed s d l).1 (operate_of ed s d l).0.depth ≡ false
  stays_within =
      let w = within_of s d ((accepted ed s d l).0 ok).0.limits in
      let k = kept (operation_of l) refl in
      within _ _ (record { short = omega arith; deep = omega (arith, new_depth ed s d l ok, takes_are l, leaves_are l) })

-- the literals that were done leave the stack and the depth within the limits
led_within : {ed : Edition} {ls s : List ℕ} {d : ℕ} {t : List ℕ} {e : ℕ} → Leads ed ls s d t e → over_limits s d ≡ false → over_limits t e ≡ false
led_within none w = w
led_within {ed} (more {l} {ls} {s} {d} ok n) w = led_within n (stays_within ed s d l ok)

other : (b : Bool) (n r : ℕ) → ¬ (n ≡ 1) → ¬ (r ≡ 1) → ¬ (cond b n r ≡ 1)
other true n r h k = h
other false n r h k = k

-- within the limits no literal is refused with 1
never_1 : (ed : Edition) (s : List ℕ) (d l : ℕ) → over_limits s d ≡ false → ¬ (report_of ed s d l ≡ 1)
unfolding report_of
never_1 ed s d l w =
    let o = operation_of l in
    rw w
    (other (not_in_table o) 5 _ (omega arith)
    (other (ltb d (takes l)) 2 _ (omega arith)
    (other (no_room_for o s d) 4 _ (omega arith)
    (other (malformed_operand ed o s d) 3 _ (omega arith)
    (other (too_big ed o s d) 6 0 (omega arith) (omega arith))))))

either : (b c : Bool) → (b || c ≡ true) ↔ ((b ≡ true) ⊎ (c ≡ true))
either true c = ((λ h. inl refl), (λ h. refl))
either false c = ((λ h. inr h), ⊎_elim (λ z. absurd (false≢true z)) (λ h. h))

module _ (ed : Edition) (s : List ℕ) (d : ℕ) (ls : List ℕ) where
  middle : (k : ℕ) (t : List ℕ) (e : ℕ) → over_limits s d ≡ false → Stopped ed ls s d k 1 t e → ⊥
  middle k t e w h = ⊎_elim (λ z. omega (arith, z.1)) (λ z. never_1 ed t e _ (led_within h.done w) (sym z.1)) h.next

  only : (b : Bool) → over_limits s d || too_many_literals ls ≡ b → (run_of ed s d ls).0.report ≡ 1 → b ≡ true
  only true e r = refl
  only false e r = absurd (middle _ _ _ (neither (over_limits s d) _ e).0 (rw r at (position_is_done ed s d ls e)))

  -- A run's report is 1 exactly when the limits or the list's length say so: never from a literal in the middle.
  pub run_1 : ((run_of ed s d ls).0.report ≡ 1) ↔ ((over_limits s d ≡ true) ⊎ (too_many_literals ls ≡ true))
  run_1 = ((λ r. (either _ _).0 (only _ refl r)), (λ h. ap (λ x. x.0.report) (refused_run ed s d ls ((either _ _).1 h))))

  -- And then nothing is done: the position is 0, and every byte and the depth are as they were.
  pub run_1_undone : (run_of ed s d ls).0.report ≡ 1 → run_of ed s d ls ≡ (record { report = 1; position = 0; depth = d }, s)
  run_1_undone r = refused_run ed s d ls (only _ refl r)
