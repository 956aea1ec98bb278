-- Report 0 says that no row of the table of reports holds, and report 6 that its row is the first.
use Rattle.std.specs.Prelude.{ℕ, ◌+◌, ◌*◌, ◌≤◌, ◌≡◌, refl, ◌↔◌, Bool, true, false, cond, List, eqb, ltb, length}
use Rattle.std.proofs.Common.{◌∙◌, arith, ltb-false, eqb-true}
use Rattle.edition.specs.declared.Edition.{Edition}
use Rattle.number.specs.Number.{malformed}
use Rattle.slots.specs.Slots.{number_in}
use Rattle.slots.specs.Reports.{over_limits, no_room, not_a_number, push_report}
use Rattle.slots.specs.LimitLaws.{within_of}
use Rattle.literals.specs.Literals.{operation_of, takes}
use Rattle.literals.specs.Reports.{not_in_table, no_room_for, malformed_operand, too_big, report_of}

-- a row that is passed over does not hold
passed : (b : Bool) (n r k : ℕ) → (n ≡ k → ⊥) → cond b n r ≡ k → (b ≡ false) × (r ≡ k)
passed true n r k h e = absurd (h e)
passed false n r k h e = (refl, e)

-- the rows before 6 do not hold: 1, 5, 2, 4, 3
pub record Passed (ed : Edition) (s : List ℕ) (d l : ℕ) : Type 0 where
  pub limits : over_limits s d ≡ false
  pub known : not_in_table (operation_of l) ≡ false
  pub enough : ltb d (takes l) ≡ false
  pub room : no_room_for (operation_of l) s d ≡ false
  pub formed : malformed_operand ed (operation_of l) s d ≡ false

module _ (ed : Edition) (s : List ℕ) (d l : ℕ) where
  rows_passed : (k : ℕ) → (1 ≤ k → k ≤ 5 → ⊥) → report_of ed s d l ≡ k → Passed ed s d l × (cond (too_big ed (operation_of l) s d) 6 0 ≡ k)
  unfolding report_of
  rows_passed k o e =
      let p1 = passed (over_limits s d) 1 _ k (λ z. o (omega arith) (omega arith)) e in
      let p5 = passed (not_in_table (operation_of l)) 5 _ k (λ z. o (omega arith) (omega arith)) p1.1 in
      let p2 = passed (ltb d (takes l)) 2 _ k (λ z. o (omega arith) (omega arith)) p5.1 in
      let p4 = passed (no_room_for (operation_of l) s d) 4 _ k (λ z. o (omega arith) (omega arith)) p2.1 in
      let p3 = passed (malformed_operand ed (operation_of l) s d) 3 _ k (λ z. o (omega arith) (omega arith)) p4.1 in
      (record { limits = p1.0; known = p5.0; enough = p2.0; room = p4.0; formed = p3.0 }, p3.1)

  row_6 : Passed ed s d l → report_of ed s d l ≡ cond (too_big ed (operation_of l) s d) 6 0
  unfolding report_of
  row_6 p = simp (p.limits, p.known, p.enough, p.room, p.formed)

  -- report 0, and report 6
  pub accepted : (report_of ed s d l ≡ 0) ↔ (Passed ed s d l × (too_big ed (operation_of l) s d ≡ false))
  accepted = (
    (λ e. let r = rows_passed 0 (λ a b. omega arith) e in (r.0, (passed _ 6 0 0 (λ z. omega arith) r.1).0)),
    (λ r. row_6 r.0 ∙ simp r.1),
  )

  pub too_big_lem : (report_of ed s d l ≡ 6) ↔ (Passed ed s d l × (too_big ed (operation_of l) s d ≡ true))
  too_big_lem = (
    (λ e. let r = rows_passed 6 (λ a b. omega arith) e in (r.0, held _ r.1)),
    (λ r. row_6 r.0 ∙ simp r.1),
  )
    where
      held : (b : Bool) → ◌≡◌ {A = ℕ} (cond b 6 0) 6 → b ≡ true
      held true e = refl
      held false e = absurd (omega arith)

  pub within : Passed ed s d l → (length s ≤ 16000) × (5 * d ≤ length s) × (takes l ≤ d)
  within p = let w = within_of s d p.limits in (w.short, w.deep, ltb-false d (takes l) p.enough)

pub record Pushable (s : List ℕ) (d : ℕ) (p : List ℕ) : Type 0 where
  pub limits : over_limits s d ≡ false
  pub room : no_room s d ≡ false
  pub number : not_a_number p ≡ false

pub pushable : (s : List ℕ) (d : ℕ) (p : List ℕ) → push_report s d p ≡ 0 → Pushable s d p
unfolding push_report
pushable s d p e =
    let p1 = passed (over_limits s d) 1 _ 0 (λ z. omega arith) e in
    let p4 = passed (no_room s d) 4 _ 0 (λ z. omega arith) p1.1 in
    let p3 = passed (not_a_number p) 3 _ 0 (λ z. omega arith) p4.1 in
    record { limits = p1.0; room = p4.0; number = p3.0 }

five : (p : List ℕ) → not_a_number p ≡ false → length p ≡ 5
unfolding not_a_number
five p h = go (eqb (length p) 5) refl h
  where
    go : (b : Bool) → eqb (length p) 5 ≡ b → cond b (malformed (number_in p 0)) true ≡ false → length p ≡ 5
    go true e g = eqb-true (length p) 5 e
    go false e g = absurd (let z : ◌≡◌ {A = ℕ} 0 1 = cc in omega arith)

-- an accepted push has room, and its bytes are five
pub fits : (s : List ℕ) (d : ℕ) (p : List ℕ) → Pushable s d p → (5 * d + 5 ≤ length s) × (length p ≡ 5)
unfolding no_room
fits s d p a = (omega (arith, ltb-false (length s) (5 * (d + 1)) a.room), five p a.number)
