-- Demand 2: "Each accepted operation leaves exactly the five bytes, depth and untouched neighbours that document 01's rules give." Of either edition.
use Rattle.std.specs.Prelude.{ℕ, ◌+◌, ◌-◌, ◌*◌, ◌≤◌, ◌<◌, ◌≡◌, refl, List, get_or, Some}
use Rattle.ending.specs.Ending.{Answer}
use Rattle.std.proofs.Common.{◌∙◌, ap}
use native.Mathlib.Omega.{arith}
use Rattle.std.proofs.Math.ListN.{length}
use borrow.Author.Tests.{ltb-false}
use Rattle.edition.specs.declared.Edition.{Edition}
use Rattle.number.specs.declared.Number.{Number}
use Rattle.number.specs.Restack.{restacked}
use Rattle.number.specs.Negate.{negated}
use Rattle.truncation.specs.Truncate.{truncated}
use Rattle.addition.specs.Addition.{sum_of, difference_of}
use Rattle.division.specs.Division.{quotient_of}
use Rattle.multiplication.specs.Multiplication.{product_of}
use Rattle.truncation.specs.Int.{int_of}
use Rattle.slots.specs.Slots.{slot, bytes_of, put_slot, top, lower}
use Rattle.slots.specs.Reports.{no_room, push_report}
use Rattle.slots.specs.Push.{settled, push_of}
use Rattle.literals.specs.Literals.{Operation, exchange, delete, duplicate, one, two, row_of, operation_of, takes, leaves}
use Rattle.literals.specs.Reports.{no_room_for, too_big, report_of}
use Rattle.literals.specs.Operate.{stored, bytes_after, operate_of}
use Rattle.literals.specs.OperateLaws.{operate_done}
use Rattle.slots.specs.SlotFacts.{length_slot, same_slot}
use Rattle.demands.specs.Accepted.{accepted, within, pushable, fits}
use Rattle.demands.specs.Counts.{takes_of, takes_are}
use Rattle.demands.specs.Bytes.{Only, only_put, number_of}

-- the eleven literals
pub literals : (operation_of 1 ≡ exchange) × (operation_of 2 ≡ delete) × (operation_of 3 ≡ two difference_of) × (operation_of 4 ≡ two (λ ed. product_of))
    × (operation_of 5 ≡ two quotient_of) × (operation_of 15 ≡ two sum_of) × (operation_of 27 ≡ one (λ ed x. Some (negated x))) × (operation_of 39 ≡ one int_of)
    × (operation_of 49 ≡ duplicate) × (operation_of 58 ≡ one (λ ed x. Some (truncated ed x))) × (operation_of 61 ≡ one (λ ed x. Some (restacked x)))
unfolding operation_of row_of
literals = (refl, refl, refl, refl, refl, refl, refl, refl, refl, refl, refl)

module _ (ed : Edition) (s : List ℕ) (d l : ℕ) (ok : report_of ed s d l ≡ 0) where
  -- what is known of an accepted literal: the numbers that it takes stand within the stack
  pub stands : (o : Operation) → operation_of l ≡ o → (takes_of o ≤ d) × (5 * d ≤ length s)
  stands o e = let w = within ed s d l ((accepted ed s d l).0 ok).0 in let t = takes_are l ∙ ap takes_of e in (omega arith, w.1)

  left : (operate_of ed s d l).1 ≡ bytes_after ed (operation_of l) s d
  left = ap (λ x. x.1) (operate_done ed s d l ok)

  -- the new depth is the table's
  pub new_depth : (operate_of ed s d l).0.depth ≡ d - takes l + leaves l
  new_depth = ap (λ x. x.0.depth) (operate_done ed s d l ok)

  -- "The lower operand is the first, and the result stands in its slot", for subtract, multiply, divide and add. The second's slot is elsewhere.
  pub after_two : (f : Edition → Number → Number → Answer) → operation_of l ≡ two f
      → (n : Number) × (f ed (lower s d) (top s d) ≡ Some n) × Only s (operate_of ed s d l).1 (d - 2) (bytes_of n)
  unfolding too_big bytes_after stored bytes_of
  after_two f e =
      let a = number_of (f ed (lower s d) (top s d)) (simp e at ((accepted ed s d l).0 ok).1) in
      (a.0, a.1, rw left (simp (e, a.1) (only_put s (d - 2) (bytes_of a.0) (omega (arith, stands (two f) e)) refl)))

  -- for negate, int, truncate and re-stack
  pub after_one : (f : Edition → Number → Answer) → operation_of l ≡ one f
      → (n : Number) × (f ed (top s d) ≡ Some n) × Only s (operate_of ed s d l).1 (d - 1) (bytes_of n)
  unfolding too_big bytes_after stored bytes_of
  after_one f e =
      let a = number_of (f ed (top s d)) (simp e at ((accepted ed s d l).0 ok).1) in
      (a.0, a.1, rw left (simp (e, a.1) (only_put s (d - 1) (bytes_of a.0) (omega (arith, stands (one f) e)) refl)))

  -- "2 changes no byte"
  pub after_delete : operation_of l ≡ delete → (operate_of ed s d l).1 ≡ s
  unfolding bytes_after
  after_delete e = left ∙ simp e

  -- "49 copies all five bytes"
  pub after_duplicate : operation_of l ≡ duplicate → Only s (operate_of ed s d l).1 d (slot s (d - 1))
  unfolding bytes_after no_room_for no_room
  after_duplicate e =
      let r = ltb-false (length s) (5 * (d + 1)) (simp e at ((accepted ed s d l).0 ok).0.room) in
      rw left (simp e (only_put s d (slot s (d - 1)) (omega arith) (length_slot s (d - 1) (omega (arith, stands duplicate e)))))

  -- "1 swaps": each slot has the other's five bytes, and every byte outside the two is as it was
  pub after_exchange : operation_of l ≡ exchange
      → (length (operate_of ed s d l).1 ≡ length s)
      × (slot (operate_of ed s d l).1 (d - 1) ≡ slot s (d - 2))
      × (slot (operate_of ed s d l).1 (d - 2) ≡ slot s (d - 1))
      × ((k : ℕ) → (5 * (d - 2) ≤ k → k < 5 * d → ⊥) → get_or (operate_of ed s d l).1 k 0 ≡ get_or s k 0)
  unfolding bytes_after
  after_exchange e =
      let w = stands exchange e in
      let below : 5 * (d - 2) + 5 ≤ length s = omega arith in
      let above : 5 * (d - 1) + 5 ≤ length s = omega arith in
      let s₁ = put_slot s (d - 2) (slot s (d - 1)) in
      let s₂ = put_slot s₁ (d - 1) (slot s (d - 2)) in
      let p₁ = only_put s (d - 2) (slot s (d - 1)) below (length_slot s (d - 1) above) in
      let p₂ = only_put s₁ (d - 1) (slot s (d - 2)) (omega (arith, p₁.long)) (length_slot s (d - 2) below) in
      let q : (operate_of ed s d l).1 ≡ s₂ = left ∙ simp e in
      rw q (
        p₂.long ∙ p₁.long,
        p₂.there,
        same_slot s₂ s₁ (d - 2) p₂.long (λ k h. p₂.elsewhere k (λ g g'. omega arith)) ∙ p₁.there,
        (λ k o. p₂.elsewhere k (λ g g'. o (omega arith) (omega arith)) ∙ p₁.elsewhere k (λ g g'. o (omega arith) (omega arith))),
      )

-- "A push writes its five bytes, b5 included, into slot depth, and the depth rises by one."
pub after_push : (s : List ℕ) (d : ℕ) (p : List ℕ) → push_report s d p ≡ 0
    → ((push_of s d p).0.depth ≡ d + 1) × Only s (push_of s d p).1 d p
unfolding push_of settled
after_push s d p ok = let a = fits s d p (pushable s d p ok) in simp ok (refl, only_put s d p a.0 a.1)
