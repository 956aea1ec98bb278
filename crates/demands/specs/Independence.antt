-- What a relation of slots has to fulfil for no answer to depend on what it leaves open, and what an operation then leaves: on two stacks that agree
-- below the depth, what it checks is the same, and what it leaves below the new depth agrees.
use Rattle.std.specs.Prelude.{ℕ, ◌+◌, ◌-◌, ◌*◌, ◌≤◌, ◌<◌, ◌≡◌, false, List, length, Some, None}
use Rattle.ending.specs.Ending.{Answer}
use Rattle.std.proofs.Math.Path.{refl, ap₂}
use Rattle.std.proofs.Math.Bool.{◌||◌}
use native.Mathlib.Omega.{arith}
use borrow.Author.Tests.{ltb-false}
use Rattle.edition.specs.declared.Edition.{Edition}
use Rattle.number.specs.declared.Number.{Number}
use Rattle.slots.specs.Slots.{slot, number_in, bytes_of, top, lower}
use Rattle.slots.specs.SlotLaws.{length_put_slot}
use Rattle.slots.specs.Reports.{no_room}
use Rattle.literals.specs.Literals.{Operation, exchange, delete, duplicate, one, two, unknown, operation_of}
use Rattle.literals.specs.Reports.{no_room_for, malformed_in, malformed_operand, is_too_big, too_big}
use Rattle.literals.specs.Operate.{stored, bytes_after}
use Rattle.display.specs.Cell.{number_shown}
use Rattle.demands.specs.Counts.{takes_of, leaves_of}
use Rattle.demands.specs.Agreement.{Agree, room_agrees, lesser, slots_agree, of_numbers, put_below, put_at_lem}

-- two answers: numbers that are related, or both too big
pub data Answers (N : Number → Number → Type 0) : Answer → Answer → Type 0 where
  done : {n m : Number} → N n m → Answers N (Some n) (Some m)
  both_too_big : Answers N None None

-- numbers whose five bytes are related
abbrev pub InBytes : (List ℕ → List ℕ → Type 0) → Number → Number → Type 0
InBytes R n m = R (bytes_of n) (bytes_of m)

-- An operation keeps a relation: of related slots its arithmetic gives related answers, in either edition. Those without arithmetic move whole slots, or none.
abbrev pub Kept : (List ℕ → List ℕ → Type 0) → Operation → Type 0
Kept R (one f) = (ed : Edition) (p p' : List ℕ) → R p p' → Answers (InBytes R) (f ed (number_in p 0)) (f ed (number_in p' 0))
Kept R (two f) = (ed : Edition) (p p' q q' : List ℕ) → R p p' → R q q' → Answers (InBytes R) (f ed (number_in p 0) (number_in q 0)) (f ed (number_in p' 0) (number_in q' 0))
Kept R exchange = Unit
Kept R delete = Unit
Kept R duplicate = Unit
Kept R unknown = Unit

-- Every slot is related to itself; related slots are malformed alike in either edition, and shown alike; and every literal keeps the relation.
pub record Carried (R : List ℕ → List ℕ → Type 0) : Type 0 where
  pub same : (p : List ℕ) → R p p
  pub forms : (ed : Edition) (p p' : List ℕ) → R p p' → malformed_in ed (number_in p 0) ≡ malformed_in ed (number_in p' 0)
  pub cells : (p p' : List ℕ) → R p p' → number_shown (number_in p 0) ≡ number_shown (number_in p' 0)
  pub operations : (l : ℕ) → Kept R (operation_of l)

-- ---- answers

pub answers_same : {N : Number → Number → Type 0} → ((n : Number) → N n n) → (v v' : Answer) → v ≡ v' → Answers N v v'
answers_same {N} same v v' e = rw e (go v')
  where
    go : (w : Answer) → Answers N w w
    go (Some n) = done (same n)
    go None = both_too_big

pub too_big_same : {N : Number → Number → Type 0} {v v' : Answer} → Answers N v v' → is_too_big v ≡ is_too_big v'
unfolding is_too_big
too_big_same (done r) = refl
too_big_same both_too_big = refl

-- ---- an operation

module _ (ed : Edition) {R : List ℕ → List ℕ → Type 0} (c : Carried R) (d : ℕ) (s s' : List ℕ) (a : Agree R d s s') where
  stored_agrees : (i : ℕ) {v v' : Answer} → Answers (InBytes R) v v' → 5 * i + 5 ≤ length s → Agree R d (stored s i v) (stored s' i v')
  unfolding stored bytes_of
  stored_agrees i (done r) room = put_below d s s' a i (record { long = refl; long' = refl; related = r }) room
  stored_agrees i both_too_big room = a

  answers_one : (f : Edition → Number → Answer) → Kept R (one f) → 1 ≤ d → Answers (InBytes R) (f ed (top s d)) (f ed (top s' d))
  answers_one f k h = of_numbers d s s' a (λ x x'. Answers (InBytes R) (f ed x) (f ed x')) (k ed) (d - 1) (omega arith)

  answers_two : (f : Edition → Number → Number → Answer) → Kept R (two f) → 2 ≤ d → Answers (InBytes R) (f ed (lower s d) (top s d)) (f ed (lower s' d) (top s' d))
  answers_two f k h =
      of_numbers d s s' a (λ x x'. Answers (InBytes R) (f ed x (top s d)) (f ed x' (top s' d))) (λ p p' r.
      of_numbers d s s' a (λ y y'. Answers (InBytes R) (f ed (number_in p 0) y) (f ed (number_in p' 0) y')) (λ q q' t. k ed p p' q q' r t) (d - 1) (omega arith))
      (d - 2) (omega arith)

  form_same : (i : ℕ) → i < d → malformed_in ed (number_in s i) ≡ malformed_in ed (number_in s' i)
  form_same = of_numbers d s s' a (λ x x'. malformed_in ed x ≡ malformed_in ed x') (c.forms ed)

  -- the three rows that look at the stack, by what the operation takes
  pub rows_same : (o : Operation) → Kept R o → takes_of o ≤ d
      → (no_room_for o s d ≡ no_room_for o s' d) × (malformed_operand ed o s d ≡ malformed_operand ed o s' d) × (too_big ed o s d ≡ too_big ed o s' d)
  unfolding no_room_for malformed_operand too_big
  rows_same exchange k h = (refl, refl, refl)
  rows_same delete k h = (refl, refl, refl)
  rows_same duplicate k h = (room_agrees d s s' a, refl, refl)
  rows_same (one f) k h = (refl, form_same (d - 1) (omega arith), too_big_same (answers_one f k h))
  rows_same (two f) k h = (refl, ap₂ ◌||◌ (form_same (d - 2) (omega arith)) (form_same (d - 1) (omega arith)), too_big_same (answers_two f k h))
  rows_same unknown k h = (refl, refl, refl)

  -- the bytes
  pub bytes_agree : 5 * d ≤ length s → (o : Operation) → Kept R o → takes_of o ≤ d → no_room_for o s d ≡ false
      → Agree R (d - takes_of o + leaves_of o) (bytes_after ed o s d) (bytes_after ed o s' d)
  unfolding bytes_after no_room_for no_room
  bytes_agree deep exchange k h r =
      let e : d - 2 + 2 ≡ d = omega arith in
      let t = slots_agree d s s' a deep (d - 1) (omega arith) in
      let w = slots_agree d s s' a deep (d - 2) (omega arith) in
      let l = length_put_slot s (d - 2) (omega arith) (slot s (d - 1)) t.long in
      rw e (put_below d _ _ (put_below d s s' a (d - 2) t (omega arith)) (d - 1) w (omega arith))
  bytes_agree deep delete k h r = lesser d s s' a _ (omega arith)
  bytes_agree deep duplicate k h r =
      let e : d - 1 + 2 ≡ d + 1 = omega arith in
      rw e (put_at_lem d s s' a (slots_agree d s s' a deep (d - 1) (omega arith)) (omega (arith, ltb-false (length s) (5 * (d + 1)) r)))
  bytes_agree deep (one f) k h r = let e : d - 1 + 1 ≡ d = omega arith in rw e (stored_agrees (d - 1) (answers_one f k h) (omega arith))
  bytes_agree deep (two f) k h r = lesser d _ _ (stored_agrees (d - 2) (answers_two f k h) (omega arith)) _ (omega arith)
  bytes_agree deep unknown k h r = lesser d s s' a _ (omega arith)
