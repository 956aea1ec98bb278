-- `malformed_at` meets its contract: each way out is a law of `malformed`, by the first two bytes of the slot.
use Rattle.std.proofs.Common.{Bool, List, ap, arith, eqb, eqb-true, false, get_or, not, refl, sym, true, ℕ, ◌*◌, ◌+◌, ◌-◌, ◌<◌, ◌∙◌, ◌≡◌}
use borrow.Author.Tests.{eqb-false}
use Rattle.number.specs.Number.{malformed}
use Rattle.number.specs.FormLaws.{malformed_full, malformed_short, malformed_between, malformed_negative}
use Rattle.slots.specs.Slots.{number_in}
use Rattle.slots.specs.Reach.{lacking, number_at}
use Rattle.slots.specs.ReachLaws.{has, none_at, number_at_lem}
use Rattle.places.proofs.malformed_at.Goals as goal
use Rattle.places.proofs.malformed_at.Goals.{Else-lacks}

module _ (s : List ℕ) (d k : ℕ) (l : lacking s d (k + 1) ≡ false) where
  abbrev byte : ℕ → ℕ
  byte j = get_or s (5 * (d - (k + 1)) + j) 0

  full : (get_or s (5 * (d - (k + 1))) 0 ≡ 0 → ⊥) → malformed (number_at s d k) ≡ false
  unfolding number_in
  full h = ap malformed (number_at_lem s d k l) ∙ malformed_full _ h

  module _ (b : (j : ℕ) → get_or s j 0 < 256) (h : get_or s (5 * (d - (k + 1))) 0 ≡ 0) where
    below : byte 2 < 256 × byte 3 < 256 × byte 4 < 256
    below = (b _, b _, b _)

    positive : byte 1 ≡ 0 → malformed (number_at s d k) ≡ false
    unfolding number_in
    positive g = ap malformed (number_at_lem s d k l) ∙ malformed_short _ h (omega (arith, below))

    by_b2 : (byte 1 ≡ 0 → ⊥) → (t : Bool) → eqb (byte 1) 255 ≡ t → not t ≡ malformed (number_at s d k)
    unfolding number_in
    by_b2 g true e =
        let n = eqb-true (byte 1) 255 e in
        sym (ap malformed (number_at_lem s d k l) ∙ malformed_negative _ h (omega arith) (omega (arith, below)))
    by_b2 g false e =
        let n = eqb-false (byte 1) 255 e in
        let m = b (5 * (d - (k + 1)) + 1) in
        sym (ap malformed (number_at_lem s d k l) ∙ malformed_between _ h (omega arith) (omega (arith, below)))

-- the stack has the number, and its bytes are bytes
there : (c : Else-lacks) → lacking c.args.stack.now c.args.depth (c.args.above + 1) ≡ false
there c = sym c.lacks.ensures ∙ c.if-lacks.false

bytes : (c : Else-lacks) (j : ℕ) → get_or c.args.stack.now j 0 < 256
bytes c j = omega (arith, c.shared_slice_known-1.given j)

pub returns-then-lacks : goal.returns-then-lacks
returns-then-lacks c = sym (ap malformed (none_at _ _ _ (sym c.lacks.ensures ∙ c.if-lacks.true)) ∙ malformed_short _ refl (omega arith))

pub overflow_sub-at : goal.overflow_sub-at
overflow_sub-at c = omega (arith, has _ _ _ (there c))

pub overflow_mul-at : goal.overflow_mul-at
overflow_mul-at c = omega (arith, has _ _ _ (there c))

pub bounds-stack-at : goal.bounds-stack-at
bounds-stack-at c = omega (arith, has _ _ _ (there (goal.at.bounds-stack-at c).Else-lacks))

pub returns-then-stack-at-ne0 : goal.returns-then-stack-at-ne0
returns-then-stack-at-ne0 c = sym (full _ _ _ (there (goal.at.returns-then-stack-at-ne0 c).Else-lacks) c.if-stack-at-ne0.true)

pub overflow_add-b2 : goal.overflow_add-b2
overflow_add-b2 c = omega (arith, has _ _ _ (there (goal.at.overflow_add-b2 c).Else-lacks))

pub bounds-stack-at-2 : goal.bounds-stack-at-2
bounds-stack-at-2 c = omega (arith, has _ _ _ (there (goal.at.bounds-stack-at-2 c).Else-lacks))

pub returns-then-b2-eq0 : goal.returns-then-b2-eq0
returns-then-b2-eq0 c = sym (positive _ _ _ (there (goal.at.returns-then-b2-eq0 c).Else-lacks) (bytes (goal.at.returns-then-b2-eq0 c).Else-lacks) c.if-stack-at-ne0.false c.if-b2-eq0.true)

pub returns : goal.returns
returns c = by_b2 _ _ _ (there (goal.at.returns c).Else-lacks) (bytes (goal.at.returns c).Else-lacks) c.if-stack-at-ne0.false c.if-b2-eq0.false _ refl
