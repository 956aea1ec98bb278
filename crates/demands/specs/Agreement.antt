-- Two stacks of one length whose slots below a depth are related: what holds of both, and what putting related bytes into a slot of each leaves.
use Rattle.std.specs.Prelude.{ℕ, ◌+◌, ◌*◌, ◌≤◌, ◌<◌, ◌≡◌, refl, Bool, true, false, List, eqb, length}
use Rattle.std.proofs.Common.{sym, ◌∙◌, arith, eqb-true}
use Rattle.std.proofs.lemmas.Bool.{eqb-false}
use Rattle.number.specs.declared.Number.{Number}
use Rattle.slots.specs.Slots.{slot, number_in, put_slot}
use Rattle.slots.specs.SlotLaws.{length_put_slot}
use Rattle.slots.specs.Reports.{over_limits, no_room}
use Rattle.slots.specs.SlotFacts.{length_slot, number_slot, put_slot_lem, put_other}

-- R relates the bytes of two slots, one of each stack
pub record Agree (R : List ℕ → List ℕ → Type 0) (d : ℕ) (s s' : List ℕ) : Type 0 where
  pub long : length s ≡ length s'
  pub below : (i : ℕ) → i < d → R (slot s i) (slot s' i)

-- five bytes to put into a slot of each
pub record Fives (R : List ℕ → List ℕ → Type 0) (p p' : List ℕ) : Type 0 where
  pub long : length p ≡ 5
  pub long' : length p' ≡ 5
  pub related : R p p'

module _ {R : List ℕ → List ℕ → Type 0} (d : ℕ) (s s' : List ℕ) (a : Agree R d s s') where
  pub limits_agree : over_limits s d ≡ over_limits s' d
  unfolding over_limits
  limits_agree = simp a.long

  pub room_agrees : no_room s d ≡ no_room s' d
  unfolding no_room
  room_agrees = simp a.long

  -- they agree below any lesser depth
  pub lesser : (e : ℕ) → e ≤ d → Agree R e s s'
  lesser e h = record { long = a.long; below = λ i g. a.below i (omega arith) }

  -- what holds of the numbers in related bytes holds of the numbers in the slots
  pub of_numbers : (P : Number → Number → Type 0) → ((p p' : List ℕ) → R p p' → P (number_in p 0) (number_in p' 0)) → (i : ℕ) → i < d → P (number_in s i) (number_in s' i)
  of_numbers P law i h = rw (number_slot s i, number_slot s' i) (law (slot s i) (slot s' i) (a.below i h))

  pub slots_agree : 5 * d ≤ length s → (i : ℕ) → i < d → Fives R (slot s i) (slot s' i)
  slots_agree deep i h = record { long = length_slot s i (omega arith); long' = length_slot s' i (omega (arith, a.long)); related = a.below i h }

  module _ (i : ℕ) {p p' : List ℕ} (v : Fives R p p') (room : 5 * i + 5 ≤ length s) where
    room' : 5 * i + 5 ≤ length s'
    room' = omega (arith, a.long)

    slot_after : (j : ℕ) → ((j ≡ i → ⊥) → j < d) → (b : Bool) → eqb j i ≡ b → R (slot (put_slot s i p) j) (slot (put_slot s' i p') j)
    slot_after j o true e = rw (eqb-true j i e, put_slot_lem s i room p v.long, put_slot_lem s' i room' p' v.long') v.related
    slot_after j o false e =
        let n = eqb-false j i e in
        rw (put_other s i room p v.long j n, put_other s' i room' p' v.long' j n) (a.below j (o n))

    -- they agree below e, if every slot below e is the one put or below the old depth
    put_agrees : (e : ℕ) → ((j : ℕ) → j < e → (j ≡ i → ⊥) → j < d) → Agree R e (put_slot s i p) (put_slot s' i p')
    put_agrees e o =
        record {
          long = length_put_slot s i room p v.long ∙ a.long ∙ sym (length_put_slot s' i room' p' v.long');
          below = λ j h. slot_after j (o j h) (eqb j i) refl;
        }

    -- into a slot below the depth
    pub put_below : Agree R d (put_slot s i p) (put_slot s' i p')
    put_below = put_agrees d (λ j h o. h)

  -- into the slot at the depth, which then is below the next one
  pub put_at_lem : {p p' : List ℕ} → Fives R p p' → 5 * d + 5 ≤ length s → Agree R (d + 1) (put_slot s d p) (put_slot s' d p')
  put_at_lem v room = put_agrees d v room (d + 1) (λ j h o. omega arith)
