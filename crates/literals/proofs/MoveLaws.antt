-- The three literals that move numbers as they are: each way out of their code, as a case of `operate_of`.
use Rattle.std.specs.Prelude.{ℕ, ◌+◌, ◌-◌, ◌*◌, ◌^◌, ◌%◌, ◌≤◌, ◌<◌, ◌≡◌, Bool, false, ltb, get_or}
use Rattle.std.proofs.Math.Path.{refl, sym, ap, ap₂}
use Rattle.std.proofs.Common.{◌∙◌, arith, lt-ltb, le-ltb, ltb-true, ltb-false}
use Rattle.std.proofs.Math.Bool.{true}
use mathlib.Core.List.{List}
use Rattle.std.proofs.Math.ListN.{length}
use Rattle.edition.specs.declared.Edition.{Edition}
use Rattle.number.specs.declared.Number.{Number}
use Rattle.slots.specs.Slots.{slot, bytes_of, put_slot}
use Rattle.slots.specs.SlotLaws.{length_put_slot, slot_five, bytes_of_slot}
use Rattle.slots.specs.Reports.{over_limits, no_room}
use Rattle.slots.specs.LimitLaws.{Within, within_of}
use Rattle.slots.specs.Reach.{lacking, refusal_of, number_at, put_at}
use Rattle.slots.specs.ReachLaws.{has, enough, lacking_over, lacking_few, lacking_same, number_at_lem, put_there, put_slot_there}
use Rattle.literals.specs.Literals.{exchange, delete, duplicate, row, row_of}
use Rattle.literals.specs.Reports.{not_in_table, no_room_for, malformed_operand, too_big}
use Rattle.literals.specs.Operate.{outcome, bytes_after, operate_of}
use Rattle.literals.proofs.WayLaws.{way_lacking, way_no_room, way_done}

exchanges : row_of 1 ≡ row 1 exchange 2 2
unfolding row_of
exchanges = refl

deletes : row_of 2 ≡ row 2 delete 1 0
unfolding row_of
deletes = refl

duplicates : row_of 49 ≡ row 49 duplicate 1 2
unfolding row_of
duplicates = refl

module _ (ed : Edition) (s : List ℕ) (d : ℕ) where
  abbrev Bytes : Type 0
  Bytes = (k : ℕ) → get_or s k 0 < 256

  pub exchange_lacking : lacking s d 2 ≡ true → (q : ℕ) → q ≡ refusal_of s d 2 → operate_of ed s d 1 ≡ (outcome q d, s)
  unfolding not_in_table
  exchange_lacking = way_lacking ed s d 1 exchange 2 2 exchanges refl

  -- both numbers are read before either is put in the other's place
  pub exchange_done : Bytes → lacking s d 2 ≡ false → operate_of ed s d 1 ≡ (outcome 0 d, put_at (put_at s d 1 (number_at s d 0)) d 0 (number_at s d 1))
  unfolding not_in_table no_room_for malformed_operand too_big bytes_after
  exchange_done b a =
      let h = has s d 2 a in
      let a1 = enough s d 1 h.0 (omega (arith, h)) in
      let same : d - 2 + 2 ≡ d = omega (arith, h) in
      let i2 : 5 * (d - 2) + 5 ≤ length s = omega (arith, h.0.deep, h.1) in
      let i1 : 5 * (d - 1) + 5 ≤ length s = omega (arith, h.0.deep, h.1) in
      let inner : put_at s d 1 (number_at s d 0) ≡ put_slot s (d - 2) (slot s (d - 1)) =
      ap (put_at s d 1) (number_at_lem s d 0 a1) ∙ put_slot_there s d 1 (d - 1) b i1 a in
      let t = put_slot s (d - 2) (slot s (d - 1)) in
      let long : length t ≡ length s = length_put_slot s (d - 2) i2 (slot s (d - 1)) (ap length (slot_five s (d - 1) i1)) in
      let outer : put_at t d 0 (number_at s d 1) ≡ put_slot t (d - 1) (slot s (d - 2)) =
      put_there t d 0 (number_at s d 1) (lacking_same s t d 1 long ∙ a1)
      ∙ ap (λ (n : Number). put_slot t (d - 1) (bytes_of n)) (number_at_lem s d 1 a)
      ∙ ap (put_slot t (d - 1)) (bytes_of_slot s (d - 2) i2 b) in
      way_done ed s d 1 exchange 2 2 exchanges refl h.0 h.1 refl refl refl
      ∙ ap₂ (λ (p : ℕ) (u : List ℕ). (outcome 0 p, u)) same (sym (ap (λ (u : List ℕ). put_at u d 0 (number_at s d 1)) inner ∙ outer))

  pub delete_lacking : lacking s d 1 ≡ true → (q : ℕ) → q ≡ refusal_of s d 1 → operate_of ed s d 2 ≡ (outcome q d, s)
  unfolding not_in_table
  delete_lacking = way_lacking ed s d 2 delete 1 0 deletes refl

  pub delete_done : lacking s d 1 ≡ false → operate_of ed s d 2 ≡ (outcome 0 (d - 1 + 0), s)
  unfolding not_in_table no_room_for malformed_operand too_big bytes_after
  delete_done a = let h = has s d 1 a in way_done ed s d 2 delete 1 0 deletes refl h.0 h.1 refl refl refl

  -- The depth after a duplicate is a machine word, which may have wrapped.
  module _ (after : ℕ) (e : after ≡ (d + 1) % 2 ^ 64) where
    pub duplicate_lacking : lacking s after 2 ≡ true → (q : ℕ) → q ≡ refusal_of s d 1 → operate_of ed s d 49 ≡ (outcome q d, s)
    unfolding not_in_table no_room_for refusal_of no_room
    duplicate_lacking a q i = go (over_limits s d) (ltb d 1) refl refl
      where
        lower : lacking s d 1 ≡ true → operate_of ed s d 49 ≡ (outcome q d, s)
        lower l = way_lacking ed s d 49 duplicate 1 2 duplicates refl l q i

        go : (b c : Bool) → over_limits s d ≡ b → ltb d 1 ≡ c → operate_of ed s d 49 ≡ (outcome q d, s)
        go true c j k = lower (lacking_over s d 1 j)
        go false true j k = lower (lacking_few s d 1 (ltb-true d 1 k))
        go false false j k =
            let w = within_of s d j in
            let four : q ≡ 4 = i ∙ simp (j, k) in
            let over : ¬ (5 * (d + 1) ≤ length s) = λ f. absurd (let z : ◌≡◌ {A = ℕ} 0 1 = cc (a, enough s after 2 (record { short = w.short; deep = omega (arith, e, w.short, w.deep) }) (omega (arith, e, w.short, w.deep, ltb-false d 1 k))) in omega arith) in
            way_no_room ed s d 49 duplicate 1 2 duplicates refl w (ltb-false d 1 k) (lt-ltb (length s) (5 * (d + 1)) (omega (arith, over)))
            ∙ ap (λ (p : ℕ). (outcome p d, s)) (sym four)

    pub duplicate_done : Bytes → d < 2 ^ 64 → lacking s after 2 ≡ false → operate_of ed s d 49 ≡ (outcome 0 after, put_at s after 0 (number_at s after 1))
    unfolding not_in_table no_room_for malformed_operand too_big bytes_after no_room
    duplicate_done b l a =
        let h = has s after 2 a in
        let a1 = enough s after 1 h.0 (omega (arith, h)) in
        let next : after ≡ d + 1 = omega (arith, e, h) in
        let w : Within s d = record { short = h.0.short; deep = omega (arith, next, h.0.deep) } in
        let is : d - 1 + 2 ≡ after = omega (arith, next, h) in
        let top : d ≡ after - 1 = omega (arith, next) in
        let below : d - 1 ≡ after - 2 = omega (arith, next) in
        way_done ed s d 49 duplicate 1 2 duplicates refl w (omega (arith, next, h)) (le-ltb (length s) (5 * (d + 1)) (omega (arith, next, h.0.deep))) refl refl
        ∙ ap₂ (λ (p : ℕ) (t : List ℕ). (outcome 0 p, t)) is
        (ap₂ (λ (i j : ℕ). put_slot s i (slot s j)) top below
        ∙ sym (ap (put_at s after 0) (number_at_lem s after 1 a) ∙ put_slot_there s after 0 (after - 2) b (omega (arith, h.0.deep, h.1)) a1))
