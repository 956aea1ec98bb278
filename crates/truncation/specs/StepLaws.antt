-- Int of a negative number with exponent byte 145 to 159: less 1, one is added to its magnitude, at bit 160 - b1.
use Rattle.std.specs.Prelude.{ℕ, suc, ◌+◌, ◌*◌, ◌-◌, ◌^◌, ◌/◌, ◌≤◌, ◌<◌, ◌≡◌, refl, ◌⊎◌, Bool, true, false, ltb, eqb, ℤ, ◌+ℤ◌, Some}
use Rattle.std.proofs.Common.{sym, ◌∙◌, ap, ap₂, inl, inr, le-ltb, ltb-true, ltb-false, eqb-true, eq-zero-or-pos, le_trans, le_of_eq, arith, pow-add, pow_pos, pow_mono}
use Rattle.std.proofs.lemmas.Bool.{eqb-false}
use Rattle.std.proofs.Math.Nat.{div-eq_of_lt, add-mul-div_right}
use Rattle.std.specs.Int.Count.{count_leading_zeros}
use Rattle.edition.specs.declared.Edition.{Edition}
use Rattle.number.specs.declared.Number.{Number}
use Rattle.number.specs.Number.{form_of, sign, low, mantissa, full_of, passes_zero_test}
use Rattle.number.specs.NumberLaws.{Bytes}
use Rattle.number.specs.Value.{signed}
use Rattle.number.specs.Restack.{full_of_short, restacked}
use Rattle.number.specs.Negate.{negated}
use Rattle.ending.specs.Ending.{loose}
use Rattle.ending.proofs.EndingLaws.{closed_stored, ended_set}
use Rattle.addition.specs.Addition.{ended_sum, difference_of}
use Rattle.addition.specs.SignedLaws.{same_sign}
use Rattle.addition.specs.AdditionLaws.{shifted_by}
use Rattle.addition.proofs.AdditionLaws.{sum_ended, sum_stored}
use Rattle.truncation.specs.Truncate.{taken65536, cleared}
use Rattle.truncation.specs.BitLaws.{split, cleared_le, Cleared, cleared_word, dropped_lt}
use Rattle.truncation.specs.Int.{short_one, int_of}
use Rattle.truncation.specs.IntLaws.{int_positive, int_short, int_odd, minus_one}
use Rattle.truncation.specs.FloorLaws.{full_less, Cut, cut_short, cut_full, short_up, short_least, int_small, int_taken, int_large}

-- 2^31 moved down by j places; the half that is added is lost again
one_moved : (j : ℕ) → j ≤ 31 → shifted_by 1 (2 ^ 31) j ≡ 2 ^ (31 - j)
one_moved j g =
    let parts = split 1 32 (31 - j) (j + 1) (omega arith) in
    let all : 2 * 2 ^ 31 + 2 ^ j - 1 ≡ 2 ^ j - 1 + 2 ^ (31 - j) * 2 ^ (j + 1) = omega (arith, pow_pos j) in
    let none : (2 ^ j - 1) / 2 ^ (j + 1) ≡ 0 = div-eq_of_lt (omega (arith, pow_pos j, pow-add 2 j 1)) in
    simp (le-ltb 32 j (omega arith))
    (ap (λ (n : ℕ). n / 2 ^ (j + 1)) all ∙ add-mul-div_right (2 ^ j - 1) (2 ^ (31 - j)) (pow_pos (j + 1)) ∙ ap (λ (n : ℕ). n + 2 ^ (31 - j)) none ∙ omega arith)

one_opposite : restacked (negated short_one) ≡ minus_one
unfolding negated form_of passes_zero_test restacked full_of_short count_leading_zeros
one_opposite = refl

module _ (ed : Edition) (t : Number) (s : sign t ≡ 1) (h : 145 ≤ t.b1) (g : t.b1 < 160) where
  abbrev more : ℕ
  more = mantissa t + 2 ^ (160 - t.b1)

  sum : difference_of ed t short_one ≡ ended_sum (signed 1 more) t.b1
  sum =
      let places : 31 - (t.b1 - 129) ≡ 160 - t.b1 = omega arith in
      full_less ed t short_one minus_one (omega arith) one_opposite (omega arith) (omega arith) (omega arith)
      ∙ ap₂ (λ (v w : ℤ). ended_sum (v +ℤ w) t.b1) (ap (λ (i : ℕ). signed i (mantissa t)) s)
      (ap (signed 1) (one_moved (t.b1 - 129) (omega arith) ∙ ap (λ (n : ℕ). 2 ^ n) places))
      ∙ ap (λ (z : ℤ). ended_sum z t.b1) (same_sign 1 (mantissa t) (2 ^ (160 - t.b1)))

  pub full_less_one : more < 2 ^ 32 → difference_of ed t short_one ≡ Some (full_of 1 t.b1 more)
  full_less_one f =
      let e : t.b1 + 256 - 256 ≡ t.b1 = omega arith in
      let r : more + 0 ≡ more = omega arith in
      sum
      ∙ sum_ended 1 more t.b1 (omega arith) f
      ∙ ended_set 1 more (t.b1 + 256) 0 (omega arith)
      ∙ closed_stored 1 (loose more (t.b1 + 256) 0) (omega arith) (omega arith)
      ∙ ap₂ (λ (i n : ℕ). Some (full_of 1 i n)) e r

  pub full_less_one_carried : 2 ^ 32 ≤ more → more + 1 < 2 ^ 33 → difference_of ed t short_one ≡ Some (full_of 1 (t.b1 + 1) (more / 2))
  full_less_one_carried f l =
      let r : (more + 1 - 1) / 2 ≡ more / 2 = omega arith in
      sum ∙ sum_stored 1 more t.b1 (omega arith) f (omega arith) (omega arith) ∙ ap (λ (n : ℕ). Some (full_of 1 (t.b1 + 1) n)) r

module _ (ed : Edition) (x : Number) (b : Bytes x) (s : sign x ≡ 1) (h : 145 ≤ x.b1) (g : x.b1 < 160) (t : taken65536 ed x ≡ false) where
  abbrev k : ℕ
  k = 160 - x.b1

  abbrev whole : Number
  whole = record { b1 = x.b1; word = cleared k x.word }

  cuts : Cut ed x b s (omega arith) whole
  cuts = cut_full ed x b s (omega arith) h g t

  kept : Cleared x.word k
  kept = cleared_word x.word k (omega arith)

  pub int_same : cleared k (mantissa x) ≡ mantissa x → int_of ed x ≡ Some x
  int_same e = cuts.whole e ∙ ap (λ (w : ℕ). Some (record { b1 = x.b1; word = w })) (kept.same e)

  module _ (p : cleared k (mantissa x) ≡ mantissa x → ⊥) where
    abbrev raised : ℕ
    raised = cleared k (mantissa x) + 2 ^ k

    equal : mantissa whole + 2 ^ k ≡ raised
    equal = ap (λ (m : ℕ). m + 2 ^ k) kept.mantissa

    pub int_up : raised < 2 ^ 32 → int_of ed x ≡ Some (full_of 1 x.b1 raised)
    int_up f =
        cuts.part p ∙ full_less_one ed whole (kept.sign ∙ s) h g (le_trans (le_of_eq (ap suc equal)) f) ∙ ap (λ (m : ℕ). Some (full_of 1 x.b1 m)) equal

    pub int_up_carried : 2 ^ 32 ≤ raised → raised + 1 < 2 ^ 33 → int_of ed x ≡ Some (full_of 1 (x.b1 + 1) (raised / 2))
    int_up_carried f l =
        cuts.part p
        ∙ full_less_one_carried ed whole (kept.sign ∙ s) h g (le_trans f (le_of_eq (sym equal))) (le_trans (le_of_eq (ap (λ (n : ℕ). suc (n + 1)) equal)) l)
        ∙ ap (λ (m : ℕ). Some (full_of 1 (x.b1 + 1) (m / 2))) equal

-- Int is never too big: each of its cases gives a number.
pub int_done : (ed : Edition) (x : Number) → Bytes x → (n : Number) × (int_of ed x ≡ Some n)
int_done ed x b = go (eq-zero-or-pos (sign x)) (eq-zero-or-pos x.b1) (eq-zero-or-pos (low x))
  where
    full : sign x ≡ 1 → 0 < x.b1 → (a c e t w r : Bool) → ltb x.b1 129 ≡ a → ltb x.b1 145 ≡ c → ltb x.b1 160 ≡ e → taken65536 ed x ≡ t
        → eqb (cleared (160 - x.b1) (mantissa x)) (mantissa x) ≡ w → ltb (cleared (160 - x.b1) (mantissa x) + 2 ^ (160 - x.b1)) (2 ^ 32) ≡ r
        → (n : Number) × (int_of ed x ≡ Some n)
    full s f true c e t w r p q u v y z = (_, int_small ed x b s f (ltb-true _ _ p))
    full s f false true e t true r p q u v y z = (_, (cut_short ed x b s f (ltb-false _ _ p) (ltb-true _ _ q)).whole (eqb-true _ _ y))
    full s f false true e t false r p q u v y z = up (ltb (mantissa x / 2 ^ (160 - x.b1)) 65535) refl
      where
        up : (c : Bool) → ltb (mantissa x / 2 ^ (160 - x.b1)) 65535 ≡ c → (n : Number) × (int_of ed x ≡ Some n)
        up true c = (_, short_up ed x b s f (ltb-false _ _ p) (ltb-true _ _ q) (eqb-false _ _ y) (ltb-true _ _ c))
        up false c =
            let most = dropped_lt (mantissa x) (160 - x.b1) (omega arith) (omega (arith, ltb-true x.b1 145 q)) in
            (_, short_least ed x b s f (ltb-false _ _ p) (ltb-true _ _ q) (eqb-false _ _ y) (omega (arith, ltb-false (mantissa x / 2 ^ (160 - x.b1)) 65535 c)))
    full s f false false true true w r p q u v y z = (_, int_taken ed x b s f v)
    full s f false false true false true r p q u v y z = (_, int_same ed x b s (ltb-false _ _ q) (ltb-true _ _ u) v (eqb-true _ _ y))
    full s f false false true false false true p q u v y z = (_, int_up ed x b s (ltb-false _ _ q) (ltb-true _ _ u) v (eqb-false _ _ y) (ltb-true _ _ z))
    full s f false false true false false false p q u v y z =
        let m = cleared_le (mantissa x) (160 - x.b1) in
        let one = pow_mono {i = 160 - x.b1} {j = 31} (omega (arith, ltb-false x.b1 145 q)) in
        (_, int_up_carried ed x b s (ltb-false _ _ q) (ltb-true _ _ u) v (eqb-false _ _ y) (ltb-false _ _ z) (omega arith))
    full s f false false false t w r p q u v y z = (_, int_large ed x b s f (ltb-false _ _ u))

    go : (sign x ≡ 0) ⊎ (0 < sign x) → (x.b1 ≡ 0) ⊎ (0 < x.b1) → (low x ≡ 0) ⊎ (0 < low x) → (n : Number) × (int_of ed x ≡ Some n)
    go (inl z) h l = (_, int_positive ed x z)
    go (inr z) (inl h) (inl l) = (_, int_odd ed x b h (omega arith) l)
    go (inr z) (inl h) (inr l) = (_, int_short ed x b h (omega arith) l)
    go (inr z) (inr h) l = full (omega arith) h _ _ _ _ _ _ refl refl refl refl refl refl
