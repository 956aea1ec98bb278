-- A sum of two short numbers that is beyond them is exact: it has seventeen digits, and the full route makes of them the full number that has all of these.
use Rattle.std.specs.Prelude.{◌≡◌, ℕ, ◌+◌, ◌-◌, ◌*◌, ◌/◌, ◌%◌, ◌^◌, ◌<◌, ◌≤◌, max, Bool, true, false, ℤ, ◌+ℤ◌, nat_le, refl, Some}
use Rattle.std.proofs.Common.{sym, ◌∙◌, ap, ap₂, subst, mul_assoc, mul_right_comm, arith, eq-eqb, ne_eqb, leb-true, leb-false, pow_pos, pow-add}
use Rattle.std.specs.Int.Count.{count_leading_zeros}
use Rattle.std.proofs.Math.Pow.{high}
use Rattle.number.specs.declared.Number.{Number}
use Rattle.number.specs.Number.{number, sign, full_of, low, complement_of, short_magnitude}
use Rattle.number.specs.NumberLaws.{magnitude_lt}
use Rattle.number.specs.Value.{signed}
use Rattle.number.specs.LeadingZeros.{places_are, zeros_of}
use Rattle.number.specs.Restack.{full_of_short}
use Rattle.number.proofs.RestackLaws.{restack_some}
use Rattle.number.proofs.RestackValueLaws.{full_of_short_lem}
use Rattle.addition.specs.Addition.{signed_mantissa, aligned, ended_sum, aligned_sum, full_route}
use Rattle.addition.specs.SignedLaws.{same_sign}
use Rattle.addition.proofs.AdditionLaws.{moved_within, sum_stored}

-- v with k + 16 zeros above it, moved k places down: no digit is lost
unmoved_digits : (s v k : ℕ) → s < 2 → (2 * (v * 2 ^ (k + 16)) + 2 ^ k - s) / 2 ^ (k + 1) ≡ v * 2 ^ 16
unmoved_digits s v k h =
    let q = v * 2 ^ k in
    let some = pow_pos k in
    let next : 2 ^ (k + 1) ≡ 2 ^ k * 2 = pow-add 2 k 1 in
    let up : v * 2 ^ (k + 16) ≡ q * 2 ^ 16 = ap (λ (n : ℕ). v * n) (pow-add 2 k 16) ∙ sym (mul_assoc v (2 ^ k) (2 ^ 16)) in
    let down : v * 2 ^ 16 * 2 ^ (k + 1) ≡ q * 2 * 2 ^ 16 = mul_right_comm v (2 ^ 16) (2 ^ (k + 1)) ∙ ap (λ (n : ℕ). n * 2 ^ 16) (ap (λ (n : ℕ). v * n) next ∙ sym (mul_assoc v (2 ^ k) 2)) in
    let split : 2 * (v * 2 ^ (k + 16)) + 2 ^ k - s ≡ v * 2 ^ 16 * 2 ^ (k + 1) + (2 ^ k - s) = omega arith in
    ap (λ (n : ℕ). n / 2 ^ (k + 1)) split ∙ high (v * 2 ^ 16) (k + 1) (omega arith)

-- the full number that stands for v, aligned to the exponent byte 144, that of sixteen digits
at_144 : (s v : ℕ) → s < 2 → 0 < v → v < 2 ^ 16 → aligned (144 - (full_of_short s v).b1) (signed_mantissa (full_of_short s v)) ≡ signed s (v * 2 ^ 16)
unfolding full_of_short
at_144 s v h p l =
    let y = full_of_short s v in
    let z = count_leading_zeros 32 v in
    let zs = zeros_of v p l in
    let st = full_of_short_lem s v h p l in
    let k = z - 16 in
    let places : 144 - (160 - z) ≡ k = omega arith in
    let all : z ≡ k + 16 = omega arith in
    simp (ne_eqb y.b1 0 (omega arith))
    (ap₂ (λ (i j : ℕ). aligned (144 - (160 - z)) (signed i j)) st.signs st.exact
    ∙ ap₂ (λ (i j : ℕ). aligned i (signed s (v * 2 ^ j))) places all
    ∙ moved_within s (v * 2 ^ (k + 16)) k h (omega arith)
    ∙ ap (signed s) (unmoved_digits s v k h))

beyond_exact : (s v w : ℕ) → s < 2 → 0 < v → v < 2 ^ 16 → 0 < w → w < 2 ^ 16 → 2 ^ 16 ≤ v + w
    → aligned_sum (full_of_short s v) (full_of_short s w) ≡ Some (full_of s 145 ((v + w) * 2 ^ 15))
unfolding aligned_sum full_of_short
beyond_exact s v w h p l q m g =
    let x = full_of_short s v in
    let y = full_of_short s w in
    let half : (v * 2 ^ 16 + w * 2 ^ 16 + 1 - s) / 2 ≡ (v + w) * 2 ^ 15 = omega arith in
    ap (λ (e : ℕ). ended_sum (aligned (e - x.b1) (signed_mantissa x) +ℤ aligned (e - y.b1) (signed_mantissa y)) e) (longest (nat_le (2 ^ 15) v) refl)
    ∙ ap₂ (λ (i j : ℤ). ended_sum (i +ℤ j) 144) (at_144 s v h p l) (at_144 s w h q m)
    ∙ ap (λ (i : ℤ). ended_sum i 144) (same_sign s (v * 2 ^ 16) (w * 2 ^ 16))
    ∙ sum_stored s (v * 2 ^ 16 + w * 2 ^ 16) 144 h (omega arith) (omega arith) (omega arith)
    ∙ ap (λ (n : ℕ). Some (full_of s 145 n)) half
  where
    -- one of the two has sixteen digits
    longest : (t : Bool) → nat_le (2 ^ 15) v ≡ t → max (160 - count_leading_zeros 32 v) (160 - count_leading_zeros 32 w) ≡ 144
    longest true e = let a = leb-true _ v e in omega (arith, zeros_of v p l, zeros_of w q m, places_are 31 v 16 p (omega arith) (omega arith) (omega arith))
    longest false e = let a = leb-false _ v e in omega (arith, zeros_of v p l, zeros_of w q m, places_are 31 w 16 q (omega arith) (omega arith) (omega arith))

-- of two numbers whose b1 is 0, neither of which counts as zero
short_exact : (x y : Number) (v w : ℕ) → x.b1 ≡ 0 → y.b1 ≡ 0 → sign x < 2 → sign y ≡ sign x → short_magnitude x ≡ v → short_magnitude y ≡ w → 0 < v → 0 < w → 2 ^ 16 ≤ v + w
    → full_route x y ≡ Some (full_of (sign x) 145 ((v + w) * 2 ^ 15))
unfolding full_route
short_exact x y v w f g h e i j p q l =
    ap₂ aligned_sum (restack_some x f (omega arith) ∙ ap (full_of_short (sign x)) i) (restack_some y g (omega arith) ∙ ap₂ full_of_short e j)
    ∙ beyond_exact (sign x) v w h p (omega (arith, magnitude_lt x)) q (omega (arith, magnitude_lt y)) l

word_positive : (w : ℕ) → w < 2 ^ 16 → full_of 0 145 ((w + 2 ^ 16) * 2 ^ 15) ≡ number 145 (w * 2 ^ 15)
word_positive w l = ap (number 145) (omega arith)

word_negative : (w : ℕ) → 0 < w → w < 2 ^ 16 → full_of 1 145 ((131072 - w) * 2 ^ 15) ≡ number 145 ((2 ^ 32 - w * 2 ^ 15) % 2 ^ 32)
word_negative w p l = ap (number 145) (omega arith)

complements : (a b w : ℕ) → 0 < a → 0 < b → w < 2 ^ 16 → a + b ≡ w → (complement_of a + complement_of b ≡ 131072 - w) × (0 < complement_of a) × (0 < complement_of b)
complements a b w p q l e = (omega arith, omega arith, omega arith)

-- by their low halves, which come to w, and to 65,536 more where there is no sign
module _ (x y : Number) (f : x.b1 ≡ 0) (g : y.b1 ≡ 0) (p : 0 < low x) (q : 0 < low y) (w : ℕ) (l : w < 2 ^ 16) where
  pub positive_exact : sign x ≡ 0 → sign y ≡ 0 → low x + low y ≡ w + 2 ^ 16 → full_route x y ≡ Some (number 145 (w * 2 ^ 15))
  positive_exact s t e =
      short_exact x y (low x) (low y) f g (omega arith) (t ∙ sym s) (simp (eq-eqb (sign x) 0 s)) (simp (eq-eqb (sign y) 0 t)) p q (omega arith)
      ∙ ap₂ (λ (i n : ℕ). Some (full_of i 145 (n * 2 ^ 15))) s e
      ∙ ap Some (word_positive w l)

  pub negative_exact : sign x ≡ 1 → sign y ≡ 1 → low x + low y ≡ w → full_route x y ≡ Some (number 145 ((2 ^ 32 - w * 2 ^ 15) % 2 ^ 32))
  negative_exact s t e =
      let c = complements (low x) (low y) w p q l e in
      short_exact x y (complement_of (low x)) (complement_of (low y)) f g (omega arith) (t ∙ sym s) (simp (ne_eqb (sign x) 0 (omega arith))) (simp (ne_eqb (sign y) 0 (omega arith)))
      c.1 c.2 (subst (λ (n : ℕ). 2 ^ 16 ≤ n) (sym c.0) (omega arith))
      ∙ ap₂ (λ (i n : ℕ). Some (full_of i 145 (n * 2 ^ 15))) s c.0
      ∙ ap Some (word_negative w (omega arith) l)
