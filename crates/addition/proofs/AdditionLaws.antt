-- Addition by sign and magnitude, which is how the code goes: a law for each way through the definitions.
use Rattle.std.specs.Prelude.{◌≡◌, ℕ, suc, ◌+◌, ◌-◌, ◌*◌, ◌/◌, ◌^◌, ◌<◌, ◌≤◌, Bool, true, false, cond, ◌⊎◌, ℤ, pos, ◌+ℤ◌, ◌==◌, ◌≢◌, nat_lt, unsigned_abs, refl, Some, None}
use Rattle.std.proofs.Common.{sym, ◌∙◌, ap, ap₂, inl, inr, le-leb, lt-ltb, le-ltb, eq-eqb, ne_eqb, eqb-true, ltb-true, eq-zero-or-pos, div-lt_iff_lt-mul, arith, pow_pos, pow-add}
use Rattle.std.proofs.lemmas.Bool.{lt-leb, eqb-false}
use Rattle.std.proofs.Math.Nat.{max-eq_left, two-pow-succ, div-eq_of_lt, div-div-eq-div-mul}
use Rattle.std.specs.Int.Signed.{shr_z}
use Rattle.number.specs.declared.Number.{Number}
use Rattle.number.specs.Number.{sign, mantissa, full_of}
use Rattle.number.specs.Value.{signed}
use Rattle.number.specs.ValueLaws.{signed_zero}
use Rattle.ending.specs.Ending.{loose, ended}
use Rattle.ending.proofs.EndingLaws.{ended_zero, ended_set, closed_stored}
use Rattle.addition.specs.Addition.{signed_mantissa, aligned, ended_whole, carried, ended_sum, signed_sum, aligned_sum}
use Rattle.addition.specs.SignedLaws.{nat_abs_signed, negative_signed, floor_signed}
use Rattle.addition.specs.AdditionLaws.{magnitude_of, shifted_by}

pub unshifted : (s m : ℕ) → s < 2 → shifted_by s m 0 ≡ m
unshifted s m h = omega arith

moved_some : (s m k : ℕ) → s < 2 → 0 < k → (2 * m + 2 ^ k - s) / 2 ^ (k + 1) ≡ (m + 2 ^ (k - 1) - s) / 2 ^ k
moved_some s m k h g =
    let n = 2 ^ (k - 1) in
    let suc_pred : k ≡ suc (k - 1) = omega arith in
    let twice : 2 ^ k ≡ n + n = ap (λ (i : ℕ). 2 ^ i) suc_pred ∙ two-pow-succ (k - 1) in
    let some = pow_pos (k - 1) in
    let halved : (2 * m + 2 ^ k - s) / 2 ≡ m + n - s = omega arith in
    let next : 2 ^ (k + 1) ≡ 2 * 2 ^ k = pow-add 2 k 1 ∙ omega arith in
    ap (λ (d : ℕ). (2 * m + 2 ^ k - s) / d) next
    ∙ sym (div-div-eq-div-mul (2 * m + 2 ^ k - s) 2 (2 ^ k))
    ∙ ap (λ (i : ℕ). i / 2 ^ k) halved

pub shifted_lt : (s m k : ℕ) → m < 2 ^ 32 → (2 * m + 2 ^ k - s) / 2 ^ (k + 1) < 2 ^ 32
shifted_lt s m k h = let p = pow_pos k in (div-lt_iff_lt-mul (pow_pos (k + 1))).1 (omega (arith, pow-add 2 k 1))

-- nothing moved is nothing
pub none_shifted : (k : ℕ) → shifted_by 0 0 k ≡ 0
none_shifted k = go (nat_lt 32 k)
  where
    go : (b : Bool) → cond b 0 ((2 * 0 + 2 ^ k - 0) / 2 ^ (k + 1)) ≡ 0
    go true = refl
    go false = div-eq_of_lt (omega (arith, pow_pos k, pow-add 2 k 1))

pub aligned_signed : (s m k : ℕ) → s < 2 → aligned k (signed s m) ≡ signed s (shifted_by s m k)
unfolding aligned
aligned_signed s m k h = go (k == 0) (nat_lt 32 k) refl refl
  where
    go : (a b : Bool) → (k == 0) ≡ a → nat_lt 32 k ≡ b
        → cond a (signed s m) (cond b (pos 0) (shr_z (signed s m +ℤ pos (2 ^ (k - 1))) (2 ^ k))) ≡ signed s (cond b 0 ((2 * m + 2 ^ k - s) / 2 ^ (k + 1)))
    go true true e f = absurd (omega (arith, eqb-true k 0 e, ltb-true 32 k f))
    go true false e f = ap (signed s) (sym (ap (λ (i : ℕ). (2 * m + 2 ^ i - s) / 2 ^ (i + 1)) (eqb-true k 0 e) ∙ unshifted s m h))
    go false true e f = sym (signed_zero s)
    go false false e f =
        let some : 0 < k = omega (arith, eqb-false k 0 e) in
        floor_signed s m k h some ∙ ap (signed s) (sym (moved_some s m k h some))

pub moved_within : (s m k : ℕ) → s < 2 → k ≤ 32 → aligned k (signed s m) ≡ signed s ((2 * m + 2 ^ k - s) / 2 ^ (k + 1))
moved_within s m k h g = aligned_signed s m k h ∙ ap (signed s) (simp (le-ltb 32 k g))

pub moved_away : (k : ℕ) (z : ℤ) → 32 < k → aligned k z ≡ pos 0
unfolding aligned
moved_away k z h = simp (ne_eqb k 0 (omega arith), lt-ltb 32 k h)

unmoved : (z : ℤ) → aligned 0 z ≡ z
unfolding aligned
unmoved z = refl

mantissa_signed : (y : Number) → signed_mantissa y ≡ signed (sign y) (magnitude_of y)
mantissa_signed y = go (y.b1 == 0)
  where
    go : (a : Bool) → cond a (pos 0) (signed (sign y) (mantissa y)) ≡ signed (sign y) (cond a 0 (mantissa y))
    go true = sym (signed_zero (sign y))
    go false = refl

-- ---- the ending of a sum, by sign and magnitude
-- the ending takes a zero with either sign
ended_signed : (s m e : ℕ) → s < 2 → ended_whole (signed s m) e ≡ ended s m (e + 256) 0
ended_signed s m e h = go (eq-zero-or-pos m)
  where
    go : (m ≡ 0) ⊎ (0 < m) → ended_whole (signed s m) e ≡ ended s m (e + 256) 0
    go (inl z) = ended_zero _ _ _ _ (nat_abs_signed s m ∙ z) ∙ sym (ended_zero s m (e + 256) 0 z)
    go (inr p) =
        ap (λ (n : ℕ). ended n (unsigned_abs (signed s m)) (e + 256) 0) (negative_signed s m h p)
        ∙ ap (λ (n : ℕ). ended s n (e + 256) 0) (nat_abs_signed s m)

within : (z : ℤ) (e : ℕ) → unsigned_abs z < 2 ^ 32 → ended_sum z e ≡ ended_whole z e
unfolding ended_sum
within z e h = simp (lt-leb _ _ h)

beyond : (z : ℤ) (e : ℕ) → 2 ^ 32 ≤ unsigned_abs z → ended_sum z e ≡ carried z e
unfolding ended_sum
beyond z e h = simp (le-leb _ _ h)

pub carried_255 : (z : ℤ) (e : ℕ) → 2 ^ 32 ≤ unsigned_abs z → e ≡ 255 → ended_sum z e ≡ None
carried_255 z e h k = beyond z e h ∙ simp (eq-eqb (e + 1) 256 (omega arith))

module _ (s m e : ℕ) (h : s < 2) where
  pub sum_ended : m < 2 ^ 32 → ended_sum (signed s m) e ≡ ended s m (e + 256) 0
  sum_ended g = within (signed s m) e (rw nat_abs_signed g) ∙ ended_signed s m e h

  pub sum_too_big : 2 ^ 32 ≤ m → e ≡ 255 → ended_sum (signed s m) e ≡ None
  sum_too_big g k = carried_255 (signed s m) e (rw nat_abs_signed g) k

  pub sum_carried : 2 ^ 32 ≤ m → (e ≢ 255) → ended_sum (signed s m) e ≡ ended s ((m + 1 - s) / 2) (e + 1 + 256) 0
  sum_carried g k =
      beyond (signed s m) e (rw nat_abs_signed g)
      ∙ simp (ne_eqb (e + 1) 256 (omega arith)) (ap (λ (z : ℤ). ended_whole z (e + 1)) (floor_signed s m 1 h (omega arith)))
      ∙ ended_signed s ((m + 1 - s) / 2) (e + 1) h

  -- half of it has its top bit set
  pub sum_stored : 2 ^ 32 ≤ m → m + 1 < 2 ^ 33 → e < 255 → ended_sum (signed s m) e ≡ Some (full_of s (e + 1) ((m + 1 - s) / 2))
  sum_stored g l k =
      let t = (m + 1 - s) / 2 in
      sum_carried g (omega arith)
      ∙ ended_set s t (e + 1 + 256) 0 (omega arith)
      ∙ closed_stored s (loose t (e + 1 + 256) 0) (omega arith) (omega arith)
      ∙ ap₂ (λ (a b : ℕ). Some (full_of s a b)) (omega arith) (omega arith)

-- with the larger exponent byte first
pub first_larger : (x y : ℤ) (e f : ℕ) → f ≤ e → signed_sum x e y f ≡ ended_sum (x +ℤ aligned (e - f) y) e
first_larger x y e f h =
    let same : e - e ≡ 0 = omega arith in
    ap (λ (g : ℕ). ended_sum (aligned (g - e) x +ℤ aligned (g - f) y) g) (max-eq_left h)
    ∙ ap (λ (z : ℤ). ended_sum (z +ℤ aligned (e - f) y) e) (ap (λ (k : ℕ). aligned k x) same ∙ unmoved x)

-- two numbers by sign and magnitude
pub aligned_first : (x y : Number) → y.b1 ≤ x.b1 → sign x < 2 → sign y < 2
    → aligned_sum x y ≡ ended_sum (signed (sign x) (magnitude_of x) +ℤ signed (sign y) (shifted_by (sign y) (magnitude_of y) (x.b1 - y.b1))) x.b1
unfolding aligned_sum
aligned_first x y h g k =
    first_larger (signed_mantissa x) (signed_mantissa y) x.b1 y.b1 h
    ∙ ap₂ (λ (a b : ℤ). ended_sum (a +ℤ b) x.b1) (mantissa_signed x)
    (ap (aligned (x.b1 - y.b1)) (mantissa_signed y) ∙ aligned_signed (sign y) (magnitude_of y) (x.b1 - y.b1) k)
