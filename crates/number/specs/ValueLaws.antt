-- Short values by sign and magnitude, and products with a sign.
use Rattle.std.specs.Prelude.{◌≡◌, ℕ, zero, suc, ◌+◌, ◌-◌, ◌*◌, ◌^◌, ◌<◌, cond, ◌⊎◌, pos, negsuc, ◌-ℤ◌, ◌*ℤ◌, neg_ℤ, ◌==◌, refl}
use Rattle.std.proofs.Common.{sym, ◌∙◌, ap, ap₂, inl, inr, ⊎_elim, lt-ltb, ne_eqb, eq-eqb, add-zero, zero-mul, arith}
use Rattle.std.proofs.Math.IntN.{neg_ℤ-neg_ℤ}
use Rattle.number.specs.declared.Number.{Number}
use Rattle.number.specs.declared.form.Form.TheVariants.{Short, Odd}
use Rattle.number.specs.Number.{form_of, b2, b3, b4, sign, low, complement_of, short_magnitude, halves, short_of}
use Rattle.number.specs.NumberLaws.{Bytes, low_halves, magnitude_cases}
use Rattle.number.specs.FormLaws.{form_bytes}
use Rattle.number.specs.Value.{signed, short_value}

-- a low half less 65,536, where m is what is missing
below_zero : (l m : ℕ) → m + l ≡ 65536 → 0 < m → pos l -ℤ pos 65536 ≡ neg_ℤ (pos m)
below_zero l zero e p = absurd (omega arith)
below_zero l (suc m) e p = let k : 65536 - suc l ≡ m = omega arith in simp (lt-ltb l 65536 (omega arith)) (ap negsuc k)

by_sign : (l s : ℕ) → l < 2 ^ 16 → ((s ≡ 0) ⊎ ((s ≡ 1) × (0 < complement_of l))) → pos l -ℤ pos (65536 * s) ≡ signed s (cond (s == 0) l (complement_of l))
by_sign l s h (inl z) =
    ap (λ (k : ℕ). pos l -ℤ pos (65536 * k)) z ∙ ap pos (add-zero l) ∙ sym (ap (λ (k : ℕ). signed k (cond (k == 0) l (complement_of l))) z)
by_sign l s h (inr (n, p)) =
    ap (λ (k : ℕ). pos l -ℤ pos (65536 * k)) n
    ∙ below_zero l (complement_of l) (omega arith) p
    ∙ sym (ap (λ (k : ℕ). signed k (cond (k == 0) l (complement_of l))) n)

-- A short number's value by its sign and magnitude. (Odd has sign 1 and magnitude 0.)
pub short_value_lem : (x : Number) → Bytes x → (sign x ≡ 0) ⊎ (0 < short_magnitude x) → short_value x ≡ signed (sign x) (short_magnitude x)
unfolding short_value
short_value_lem x b h = by_sign (low x) (sign x) (omega arith) (cases (magnitude_cases x b) h)
  where
    cases : ((sign x ≡ 0) × (short_magnitude x ≡ low x)) ⊎ ((sign x ≡ 1) × (short_magnitude x ≡ complement_of (low x))) → (sign x ≡ 0) ⊎ (0 < short_magnitude x)
        → (sign x ≡ 0) ⊎ ((sign x ≡ 1) × (0 < complement_of (low x)))
    cases (inl p) g = inl p.0
    cases (inr p) (inl z) = inl z
    cases (inr p) (inr g) = inr (p.0, omega arith)

-- a product with a sign
pub signed_times : (s m k : ℕ) → signed s m *ℤ pos k ≡ signed s (m * k)
signed_times zero m k = refl
signed_times (suc s) zero k = ap pos (zero-mul k) ∙ ap (λ (n : ℕ). neg_ℤ (pos n)) (sym (zero-mul k))
signed_times (suc s) (suc m) k = refl

pub signed_zero : (s : ℕ) → signed s 0 ≡ pos 0
signed_zero zero = refl
signed_zero (suc s) = refl

-- the other sign
pub signed_other : (s m : ℕ) → s < 2 → signed (1 - s) m ≡ neg_ℤ (signed s m)
signed_other zero m h = refl
signed_other (suc zero) m h = sym (neg_ℤ-neg_ℤ (pos m))
signed_other (suc (suc s)) m h = absurd (omega arith)

-- The short number written for a sign and a magnitude has that value.
pub short_of_value : (s w : ℕ) → s < 2 → 0 < w → w < 2 ^ 16 → short_value (short_of s w) ≡ signed s w
unfolding short_value
short_of_value zero w h g k =
    let n = halves 0 w in
    let none : sign n ≡ 0 = omega arith in
    ap₂ (λ (l s : ℕ). pos l -ℤ pos (65536 * s)) (low_halves 0 w k) none ∙ ap pos (add-zero w)
short_of_value (suc zero) w h g k =
    let c = complement_of w in
    let n = halves 255 c in
    let one : sign n ≡ 1 = omega arith in
    ap₂ (λ (l s : ℕ). pos l -ℤ pos (65536 * s)) (low_halves 255 c (omega arith)) one ∙ below_zero c w (omega arith) g
short_of_value (suc (suc s)) w h g k = absurd (omega arith)

-- document 01's words: of a short or odd number the sign says whether b2 is FF
pub sign_byte : (x : Number) → Bytes x → (form_of x ≡ Short) ⊎ (form_of x ≡ Odd) → short_value x ≡ pos (256 * b4 x + b3 x) -ℤ pos (cond (b2 x == 255) 65536 0)
unfolding short_value
sign_byte x b f = ap (λ (n : ℕ). pos (256 * b4 x + b3 x) -ℤ pos n) (go (bytes_of f))
  where
    bytes_of : (form_of x ≡ Short) ⊎ (form_of x ≡ Odd) → (b2 x ≡ 0) ⊎ (b2 x ≡ 255)
    bytes_of (inl h) = ⊎_elim inl (λ p. inr p.0) (form_bytes x Short h).1
    bytes_of (inr h) = inr (form_bytes x Odd h).1

    go : (b2 x ≡ 0) ⊎ (b2 x ≡ 255) → 65536 * sign x ≡ cond (b2 x == 255) 65536 0
    go (inl z) = simp (ne_eqb (b2 x) 255 (omega arith)) (omega arith)
    go (inr n) = simp (eq-eqb (b2 x) 255 n) (omega arith)
