-- Re-stacking keeps a short number's value, over whole numbers; and what a re-stacked number is made of.
use Rattle.std.specs.Prelude.{◌≡◌, ℕ, ◌+◌, ◌-◌, ◌*◌, ◌^◌, ◌<◌, ◌≤◌, ◌⊎◌, ℤ, pos, ◌*ℤ◌, ◌≢◌, refl}
use Rattle.std.proofs.Common.{sym, ◌∙◌, ap, inl, inr, mul_assoc, eq-zero-or-pos, lt_of_lt_of_le, arith, pow-add}
use Rattle.std.proofs.Math.Path.{subst⁻¹}
use Rattle.std.specs.Int.Count.{count_leading_zeros}
use Rattle.number.specs.declared.Number.{Number}
use Rattle.number.specs.Number.{sign, mantissa, full_of, short_magnitude, zeros}
use Rattle.number.specs.NumberLaws.{Bytes, mantissa_full, sign_full, magnitude_lt}
use Rattle.number.specs.Value.{signed, short_value, full_value}
use Rattle.number.specs.ValueLaws.{short_value_lem, signed_times}
use Rattle.number.specs.LeadingZeros.{top_set}
use Rattle.number.specs.Restack.{full_of_short, restacked}
use Rattle.number.proofs.RestackLaws.{restack_full, restack_some, restack_zero}
use Rattle.number.specs.RestackValue.{Stands}

pub full_of_short_lem : (s v : ℕ) → s < 2 → 0 < v → v < 2 ^ 16 → Stands s v (full_of_short s v)
unfolding full_of_short
full_of_short_lem s v hs h g =
    let z = count_leading_zeros 32 v in
    let t = top_set 31 v h (lt_of_lt_of_le g (omega arith)) in
    let m = v * 2 ^ z in
    let all : z + (160 - z) ≡ 160 = omega arith in
    let same : mantissa (full_of s (160 - z) m) ≡ m = mantissa_full s (160 - z) m t.0 t.1 in
    record {
      signs = sign_full s (160 - z) m hs;
      low_exponent = omega arith;
      exact = same;
      worth =
          ap (λ (k : ℕ). k * 2 ^ (160 - z)) same
          ∙ mul_assoc v (2 ^ z) (2 ^ (160 - z))
          ∙ ap (λ (k : ℕ). v * k) (sym (pow-add 2 z (160 - z)) ∙ ap (λ (k : ℕ). 2 ^ k) all);
    }

-- "Any other short number becomes the full number of equal value."
pub restack_value : (x : Number) → Bytes x → x.b1 ≡ 0 → (short_magnitude x ≢ 0) → full_value (restacked x) ≡ short_value x *ℤ pos (2 ^ 160)
unfolding full_value
restack_value x b h n =
    let v = short_magnitude x in
    let some : 0 < v = omega arith in
    let y = full_of_short_lem (sign x) v (omega arith) some (magnitude_lt x) in
    ap full_value (restack_some x h n)
    ∙ ap (λ (k : ℕ). signed k (mantissa (full_of_short (sign x) v) * 2 ^ (full_of_short (sign x) v).b1)) y.signs
    ∙ ap (signed (sign x)) y.worth
    ∙ sym (ap (λ (k : ℤ). k *ℤ pos (2 ^ 160)) (short_value_lem x b (inr some)) ∙ signed_times (sign x) v (2 ^ 160))

-- What a re-stacked number is: itself, zero, or the full number that stands for a short one. So what holds of these holds of it.
by_cases : (P : Number → Type 0) (x : Number) → ((x.b1 ≢ 0) → P x) → P zeros
    → (0 < short_magnitude x → P (full_of_short (sign x) (short_magnitude x))) → P (restacked x)
by_cases P x full none some = go (eq-zero-or-pos x.b1) (eq-zero-or-pos (short_magnitude x))
  where
    go : (x.b1 ≡ 0) ⊎ (0 < x.b1) → (short_magnitude x ≡ 0) ⊎ (0 < short_magnitude x) → P (restacked x)
    go (inr p) q = subst⁻¹ P (restack_full x (omega arith)) (full (omega arith))
    go (inl p) (inl q) = subst⁻¹ P (restack_zero x p q) none
    go (inl p) (inr q) = subst⁻¹ P (restack_some x p (omega arith)) (some q)

-- A re-stacked number is made of bytes again.
pub restacked_bytes : (x : Number) → Bytes x → Bytes (restacked x)
unfolding full_of_short
restacked_bytes x b = by_cases Bytes x (λ p. b) (omega arith) (λ q. omega arith)

-- a full number's exponent byte stays, a short number's becomes 160 at most
pub restacked_exponent : (x : Number) (k : ℕ) → x.b1 ≤ k → 160 ≤ k → (restacked x).b1 ≤ k
unfolding full_of_short
restacked_exponent x k h l = by_cases (λ (y : Number). y.b1 ≤ k) x (λ p. h) (omega arith) (λ q. omega arith)

-- "Counts as zero" means re-stacked to five zero bytes: the exponent byte alone says so.
pub restacked_zero : (x : Number) → Bytes x → (restacked x).b1 ≡ 0 → restacked x ≡ zeros
restacked_zero x b =
    by_cases (λ (y : Number). y.b1 ≡ 0 → y ≡ zeros) x (λ p e. absurd (p e)) (λ e. refl)
    (λ q e. absurd (omega (arith, (full_of_short_lem (sign x) (short_magnitude x) (omega arith) q (magnitude_lt x)).low_exponent)))

-- re-stacking keeps the sign of what does not count as zero
pub restacked_sign : (x : Number) → Bytes x → ¬ (restacked x ≡ zeros) → sign (restacked x) ≡ sign x
restacked_sign x b =
    by_cases (λ (y : Number). ¬ (y ≡ zeros) → sign y ≡ sign x) x (λ p n. refl) (λ n. absurd (n refl))
    (λ q n. (full_of_short_lem (sign x) (short_magnitude x) (omega arith) q (magnitude_lt x)).signs)
