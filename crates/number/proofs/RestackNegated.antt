-- Negation and re-stacking go in either order: of what does not count as zero the sign is flipped.
use Rattle.std.specs.Prelude.{◌≡◌, ℕ, zero, suc, ◌+◌, ◌-◌, ◌*◌, ◌/◌, ◌%◌, ◌^◌, ◌<◌, ◌≤◌, ◌⊎◌, ◌≢◌}
use Rattle.std.proofs.Math.Path.{refl, sym, ap, ap₂}
use Rattle.std.proofs.Common.{◌∙◌, inl, inr, eq-zero-or-pos, eq-eqb, ne_eqb}
use native.Mathlib.Omega.{arith}
use Rattle.std.specs.Int.Count.{count_leading_zeros}
use Rattle.number.specs.declared.Number.{Number}
use Rattle.number.specs.declared.form.Form.TheVariants.{Full}
use Rattle.number.specs.Number.{number, zeros, sign, low, complement_of, short_magnitude, halves, short_of}
use Rattle.number.specs.NumberLaws.{Bytes, low_halves, magnitude_cases, magnitude_lt}
use Rattle.number.specs.Restack.{full_of_short, restacked}
use Rattle.number.proofs.RestackLaws.{restack_some, restack_zero}
use Rattle.number.specs.Negate.{negated_as, negated}
use Rattle.number.proofs.NegateLaws.{negate_zero, negate_short}

-- what is written for a sign and a magnitude is read as them
pub short_parts : (s v : ℕ) → s < 2 → v < 2 ^ 16 → (sign (short_of s v) ≡ s) × (short_magnitude (short_of s v) ≡ v)
short_parts zero v h g =
    let none : sign (halves 0 v) ≡ 0 = omega arith in
    (none, simp (eq-eqb (sign (halves 0 v)) 0 none) (low_halves 0 v g))
short_parts (suc zero) v h g =
    let c = complement_of v in
    let one : sign (halves 255 c) ≡ 1 = omega arith in
    (one, simp (ne_eqb (sign (halves 255 c)) 0 (omega arith)) (ap complement_of (low_halves 255 c (omega arith)) ∙ omega arith))
short_parts (suc (suc s)) v h g = absurd (omega arith)

module _ (x : Number) (b : Bytes x) (h : x.b1 ≡ 0) where
  -- a number that passes the zero test is no way from zero
  some : (short_magnitude x ≢ 0) → 256 ≤ x.word
  some n = go (magnitude_cases x b)
    where
      go : ((sign x ≡ 0) × (short_magnitude x ≡ low x)) ⊎ ((sign x ≡ 1) × (short_magnitude x ≡ complement_of (low x))) → 256 ≤ x.word
      go (inl p) = omega arith
      go (inr p) = omega (arith, p.0)

  pub negated_none : short_magnitude x ≡ 0 → restacked (negated x) ≡ zeros
  negated_none n = go (eq-zero-or-pos (x.word / 256))
    where
      go : (x.word / 256 ≡ 0) ⊎ (0 < x.word / 256) → restacked (negated x) ≡ zeros
      go (inl l) = ap restacked (negate_zero x h (omega arith)) ∙ restack_zero x h n
      go (inr g) = ap restacked (negate_short x h (omega arith)) ∙ restack_zero _ refl ((short_parts (1 - sign x) (short_magnitude x) (omega arith) (magnitude_lt x)).1 ∙ n)

  pub negated_some : (short_magnitude x ≢ 0) → restacked (negated x) ≡ negated_as Full (restacked x)
  unfolding full_of_short
  negated_some n =
      let v = short_magnitude x in
      let s = sign x in
      let z = count_leading_zeros 32 v in
      let p = short_parts (1 - s) v (omega arith) (magnitude_lt x) in
      let flips : v * 2 ^ z % 2 ^ 31 + 2 ^ 31 * ((1 - s) % 2) ≡ (v * 2 ^ z % 2 ^ 31 + 2 ^ 31 * (s % 2) + 2 ^ 31) % 2 ^ 32 = omega arith in
      ap restacked (negate_short x h (some n))
      ∙ restack_some _ refl (λ e. n (sym p.1 ∙ e))
      ∙ ap₂ full_of_short p.0 p.1
      ∙ ap (number (160 - z)) flips
      ∙ sym (ap (negated_as Full) (restack_some x h n))
