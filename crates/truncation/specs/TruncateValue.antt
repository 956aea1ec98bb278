-- Truncation is the whole part towards zero, away from the case that the listing takes for -65,536.
use Rattle.std.specs.Prelude.{ℕ, ◌+◌, ◌*◌, ◌-◌, ◌^◌, ◌/◌, ◌≤◌, ◌<◌, ◌≡◌, refl, Bool, true, false, cond, ltb, ℤ, ◌*ℤ◌}
use Rattle.std.proofs.Math.Path.{sym, ap}
use Rattle.std.proofs.Common.{◌∙◌, ap₂, lt-ltb, ltb-true, ltb-false, pow-add, pow_pos, pow_mono}
use Rattle.std.proofs.Math.Nat.{lt_of_lt_of_le, mul-div-mul_right, div-eq_of_lt, mul-div_cancel}
use native.Mathlib.Omega.{arith}
use Rattle.std.proofs.Math.IntN.{pos}
use Rattle.edition.specs.declared.Edition.{Edition}
use Rattle.number.specs.declared.Number.{Number}
use Rattle.number.specs.Number.{sign, mantissa, short_of, zeros}
use Rattle.number.specs.NumberLaws.{Bytes}
use Rattle.number.specs.Value.{signed, short_value, full_value}
use Rattle.number.specs.ValueLaws.{signed_times, signed_zero, short_of_value}
use Rattle.truncation.specs.Truncate.{taken65536, cleared, truncated_full, truncated}
use Rattle.truncation.specs.TruncateLaws.{truncate_full, truncate_below_one, truncate_to_short, truncate_cleared, truncate_whole}
use Rattle.truncation.specs.BitLaws.{split, cleared_word, dropped, dropped_lt}

-- The value of a full or short number, times 2^160.
unfoldable pub scaled_value : Number → ℤ
scaled_value x = cond (ltb 0 x.b1) (full_value x) (short_value x *ℤ pos (2 ^ 160))

-- m times 2^(e - 160), its part below one dropped, is m with k = 160 - e places dropped
whole_part : (m k e : ℕ) → k + e ≡ 160 → m * 2 ^ e / 2 ^ 160 ≡ m / 2 ^ k
whole_part m k e h = ap (λ (n : ℕ). m * 2 ^ e / n) (ap (λ (n : ℕ). 2 ^ n) (sym h) ∙ pow-add 2 k e) ∙ mul-div-mul_right m (2 ^ k) (pow_pos e)

module _ (ed : Edition) (x : Number) (b : Bytes x) (f : 0 < x.b1) (t : taken65536 ed x ≡ false) where
  abbrev s : ℕ
  s = sign x

  abbrev m : ℕ
  m = mantissa x

  abbrev k : ℕ
  k = 160 - x.b1

  abbrev Whole : Number → Type 0
  Whole y = scaled_value y ≡ signed s (m * 2 ^ x.b1 / 2 ^ 160 * 2 ^ 160)

  none : x.b1 < 129 → Whole zeros
  unfolding scaled_value short_value
  none h =
      let under : m < 2 ^ k = lt_of_lt_of_le {m = 2 ^ 32} (omega arith) (pow_mono {i = 32} {j = k} (omega arith)) in
      sym (ap (λ (n : ℕ). signed s (n * 2 ^ 160)) (whole_part m k x.b1 (omega arith) ∙ div-eq_of_lt under) ∙ signed_zero s)

  short : 129 ≤ x.b1 → x.b1 < 145 → Whole (short_of s (m / 2 ^ k))
  unfolding scaled_value
  short h g =
      let v = m / 2 ^ k in
      let some = (dropped m k (omega arith) (omega arith) (omega arith)).some in
      ap (λ (z : ℤ). z *ℤ pos (2 ^ 160)) (short_of_value s v (omega arith) some (dropped_lt m k (omega arith) (omega arith)))
      ∙ signed_times s v (2 ^ 160)
      ∙ ap (λ (n : ℕ). signed s (n * 2 ^ 160)) (sym (whole_part m k x.b1 (omega arith)))

  large : 145 ≤ x.b1 → x.b1 < 160 → Whole (record { b1 = x.b1; word = cleared k x.word })
  unfolding scaled_value full_value
  large h g =
      let c = cleared_word x.word k (omega arith) in
      let places : k + x.b1 ≡ 160 = omega arith in
      simp (lt-ltb 0 x.b1 f)
      (ap₂ (λ (i n : ℕ). signed i (n * 2 ^ x.b1)) c.sign c.mantissa
      ∙ ap (signed s)
      (sym (split (m / 2 ^ k) 160 k x.b1 (sym places)) ∙ ap (λ (n : ℕ). n * 2 ^ 160) (sym (whole_part m k x.b1 places))))

  unchanged : 160 ≤ x.b1 → Whole x
  unfolding scaled_value full_value
  unchanged h =
      let n = m * 2 ^ (x.b1 - 160) in
      let parts = split m x.b1 (x.b1 - 160) 160 (omega arith) in
      simp (lt-ltb 0 x.b1 f)
      (ap (signed s) (parts ∙ ap (λ (i : ℕ). i * 2 ^ 160) (sym (ap (λ (i : ℕ). i / 2 ^ 160) parts ∙ mul-div_cancel n (pow_pos 160)))))

  -- The value of what truncation leaves is the magnitude's whole part, with the sign.
  pub truncate_value : Whole (truncated ed x)
  truncate_value = ap scaled_value (truncate_full ed x f) ∙ go (ltb x.b1 129) (ltb x.b1 145) (ltb x.b1 160) refl refl refl
    where
      go : (p q r : Bool) → ltb x.b1 129 ≡ p → ltb x.b1 145 ≡ q → ltb x.b1 160 ≡ r → Whole (truncated_full ed x)
      go true q r i j l = ap scaled_value (truncate_below_one ed x (ltb-true _ _ i)) ∙ none (ltb-true _ _ i)
      go false true r i j l = ap scaled_value (truncate_to_short ed x (ltb-false _ _ i) (ltb-true _ _ j)) ∙ short (ltb-false _ _ i) (ltb-true _ _ j)
      go false false true i j l = ap scaled_value (truncate_cleared ed x (ltb-false _ _ j) t (ltb-true _ _ l)) ∙ large (ltb-false _ _ j) (ltb-true _ _ l)
      go false false false i j l = ap scaled_value (truncate_whole ed x (ltb-false _ _ j) t (ltb-false _ _ l)) ∙ unchanged (ltb-false _ _ l)
