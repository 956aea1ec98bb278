-- Places dropped and bits cleared, for any number of places.
use Rattle.std.specs.Prelude.{ℕ, suc, ◌+◌, ◌*◌, ◌-◌, ◌^◌, ◌/◌, ◌%◌, ◌≤◌, ◌<◌, ◌≡◌}
use Rattle.std.proofs.Common.{sym, ◌∙◌, ap, le_trans, le_of_eq, lt_of_lt_of_le, le-div_iff_mul-le, div-mul-le_self, add-mul, mul_assoc, mul-le-mul_right, arith, pow-add, pow_pos, pow_mono, shr_lt}
use Rattle.std.proofs.Math.Nat.{two-pow-succ, add-mul-div_right}
use Rattle.std.specs.Int.Count.{count_leading_zeros, leading_unique}
use Rattle.truncation.specs.Truncate.{cleared}

-- m times 2^n, by the places that n is made of
pub split : (m n j k : ℕ) → n ≡ j + k → m * 2 ^ n ≡ m * 2 ^ j * 2 ^ k
split m n j k h = ap (λ (i : ℕ). m * 2 ^ i) h ∙ ap (λ (i : ℕ). m * i) (pow-add 2 j k) ∙ sym (mul_assoc m (2 ^ j) (2 ^ k))

-- clearing makes no number larger
pub cleared_le : (m k : ℕ) → cleared k m ≤ m
cleared_le m k = div-mul-le_self m (2 ^ k)

-- up to 31 places are cleared below bit 31
pub cleared_above : (q r k : ℕ) → k ≤ 31 → cleared k (r + q * 2 ^ 31) ≡ cleared k r + q * 2 ^ 31
cleared_above q r k h =
    let parts = split q 31 (31 - k) k (omega arith) in
    ap (λ (n : ℕ). cleared k (r + n)) parts
    ∙ ap (λ (n : ℕ). n * 2 ^ k) (add-mul-div_right r (q * 2 ^ (31 - k)) (pow_pos k))
    ∙ add-mul (r / 2 ^ k) (q * 2 ^ (31 - k)) (2 ^ k)
    ∙ ap (λ (n : ℕ). cleared k r + n) (sym parts)

-- a word with its lowest bits cleared keeps its sign, and its mantissa is cleared
pub record Cleared (w k : ℕ) : Type 0 where
  pub sign : cleared k w / 2 ^ 31 ≡ w / 2 ^ 31
  pub mantissa : cleared k w % 2 ^ 31 + 2 ^ 31 ≡ cleared k (w % 2 ^ 31 + 2 ^ 31)
  pub same : cleared k (w % 2 ^ 31 + 2 ^ 31) ≡ w % 2 ^ 31 + 2 ^ 31 → cleared k w ≡ w

pub cleared_word : (w k : ℕ) → k ≤ 31 → Cleared w k
cleared_word w k h =
    let r = w % 2 ^ 31 in
    let parts : w ≡ r + w / 2 ^ 31 * 2 ^ 31 = omega arith in
    let all : cleared k w ≡ cleared k r + w / 2 ^ 31 * 2 ^ 31 = ap (cleared k) parts ∙ cleared_above (w / 2 ^ 31) r k h in
    let top : cleared k (r + 2 ^ 31) ≡ cleared k r + 2 ^ 31 = cleared_above 1 r k h in
    let less = cleared_le r k in
    record { sign = omega arith; mantissa = omega arith; same = λ e. omega arith }

-- A mantissa m with k places dropped is w: it has 32 - k digits, so that of 32 the k highest are zeros.
pub record Dropped (m k : ℕ) : Type 0 where
  pub some : 0 < m / 2 ^ k
  pub zeros : count_leading_zeros 32 (m / 2 ^ k) ≡ k
  pub top : 2 ^ 31 ≤ cleared k m

pub dropped : (m k : ℕ) → 2 ^ 31 ≤ m → m < 2 ^ 32 → k ≤ 31 → Dropped m k
dropped m k lo hi g =
    let w = m / 2 ^ k in
    let places : 31 ≡ 31 - k + k = omega arith in
    let next : 32 - k ≡ suc (31 - k) = omega arith in
    let split : 2 ^ 31 ≡ 2 ^ (31 - k) * 2 ^ k = ap (λ (n : ℕ). 2 ^ n) places ∙ pow-add 2 (31 - k) k in
    let twice : 2 ^ (32 - k) ≡ 2 ^ (31 - k) + 2 ^ (31 - k) = ap (λ (n : ℕ). 2 ^ n) next ∙ two-pow-succ (31 - k) in
    let least : 2 ^ (31 - k) ≤ w = (le-div_iff_mul-le (pow_pos k)).1 (le_trans (le_of_eq (sym split)) lo) in
    let most : w < 2 ^ (32 - k) = shr_lt {n = m} (32 - k) k (lt_of_lt_of_le hi (pow_mono {i = 32} {j = 32 - k + k} (omega arith))) in
    record {
      some = lt_of_lt_of_le (pow_pos (31 - k)) least;
      zeros = sym (leading_unique 32 w k (32 - k) (omega arith) most (omega arith));
      top = le_trans (le_of_eq split) (mul-le-mul_right (2 ^ k) least);
    }

-- at 16 places and more it fits sixteen bits
pub dropped_lt : (m k : ℕ) → m < 2 ^ 32 → 16 ≤ k → m / 2 ^ k < 2 ^ 16
dropped_lt m k h g = shr_lt {n = m} 16 k (lt_of_lt_of_le h (pow_mono {i = 32} {j = 16 + k} (omega arith)))
