-- A product as the code takes it: of whole numbers that need not be made normal first. It has so many places to its top bit, of 64, and the exponent is lower by
-- as many.
use Rattle.std.specs.Prelude.{ℕ, ◌+◌, ◌*◌, ◌-◌, ◌^◌, ◌/◌, ◌%◌, ◌≤◌, ◌<◌, ◌≡◌, refl, ◌⊎◌, Bool, true, false, cond, leb, eqb, Some}
use Rattle.ending.specs.Ending.{Answer}
use Rattle.std.proofs.Common.{sym, ◌∙◌, ap, ap₂, inl, inr, mul_assoc, mul-le-mul, mul-le-mul_left, eq-zero-or-pos, mul-zero, arith, eq-eqb, ne_eqb, leb-true, leb-false, pow-add, pow_pos}
use Rattle.std.specs.Int.Count.{count_leading_zeros}
use Rattle.number.specs.declared.Number.{Number}
use Rattle.number.specs.Number.{zeros, sign, mantissa, short_magnitude}
use Rattle.number.specs.NumberLaws.{Bytes, magnitude_lt}
use Rattle.number.specs.LeadingZeros.{top_set, places_are, zeros_of}
use Rattle.number.specs.Restack.{full_of_short, restacked}
use Rattle.number.proofs.RestackLaws.{restack_full, restack_some, restack_zero}
use Rattle.number.proofs.RestackValueLaws.{full_of_short_lem}
use Rattle.division.specs.Demand3.{nearest}
use Rattle.division.specs.Operand.{IsFull}
use Rattle.multiplication.specs.Multiplication.{sign_of_two, ended_product, restacked_product, product_of}
use Rattle.multiplication.specs.MultiplicationLaws.{bounds, is_ended, product_restacked, zero_second}

-- the mantissa with z places, and the digit that rounds it
abbrev pub rounded_at : ℕ → ℕ → ℕ
rounded_at p z = (p * 2 ^ z / 2 ^ 31 + 1) / 2

-- p times 2^(e - 320), where e is a sum of two exponent bytes: A1's 128 is taken from it, and the ending's 256 is added.
unfoldable pub product_at : ℕ → ℕ → ℕ → Answer
product_at s p e = cond (eqb p 0) (Some zeros) (ended_product s (rounded_at p (count_leading_zeros 64 p)) (e + 128 - count_leading_zeros 64 p))

module _ (s p e : ℕ) where
  pub at_zero : p ≡ 0 → product_at s p e ≡ Some zeros
  unfolding product_at
  at_zero h = simp (eq-eqb p 0 h)

  pub at_some : (p ≡ 0 → ⊥) → (z : ℕ) → z ≡ count_leading_zeros 64 p → product_at s p e ≡ ended_product s (rounded_at p z) (e + 128 - z)
  unfolding product_at
  at_some h z i = simp (ne_eqb p 0 h) (ap (λ (k : ℕ). ended_product s (rounded_at p k) (e + 128 - k)) (sym i))

-- ---- of two full numbers

pub at_full : (x y : Number) → IsFull x → IsFull y → restacked_product x y ≡ product_at (sign_of_two x y) (mantissa x * mantissa y) (x.b1 + y.b1)
at_full x y f g = is_ended x y f g ∙ go (leb (2 ^ 63) p) refl
  where
    p : ℕ
    p = mantissa x * mantissa y

    go : (b : Bool) → leb (2 ^ 63) p ≡ b
        → ended_product (sign_of_two x y) (cond b (nearest p (2 ^ 32)) (nearest p (2 ^ 31))) (x.b1 + y.b1 + 256 - cond b 128 129) ≡ product_at (sign_of_two x y) p (x.b1 + y.b1)
    go true i =
        let large = leb-true (2 ^ 63) p i in
        let bound = bounds x y f g in
        let same : nearest p (2 ^ 32) ≡ rounded_at p 0 = omega arith in
        let lower : x.b1 + y.b1 + 256 - 128 ≡ x.b1 + y.b1 + 128 - 0 = omega arith in
        ap₂ (ended_product (sign_of_two x y)) same lower
        ∙ sym (at_some (sign_of_two x y) p (x.b1 + y.b1) (omega arith) 0 (places_are 63 p 0 (omega arith) (omega arith) (omega arith) (omega arith)))
    go false i =
        let small = leb-false (2 ^ 63) p i in
        let bound = bounds x y f g in
        let same : nearest p (2 ^ 31) ≡ rounded_at p 1 = omega arith in
        let lower : x.b1 + y.b1 + 256 - 129 ≡ x.b1 + y.b1 + 128 - 1 = omega arith in
        ap₂ (ended_product (sign_of_two x y)) same lower
        ∙ sym (at_some (sign_of_two x y) p (x.b1 + y.b1) (omega arith) 1 (places_are 63 p 1 (omega arith) (omega arith) (omega arith) (omega arith)))

-- ---- not made normal first

-- k places more, and an exponent lower by as many
pub at_scaled : (s p e k : ℕ) → 0 < p → p * 2 ^ k < 2 ^ 64 → k ≤ e → product_at s (p * 2 ^ k) (e - k) ≡ product_at s p e
at_scaled s p e k h l g =
    let some : p * 1 ≤ p * 2 ^ k = mul-le-mul_left p (pow_pos k) in
    let z = count_leading_zeros 64 (p * 2 ^ k) in
    let t = top_set 63 (p * 2 ^ k) (omega arith) l in
    let all : p * 2 ^ k * 2 ^ z ≡ p * 2 ^ (k + z) = mul_assoc p (2 ^ k) (2 ^ z) ∙ ap (λ (i : ℕ). p * i) (sym (pow-add 2 k z)) in
    let lower : e - k + 128 - z ≡ e + 128 - (k + z) = omega arith in
    at_some s (p * 2 ^ k) (e - k) (omega arith) z refl
    ∙ ap₂ (λ (i j : ℕ). ended_product s ((i / 2 ^ 31 + 1) / 2) j) all lower
    ∙ sym (at_some s p e (omega arith) (k + z) (places_are 63 p (k + z) h (omega arith) (omega arith) (omega arith)))

pub fills : (k n : ℕ) → k < 2 → 0 < n → n < 2 ^ 16 → IsFull (full_of_short k n)
unfolding full_of_short
fills k n h p l = let z = zeros_of n p l in record { bytes = record { b1_below = omega arith; word_below = omega arith }; first = omega arith }

-- a full number by the one that stands for v
pub at_short : (x : Number) (t v : ℕ) → IsFull x → t < 2 → 0 < v → v < 2 ^ 16
    → restacked_product x (full_of_short t v) ≡ product_at ((sign x + t) % 2) (mantissa x * v) (x.b1 + 160)
unfolding full_of_short
at_short x t v f h p l =
    let y = full_of_short t v in
    let z = count_leading_zeros 32 v in
    let zs = zeros_of v p l in
    let fy = fills t v h p l in
    let st = full_of_short_lem t v h p l in
    let m = mantissa x in
    let all : m * mantissa y ≡ m * v * 2 ^ z = ap (λ (k : ℕ). m * k) st.exact ∙ sym (mul_assoc m v (2 ^ z)) in
    let bound = bounds x y f fy in
    let some : 1 ≤ m * v = mul-le-mul {n₁ = 1} {m₁ = 1} (omega arith) p in
    let lower : x.b1 + (160 - z) ≡ x.b1 + 160 - z = omega arith in
    at_full x y f fy
    ∙ ap₂ (λ (k e : ℕ). product_at k (m * mantissa y) e) (ap (λ (k : ℕ). (sign x + k) % 2) st.signs) lower
    ∙ ap (λ (k : ℕ). product_at ((sign x + t) % 2) k (x.b1 + 160 - z)) all
    ∙ at_scaled ((sign x + t) % 2) (m * v) (x.b1 + 160) z some (omega arith) (omega arith)

-- ---- of two numbers, the first of them full

module _ (x y : Number) (bx : Bytes x) (by : Bytes y) (f : x.b1 ≡ 0 → ⊥) where
  fx : IsFull x
  fx = record { bytes = bx; first = omega arith }

  goes_full : product_of x y ≡ restacked_product x (restacked y)
  goes_full = product_restacked x y (simp (ne_eqb x.b1 0 f)) ∙ ap (λ (n : Number). restacked_product n (restacked y)) (restack_full x f)

  pub full_by_full : (y.b1 ≡ 0 → ⊥) → product_of x y ≡ product_at (sign_of_two x y) (mantissa x * mantissa y) (x.b1 + y.b1)
  full_by_full g = goes_full ∙ ap (restacked_product x) (restack_full y g) ∙ at_full x y fx (record { bytes = by; first = omega arith })

  pub full_by_short : y.b1 ≡ 0 → product_of x y ≡ product_at (sign_of_two x y) (mantissa x * short_magnitude y) (x.b1 + 160)
  full_by_short g = goes_full ∙ go (eq-zero-or-pos (short_magnitude y))
    where
      go : (short_magnitude y ≡ 0) ⊎ (0 < short_magnitude y) → restacked_product x (restacked y) ≡ product_at (sign_of_two x y) (mantissa x * short_magnitude y) (x.b1 + 160)
      go (inl z) =
          ap (restacked_product x) (restack_zero y g z)
          ∙ zero_second x zeros f refl
          ∙ sym (at_zero (sign_of_two x y) (mantissa x * short_magnitude y) (x.b1 + 160) (ap (λ (k : ℕ). mantissa x * k) z ∙ mul-zero (mantissa x)))
      go (inr p) = ap (restacked_product x) (restack_some y g (omega arith)) ∙ at_short x (sign y) (short_magnitude y) fx (omega arith) p (magnitude_lt y)
