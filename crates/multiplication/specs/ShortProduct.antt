-- The product of two short numbers is exact: nothing is rounded, and the full route makes of them the full number of its value.
use Rattle.std.specs.Prelude.{◌≡◌, true, false, ◌||◌, ℕ, ◌+◌, ◌*◌, ◌-◌, ◌^◌, ◌/◌, ◌%◌, ◌≤◌, ◌<◌, Option, Some, MatchOption}
use Rattle.std.proofs.Common.{sym, ◌∙◌, ap, ap₂, mul_right_comm, mul-le-mul, mul_assoc, zero-mul, mul-zero, arith, eq-eqb, ne_eqb, pow-add}
use Rattle.std.specs.Int.Count.{count_leading_zeros}
use Rattle.number.specs.declared.Number.{Number}
use Rattle.number.specs.Number.{number, zeros, sign, malformed, mantissa, short_magnitude, short_of}
use Rattle.number.specs.NumberLaws.{magnitude_lt}
use Rattle.number.specs.LeadingZeros.{top_set, places_are, zeros_of}
use Rattle.number.specs.Restack.{full_of_short, restacked}
use Rattle.number.proofs.RestackLaws.{restack_some}
use Rattle.number.proofs.RestackValueLaws.{full_of_short_lem}
use Rattle.ending.specs.Ending.{loose, closed}
use Rattle.ending.proofs.EndingLaws.{closed_stored}
use Rattle.multiplication.specs.Multiplication.{short_product, sign_of_two, restacked_product, product_of, ended_product}
use Rattle.multiplication.specs.Places.{rounded_at, product_at, at_some, at_scaled, fills, at_short}
use Rattle.multiplication.specs.MultiplicationLaws.{product_short, product_beyond, ended_high}

-- what the code answers of two numbers whose b1 is 0: nothing where one is malformed
abbrev pub Multiplied : Number → Number → Option Number → Type 0
Multiplied x y r = MatchOption r (malformed x || malformed y ≡ true) (λ n. (malformed x || malformed y ≡ false) × (product_of x y ≡ Some n))

-- A whole number below 2^32, from 1 on, times 2^0: the full number that stands for it.
whole_at : (s q : ℕ) → 0 < q → q < 2 ^ 32 → product_at s q 320 ≡ Some (full_of_short s q)
unfolding full_of_short
whole_at s q h l =
    let z = count_leading_zeros 32 q in
    let t = top_set 31 q h l in
    let m = q * 2 ^ z in
    let all : q * 2 ^ (z + 32) ≡ m * 2 ^ 32 = ap (λ (k : ℕ). q * k) (pow-add 2 z 32) ∙ sym (mul_assoc q (2 ^ z) (2 ^ 32)) in
    let same : rounded_at q (z + 32) ≡ m = omega arith in
    let lower : 320 + 128 - (z + 32) ≡ 416 - z = omega arith in
    let exact : 416 - z + m / 2 ^ 32 ≡ 416 - z = omega arith in
    let stored : 416 - z - 256 ≡ 160 - z = omega arith in
    let kept : (m % 2 ^ 31 + 0 % 2) % 2 ^ 31 ≡ m % 2 ^ 31 = omega arith in
    at_some s q 320 (omega arith) (z + 32) (places_are 63 q (z + 32) h (omega arith) (omega arith) (omega arith))
    ∙ ap₂ (ended_product s) same lower
    ∙ ended_high s m (416 - z) (omega arith) (omega arith)
    ∙ ap (λ (k : ℕ). closed s (loose (m % 2 ^ 31) k 0)) exact
    ∙ closed_stored s (loose (m % 2 ^ 31) (416 - z) 0) (omega arith) (omega arith)
    ∙ ap₂ (λ (n r : ℕ). Some (number n (r + 2 ^ 31 * (s % 2)))) stored kept

-- the full numbers that stand for u and v multiply to the one that stands for their product
pub short_exact : (s t u v : ℕ) → s < 2 → t < 2 → 0 < u → u < 2 ^ 16 → 0 < v → v < 2 ^ 16
    → restacked_product (full_of_short s u) (full_of_short t v) ≡ Some (full_of_short ((s + t) % 2) (u * v))
unfolding full_of_short
short_exact s t u v hs ht pu lu pv lv =
    let x = full_of_short s u in
    let z = count_leading_zeros 32 u in
    let zs = zeros_of u pu lu in
    let st = full_of_short_lem s u hs pu lu in
    let most : u * v ≤ 65535 * 65535 = mul-le-mul {n₂ = 65535} {m₂ = 65535} (omega arith) (omega arith) in
    let some : 1 ≤ u * v = mul-le-mul {n₁ = 1} {m₁ = 1} pu pv in
    let all : mantissa x * v ≡ u * v * 2 ^ z = ap (λ (k : ℕ). k * v) st.exact ∙ mul_right_comm u (2 ^ z) v in
    let less : mantissa x * v ≤ (2 ^ 32 - 1) * (2 ^ 32 - 1) = mul-le-mul {n₂ = 2 ^ 32 - 1} {m₂ = 2 ^ 32 - 1} (omega arith) (omega arith) in
    let lower : 160 - z + 160 ≡ 320 - z = omega arith in
    at_short x t v (fills s u hs pu lu) ht pv lv
    ∙ ap₂ (λ (k e : ℕ). product_at ((k + t) % 2) (mantissa x * v) e) st.signs lower
    ∙ ap (λ (k : ℕ). product_at ((s + t) % 2) k (320 - z)) all
    ∙ at_scaled ((s + t) % 2) (u * v) 320 z some (omega arith) (omega arith)
    ∙ whole_at ((s + t) % 2) (u * v) some (omega arith)

-- of two numbers whose b1 is 0, by their product
module _ (x y : Number) (f : x.b1 ≡ 0) (g : y.b1 ≡ 0) where
  pub product_none : short_product x y ≡ 0 → product_of x y ≡ Some zeros
  product_none h = product_short x y f g (omega arith) ∙ simp (eq-eqb (short_product x y) 0 h)

  pub product_some : (short_product x y ≡ 0 → ⊥) → short_product x y ≤ 65535 → product_of x y ≡ Some (short_of (sign_of_two x y) (short_product x y))
  product_some h l = product_short x y f g l ∙ simp (ne_eqb (short_product x y) 0 h)

  -- neither is zero where the product is not
  factors : (short_product x y ≡ 0 → ⊥) → (0 < short_magnitude x) × (0 < short_magnitude y)
  factors h =
      let left : ¬ (short_magnitude x ≡ 0) = λ e. h (ap (λ (n : ℕ). n * short_magnitude y) e ∙ zero-mul (short_magnitude y)) in
      let right : ¬ (short_magnitude y ≡ 0) = λ e. h (ap (λ (n : ℕ). short_magnitude x * n) e ∙ mul-zero (short_magnitude x)) in
      (omega arith, omega arith)

  -- The full route makes of them the full number that stands for their product, whether or not it is taken.
  pub full_route_exact : sign x < 2 → sign y < 2 → (short_product x y ≡ 0 → ⊥)
      → restacked_product (restacked x) (restacked y) ≡ Some (full_of_short (sign_of_two x y) (short_product x y))
  full_route_exact hs ht h =
      let p = factors h in
      ap₂ restacked_product (restack_some x f (omega arith)) (restack_some y g (omega arith))
      ∙ short_exact (sign x) (sign y) (short_magnitude x) (short_magnitude y) hs ht p.0 (magnitude_lt x) p.1 (magnitude_lt y)

  pub product_exact : sign x < 2 → sign y < 2 → 65535 < short_product x y → product_of x y ≡ Some (full_of_short (sign_of_two x y) (short_product x y))
  product_exact hs ht l = product_beyond x y f g l ∙ full_route_exact hs ht (omega arith)
