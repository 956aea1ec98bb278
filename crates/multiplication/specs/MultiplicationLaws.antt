-- Multiplication's laws: a law for each way through the definition, and what P and the mantissa lie between.
use Rattle.std.specs.Prelude.{◌≡◌, refl, Bool, true, false, cond, ℕ, ◌+◌, ◌*◌, ◌-◌, ◌^◌, ◌/◌, ◌%◌, ◌≤◌, ◌<◌, leb, eqb, Some}
use Rattle.std.proofs.Common.{◌∙◌, ap, ap₂, mul-le-mul, arith}
use Rattle.std.proofs.Math.Bool.{and-eq-true_iff}
use borrow.Author.Tests.{lt-leb, le-leb, eq-eqb, ne_eqb, leb-true, leb-false, eqb-true, eqb-false}
use Rattle.number.specs.declared.Number.{Number}
use Rattle.number.specs.Number.{zeros, mantissa}
use Rattle.number.specs.Restack.{restacked}
use Rattle.ending.specs.Ending.{loose, closed}
use Rattle.ending.proofs.EndingLaws.{closed_any, closed_low_bits}
use Rattle.division.specs.Demand3.{nearest}
use Rattle.division.specs.Operand.{IsFull}
use Rattle.multiplication.specs.Multiplication.{both_short, short_product, short_stored, sign_of_two, taken, product_mantissa, carried, ended_product, full_product, restacked_product, product_of}

-- ---- the ways through

pub both_zero : (x y : Number) → both_short x y ≡ true → (x.b1 ≡ 0) × (y.b1 ≡ 0)
both_zero x y h = let p = (and-eq-true_iff (eqb x.b1 0) (eqb y.b1 0)).0 h in (eqb-true _ _ p.0, eqb-true _ _ p.1)

module _ (x y : Number) where
  pub product_short : x.b1 ≡ 0 → y.b1 ≡ 0 → short_product x y ≤ 65535 → product_of x y ≡ Some (short_stored (sign_of_two x y) (short_product x y))
  unfolding product_of
  product_short h g l = simp (eq-eqb x.b1 0 h, eq-eqb y.b1 0 g, le-leb (short_product x y) 65535 l)

  pub product_beyond : x.b1 ≡ 0 → y.b1 ≡ 0 → 65535 < short_product x y → product_of x y ≡ restacked_product (restacked x) (restacked y)
  unfolding product_of
  product_beyond h g l = simp (eq-eqb x.b1 0 h, eq-eqb y.b1 0 g, lt-leb (short_product x y) 65535 l)

  pub product_restacked : both_short x y ≡ false → product_of x y ≡ restacked_product (restacked x) (restacked y)
  unfolding product_of
  product_restacked h = simp h

  -- of re-stacked numbers
  pub zero_first : x.b1 ≡ 0 → restacked_product x y ≡ Some zeros
  unfolding restacked_product
  zero_first h = simp (eq-eqb x.b1 0 h)

  pub zero_second : (x.b1 ≡ 0 → ⊥) → y.b1 ≡ 0 → restacked_product x y ≡ Some zeros
  unfolding restacked_product
  zero_second h g = simp (ne_eqb x.b1 0 h, eq-eqb y.b1 0 g)

  neither : (x.b1 ≡ 0 → ⊥) → (y.b1 ≡ 0 → ⊥) → restacked_product x y ≡ full_product x y
  unfolding restacked_product
  neither h g = simp (ne_eqb x.b1 0 h, ne_eqb y.b1 0 g)

-- ---- P and the mantissa

-- what P lies between
pub product_bounds : (m n : ℕ) → 2 ^ 31 ≤ m → m < 2 ^ 32 → 2 ^ 31 ≤ n → n < 2 ^ 32 → (2 ^ 62 ≤ m * n) × (m * n ≤ 2 ^ 64 - 2 ^ 33 + 1)
product_bounds m n a b c d =
    let most : m * n ≤ (2 ^ 32 - 1) * (2 ^ 32 - 1) = mul-le-mul {n₂ = 2 ^ 32 - 1} {m₂ = 2 ^ 32 - 1} (omega arith) (omega arith) in
    (mul-le-mul {n₁ = 2 ^ 31} {m₁ = 2 ^ 31} a c, omega arith)

-- a mantissa of 2^32 carries into the exponent, and the bits that are stored are the same
carried_closed : (s m e : ℕ) → m ≤ 2 ^ 32 → closed s (carried m e) ≡ closed s (loose (m % 2 ^ 31) (e + m / 2 ^ 32) 0)
carried_closed s m e h = go (eqb m (2 ^ 32)) refl
  where
    go : (b : Bool) → eqb m (2 ^ 32) ≡ b → closed s (cond b (loose (2 ^ 31) (e + 1) 0) (loose m e 0)) ≡ closed s (loose (m % 2 ^ 31) (e + m / 2 ^ 32) 0)
    go true i =
        let is = eqb-true m (2 ^ 32) i in
        closed_low_bits s (2 ^ 31) (e + 1) ∙ ap₂ (λ (t k : ℕ). closed s (loose t k 0)) (omega arith) (omega arith)
    go false i =
        let less : m < 2 ^ 32 = omega (arith, eqb-false m (2 ^ 32) i) in
        closed_low_bits s m e ∙ ap (λ (k : ℕ). closed s (loose (m % 2 ^ 31) k 0)) (omega arith)

-- E of 0 or below
pub ended_low : (s m t e : ℕ) → e ≤ 256 → ended_product s m e ≡ closed s (loose t e 0)
ended_low s m t e h = simp (le-leb e 256 h) (closed_any s m t e h)

-- any other
pub ended_high : (s m e : ℕ) → 256 < e → m ≤ 2 ^ 32 → ended_product s m e ≡ closed s (loose (m % 2 ^ 31) (e + m / 2 ^ 32) 0)
ended_high s m e h l = simp (lt-leb e 256 h) (carried_closed s m e l)

-- ---- of two full numbers

module _ (x y : Number) (f : IsFull x) (g : IsFull y) where
  abbrev p : ℕ
  p = mantissa x * mantissa y

  pub bounds : (2 ^ 62 ≤ p) × (p ≤ 2 ^ 64 - 2 ^ 33 + 1)
  bounds = product_bounds (mantissa x) (mantissa y) (omega arith) (omega arith) (omega arith) (omega arith)

  -- the mantissa, before the carry
  pub mantissa_bounds : (2 ^ 31 ≤ product_mantissa p) × (product_mantissa p ≤ 2 ^ 32)
  mantissa_bounds = go (leb (2 ^ 63) p) refl
    where
      go : (b : Bool) → leb (2 ^ 63) p ≡ b
          → (2 ^ 31 ≤ cond b (nearest p (2 ^ 32)) (nearest p (2 ^ 31))) × (cond b (nearest p (2 ^ 32)) (nearest p (2 ^ 31)) ≤ 2 ^ 32)
      go true e = omega (arith, leb-true (2 ^ 63) p e, bounds)
      go false e = omega (arith, leb-false (2 ^ 63) p e, bounds)

  pub is_ended : restacked_product x y ≡ ended_product (sign_of_two x y) (product_mantissa p) (x.b1 + y.b1 + 256 - taken p)
  unfolding full_product
  is_ended = neither x y (omega arith) (omega arith)
