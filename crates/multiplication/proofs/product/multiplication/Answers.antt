-- `multiplication` meets its contract: each return is a law of `product_at`.
use Rattle.std.proofs.Common.{ap, arith, mod-eq_of_lt, mul-le-mul, refl, sym, ℕ, ◌%◌, ◌*◌, ◌+◌, ◌-◌, ◌/◌, ◌<◌, ◌^◌, ◌∙◌, ◌≡◌, ◌≤◌}
use lib.Count.{count_leading_zeros}
use Rattle.multiplication.specs.MultiplicationLaws.{ended_low, ended_high}
use Rattle.multiplication.specs.Multiplication.{ended_product}
use Rattle.multiplication.specs.Places.{product_at, rounded_at, at_zero, at_some}
use Rattle.number.specs.LeadingZeros.{top_set}
use Rattle.multiplication.proofs.product.multiplication.Goals as goal
use Rattle.multiplication.proofs.product.multiplication.Goals.{Else-p-eq0, After-mantissa}

-- a product of two numbers below 2^32
fits : (c : After-mantissa) → c.mantissa.result * c.args.n ≤ (2 ^ 32 - 1) * (2 ^ 32 - 1)
fits c = mul-le-mul {n₂ = 2 ^ 32 - 1} {m₂ = 2 ^ 32 - 1} (omega arith) (omega arith)

-- the product is that of the mantissa
whole : (c : After-mantissa) → (let i = c.args in product_at (i.sign / 2 ^ 31) (c.mantissa.result * i.n) i.e ≡ product_at (i.sign / 2 ^ 31) ((i.m % 2 ^ 31 + 2 ^ 31) * i.n) i.e)
whole c = let i = c.args in ap (λ (k : ℕ). product_at (i.sign / 2 ^ 31) (k * i.n) i.e) c.mantissa.ensures

-- the product, which is not zero
module _ (c : Else-p-eq0) where
  abbrev p : ℕ
  p = c.mantissa.result * c.args.n

  abbrev z : ℕ
  z = count_leading_zeros 64 p

  abbrev e : ℕ
  e = c.args.e + 128 - z

  abbrev m : ℕ
  m = (p * 2 ^ z % 2 ^ 64 / 2 ^ 31 + 1) / 2

  top : (2 ^ 63 ≤ p * 2 ^ z) × (p * 2 ^ z < 2 ^ 64) × (z ≤ 63)
  top = top_set 63 p (omega (arith, c.if-p-eq0.false)) (omega (arith, fits c.before))

  rounded : m ≡ rounded_at p z
  rounded = ap (λ (k : ℕ). (k / 2 ^ 31 + 1) / 2) (mod-eq_of_lt top.1)

  small : m ≤ 2 ^ 32
  small = omega arith

pub returns-then-before-le-BIAS : goal.returns-then-before-le-BIAS
returns-then-before-le-BIAS c =
    c.close.ensures ∙ sym (at_some _ (p c.before.before) _ c.if-p-eq0.false (z c.before.before) refl ∙ ended_low _ _ 0 (e c.before.before) (omega arith)) ∙ whole c.before.before.before

pub returns : goal.returns
returns c =
    c.close-2.ensures
    ∙ sym (at_some _ (p c.before.before) _ c.if-p-eq0.false (z c.before.before) refl ∙ ap (λ (k : ℕ). ended_product (c.args.sign / 2 ^ 31) k (e c.before.before)) (sym (rounded c.before.before)) ∙ ended_high _ (m c.before.before) (e c.before.before) (omega arith) (small c.before.before))
    ∙ whole c.before.before.before

pub returns-then-p-eq0 : goal.returns-then-p-eq0
returns-then-p-eq0 c = sym (at_zero _ _ _ c.if-p-eq0.true) ∙ whole c.before
