-- `short_product` meets its contract: each way out is a law of the product of two short numbers.
use Rattle.std.proofs.Common.{ap, ap₂, arith, bit_xor, false, mul-le-mul, refl, sym, ℕ, ◌%◌, ◌*◌, ◌+◌, ◌-◌, ◌/◌, ◌<◌, ◌^◌, ◌||◌, ◌∙◌, ◌≡◌, ◌≤◌}
use Rattle.std.specs.Prelude.{Some}
use lib.Count.{count_leading_zeros}
use Rattle.number.specs.Number.{number, malformed, low, full_of, short_of}
use Rattle.number.specs.LeadingZeros.{zeros_are, zeros_below}
use Rattle.number.specs.Restack.{full_of_short}
use Rattle.division.proofs.DivisionLaws.{signs_differ}
use Rattle.multiplication.specs.Multiplication.{short_product, sign_of_two}
use Rattle.multiplication.specs.ShortProduct.{product_none, product_some, product_exact}
use Rattle.multiplication.proofs.product.short_product.Goals as goal
use Rattle.multiplication.proofs.product.short_product.Goals.{After-leading_zeros-places, In-Some-magnitude_of}

-- what is known of two numbers of which neither is malformed
module _ (e : In-Some-magnitude_of) where
  abbrev m : ℕ
  m = e.in-Some.field-0.v * e.in-Some-magnitude_of.field-0.v

  abbrev s : ℕ
  s = bit_xor e.in-Some.field-0.mask e.in-Some-magnitude_of.field-0.mask / 2 ^ 31

  fits : m ≤ 65535 * 65535
  fits = mul-le-mul {n₂ = 65535} {m₂ = 65535}
      (omega (arith, e.in-Some.ensures.1)) (omega (arith, e.in-Some-magnitude_of.ensures.1))

  record Known (w v : ℕ) : Type 0 where
    formed : malformed (number 0 w) || malformed (number 0 v) ≡ false
    product : m ≡ short_product (number 0 w) (number 0 v)
    signs : s ≡ sign_of_two (number 0 w) (number 0 v)

  known : (w v : ℕ) → (let a = e.args in w / 2 ^ 24 ≡ a.b % 256 → low (number 0 w) ≡ a.h → v / 2 ^ 24 ≡ a.c % 256 → low (number 0 v) ≡ a.k → Known w v)
  known w v i j k l =
      let x = e.in-Some.ensures.0 w i j in
      let y = e.in-Some-magnitude_of.ensures.0 v k l in
      record {
        formed = simp (x.form, y.form);
        product = ap₂ (λ (a b : ℕ). a * b) x.away y.away;
        signs = signs_differ _ _ (omega arith) (omega arith) ∙ ap₂ (λ (a b : ℕ). (a + b) % 2) x.signs y.signs;
      }

-- what is known of the number of zeros
counted : (c : After-leading_zeros-places) → (let e = (goal.at.overflow_sub-result c).In-Some-magnitude_of in (c.leading_zeros-places.result ≡ count_leading_zeros 32 (m e)) × (c.leading_zeros-places.result < 32))
counted c =
    let h = fits (goal.at.overflow_sub-result c).In-Some-magnitude_of in (
      zeros_are _ _ (omega (arith, h)) c.leading_zeros-places.ensures,
      zeros_below _ _ (omega (arith, h)) c.leading_zeros-places.ensures c.if-v-eq0.false,
    )

pub returns-then-v-eq0 : goal.returns-then-v-eq0
returns-then-v-eq0 c w v i j k l =
    let n = known (goal.at.returns-then-v-eq0 c).In-Some-magnitude_of w v i j k l in
    (n.formed, product_none _ _ refl refl (sym n.product ∙ c.if-v-eq0.true))

pub returns-then-v-lt65536 : goal.returns-then-v-lt65536
returns-then-v-lt65536 c w v i j k l =
    let n = known (goal.at.returns-then-v-lt65536 c).In-Some-magnitude_of w v i j k l in (
      n.formed,
      product_some _ _ refl refl (λ z. c.if-v-eq0.false (n.product ∙ z)) (omega (arith, n.product, c.if-v-lt65536.true))
          ∙ ap₂ (λ (a b : ℕ). Some (number 0 (short_of a b).word)) (sym n.signs) (sym n.product)
          ∙ ap (λ (a : ℕ). Some (number 0 a)) (sym c.short_word.ensures),
    )

pub returns : goal.returns
unfolding full_of_short
returns c w v i j k l =
    let e = (goal.at.returns c).In-Some-magnitude_of in
    let n = known e w v i j k l in
    let z = c.leading_zeros-places.result in
    let word : m e * 2 ^ z % 2 ^ 32 % 2 ^ 31 + 2 ^ 31 * (s e % 2) ≡ m e * 2 ^ z % 2 ^ 31 + 2 ^ 31 * (s e % 2) = omega arith in (
      n.formed,
      product_exact _ _ refl refl (omega arith) (omega arith) (omega (arith, n.product, c.if-v-lt65536.false))
          ∙ ap₂ (λ (a b : ℕ). Some (full_of_short a b)) (sym n.signs) (sym n.product)
          ∙ ap (λ (k : ℕ). Some (full_of (s e) (160 - k) (m e * 2 ^ k))) (sym (counted (goal.at.returns c).After-leading_zeros-places).0)
          ∙ ap (λ (a : ℕ). Some (number (160 - z) a)) (sym (c.full_word.ensures ∙ word)),
    )

pub overflow_sub-result : goal.overflow_sub-result
overflow_sub-result c = omega (arith, counted c)

pub overflow_shl-v : goal.overflow_shl-v
overflow_shl-v c = (counted (goal.at.overflow_shl-v c).After-leading_zeros-places).1
