-- Multiplication commutes.
use Rattle.std.specs.Prelude.{◌≡◌, Bool, ◌&&◌, ℕ, ◌+◌, ◌*◌, ◌-◌, ◌%◌, leb, eqb, Some}
use Rattle.ending.specs.Ending.{Answer}
use Rattle.std.proofs.Common.{◌∙◌, mul_comm, add_comm}
use Rattle.std.proofs.Math.Path.{ap, ap₂}
use Rattle.std.proofs.Math.Bool.{cond, and_comm, or_comm}
use Rattle.number.specs.declared.Number.{Number}
use Rattle.number.specs.Number.{zeros, sign, mantissa, short_magnitude}
use Rattle.number.specs.Restack.{restacked}
use Rattle.multiplication.specs.Multiplication.{short_product, stays_short, short_stored, sign_of_two, taken, product_mantissa, ended_product, full_product, restacked_product, product_of}

module _ (x y : Number) where
  signs_commute : sign_of_two x y ≡ sign_of_two y x
  signs_commute = ap (λ (k : ℕ). k % 2) (add_comm (sign x) (sign y))

  restacked_commutes : restacked_product x y ≡ restacked_product y x
  unfolding restacked_product full_product
  restacked_commutes =
      ap₂ (λ (c : Bool) (r : Answer). cond c (Some zeros) r) (or_comm (eqb x.b1 0) (eqb y.b1 0))
      (ap₂ (λ (k p : ℕ). ended_product (sign_of_two x y) (product_mantissa p) (k + 256 - taken p)) (add_comm x.b1 y.b1) (mul_comm (mantissa x) (mantissa y))
      ∙ ap (λ (s : ℕ). ended_product s (product_mantissa (mantissa y * mantissa x)) (y.b1 + x.b1 + 256 - taken (mantissa y * mantissa x))) signs_commute)

pub product_commutes : (x y : Number) → product_of x y ≡ product_of y x
unfolding product_of
product_commutes x y =
    let v = mul_comm (short_magnitude x) (short_magnitude y) in
    ap₂ (λ (c : Bool) (r : Answer). cond c r (restacked_product (restacked x) (restacked y)))
    (ap₂ (λ (c : Bool) (k : ℕ). c && leb k 65535) (and_comm (eqb x.b1 0) (eqb y.b1 0)) v)
    (ap₂ (λ (s k : ℕ). Some (short_stored s k)) (signs_commute x y) v)
    ∙ ap (λ (r : Answer). cond (stays_short y x) (Some (short_stored (sign_of_two y x) (short_product y x))) r) (restacked_commutes (restacked x) (restacked y))
