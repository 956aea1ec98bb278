-- No product is odd.
use Rattle.std.specs.Prelude.{◌≤◌, ◌≡◌, refl, Bool, true, false, cond, ◌||◌, eqb, Some}
use Rattle.std.proofs.Common.{inl, arith, leb-true}
use Rattle.std.proofs.Math.Bool.{and-eq-true_iff}
use Rattle.std.proofs.lemmas.Bool.{eqb-false}
use Rattle.number.specs.declared.Number.{Number}
use Rattle.number.specs.Number.{zeros, short_of, odd}
use Rattle.number.specs.OddLaws.{odd_ended}
use Rattle.number.specs.Restack.{restacked}
use Rattle.number.proofs.NotOdd.{short_not_odd}
use Rattle.ending.proofs.EndsLaws.{closed_zero_or_full}
use Rattle.ending.specs.NotOdd.{NotOdd, ended_not_odd}
use Rattle.multiplication.specs.Multiplication.{both_short, stays_short, short_product, short_stored, sign_of_two, full_product, restacked_product, product_of}

full_product_not_odd : (x y : Number) → NotOdd (full_product x y)
unfolding full_product
full_product_not_odd x y = ended_not_odd (full_product x y) (closed_zero_or_full _ _)

pub product_not_odd : (x y : Number) → NotOdd (product_of x y)
unfolding product_of restacked_product
product_not_odd x y = go (stays_short x y) refl (eqb (restacked x).b1 0 || eqb (restacked y).b1 0)
  where
    short : short_product x y ≤ 65535 → (z : Bool) → eqb (short_product x y) 0 ≡ z → odd (cond z zeros (short_of (sign_of_two x y) (short_product x y))) ≡ false
    short l true e = odd_ended zeros (inl refl)
    short l false e = short_not_odd (sign_of_two x y) (short_product x y) (omega (arith, eqb-false (short_product x y) 0 e)) (omega arith)

    go : (a : Bool) → stays_short x y ≡ a → (b : Bool)
        → NotOdd (cond a (Some (short_stored (sign_of_two x y) (short_product x y))) (cond b (Some zeros) (full_product (restacked x) (restacked y))))
    go true e b = short (leb-true (short_product x y) 65535 ((and-eq-true_iff (both_short x y) _).0 e).1) (eqb (short_product x y) 0) refl
    go false e true = odd_ended zeros (inl refl)
    go false e false = full_product_not_odd (restacked x) (restacked y)
