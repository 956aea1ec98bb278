-- `shifted` meets its contract: no step leaves a machine word, and together they are the definition's floor.
use Rattle.std.proofs.Common.{SFits, ap, arith, nat_abs, of_z, pos, sym, to_z, to_z-of_z, w64, ℕ, ℤ, ◌*ℤ◌, ◌+ℤ◌, ◌<◌, ◌^◌, ◌∙◌, ◌≡◌, ◌≤◌}
use lib.Signed.{shr_z}
use Rattle.addition.specs.SignedLaws.{nat_abs_twice, nat_abs_moved, nat_abs_sum, held}
use Rattle.addition.proofs.AdditionLaws.{moved_away}
use Rattle.addition.proofs.MantissaLaws.{twice_moved, aligned_lt}
use Rattle.addition.proofs.sum.shifted.Goals as goal

module _ (x : ℤ) (k : ℕ) (f : SFits w64 x) (h : nat_abs x < 2 ^ 32) where
  abbrev doubled : pos 2 *ℤ to_z w64 (of_z w64 x) ≡ pos 2 *ℤ x
  doubled = ap (λ (y : ℤ). pos 2 *ℤ y) (to_z-of_z f)

  two : nat_abs (pos 2 *ℤ x) < 2 ^ 33
  two = omega (arith, nat_abs_twice x)

  one : nat_abs (shr_z (pos 2 *ℤ x) (2 ^ k) +ℤ pos 1) ≤ 2 ^ 33
  one = omega (arith, two, nat_abs_moved (pos 2 *ℤ x) (2 ^ k), nat_abs_sum (shr_z (pos 2 *ℤ x) (2 ^ k)) (pos 1))

  moved : shr_z (to_z w64 (of_z w64 (pos 2 *ℤ to_z w64 (of_z w64 x)))) (2 ^ k) ≡ shr_z (pos 2 *ℤ x) (2 ^ k)
  moved = ap (λ (y : ℤ). shr_z y (2 ^ k)) (held _ _ doubled (omega (arith, two)))

  more : to_z w64 (of_z w64 (shr_z (to_z w64 (of_z w64 (pos 2 *ℤ to_z w64 (of_z w64 x)))) (2 ^ k))) +ℤ pos 1 ≡ shr_z (pos 2 *ℤ x) (2 ^ k) +ℤ pos 1
  more = ap (λ (y : ℤ). y +ℤ pos 1) (held _ _ moved (omega (arith, two, nat_abs_moved (pos 2 *ℤ x) (2 ^ k))))

pub returns-then-places-gt32 : goal.returns-then-places-gt32
returns-then-places-gt32 c = sym (moved_away _ _ c.if-places-gt32.true)

pub returns : goal.returns
returns c =
    let x = c.args.x in let k = c.args.places in
    held _ _ (ap (λ (y : ℤ). shr_z y 2) (held _ _ (more x k c.ranges.x c.requires) (omega (arith, one x k c.ranges.x c.requires))) ∙ twice_moved x k (omega arith)) (omega (arith, aligned_lt k x c.requires))
