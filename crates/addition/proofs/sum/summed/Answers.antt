-- `summed` meets its contract: the sum of two that are below 2^32 is below 2^33.
use Rattle.std.proofs.Common.{ap, ap₂, arith, nat_abs, of_z, subst, sym, to_z, to_z-of_z, w64, ℤ, ◌+ℤ◌, ◌+◌, ◌<◌, ◌^◌, ◌∙◌, ◌≡◌}
use Rattle.addition.specs.Addition.{aligned, ended_sum}
use Rattle.addition.specs.SignedLaws.{nat_abs_sum, holds, held}
use Rattle.addition.proofs.MantissaLaws.{aligned_lt}
use Rattle.addition.proofs.sum.summed.Goals as goal
use Rattle.addition.proofs.sum.summed.Goals.{After-shifted}

sum : (c : After-shifted) → ℤ
sum c = let a = c.args in a.x +ℤ aligned a.places a.y

small : (c : After-shifted) → nat_abs (sum c) + 1 < 2 ^ 33
unfolding sum
small c =
    let a = c.args in
    let p = c.requires in
    omega (arith, p.0, aligned_lt a.places a.y p.1, nat_abs_sum a.x (aligned a.places a.y))

added : (c : After-shifted) → to_z w64 (of_z w64 c.args.x) +ℤ to_z w64 (of_z w64 c.shifted.result) ≡ sum c
unfolding sum
added c =
    let a = c.args in
    ap₂ ◌+ℤ◌ (to_z-of_z c.ranges.x)
    (held _ _ (c.shifted.ensures ∙ ap (aligned a.places) (to_z-of_z c.ranges.y)) (omega (arith, aligned_lt a.places a.y c.requires.1)))

word : (c : After-shifted) → to_z w64 (of_z w64 (to_z w64 (of_z w64 c.args.x) +ℤ to_z w64 (of_z w64 c.shifted.result))) ≡ sum c
word c = held _ _ (added c) (omega (arith, small c))

pub overflow_add-x : goal.overflow_add-x
unfolding sum
overflow_add-x c = holds _ _ (added c) (omega (arith, small c))

pub ended-requires : goal.ended-requires
unfolding sum
ended-requires c = (subst (λ (z : ℤ). nat_abs z + 1 < 2 ^ 33) (sym (word c)) (small c), c.requires.2)

pub returns : goal.returns
unfolding sum
returns c = c.ended.ensures ∙ ap (λ (z : ℤ). ended_sum z c.args.e) (word c.before)
