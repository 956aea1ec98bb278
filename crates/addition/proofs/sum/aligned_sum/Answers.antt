-- `aligned_sum` meets its contract: the larger comes first by a choice (`larger_chosen`).
use Rattle.std.proofs.Common.{Bool, SFits, ap, ap₂, arith, cond, false, ltb, nat_abs, of_z, pos, sym, to_z, to_z-of_z, true, w64, ℕ, ℤ, ◌%◌, ◌*◌, ◌+ℤ◌, ◌+◌, ◌-◌, ◌<◌, ◌^◌, ◌∙◌, ◌≡◌}
use Rattle.std.proofs.Math.Nat.{max_comm}
use lib.Signed.{rem_z}
use Rattle.addition.specs.Addition.{aligned, ended_sum}
use Rattle.addition.specs.SignedLaws.{low_bits_lt, held}
use Rattle.addition.proofs.MantissaLaws.{larger_chosen}
use Rattle.addition.proofs.sum.aligned_sum.Goals as goal
use Rattle.addition.proofs.sum.aligned_sum.Goals.{After-select_unpredictable, After-select_unpredictable-2, After-low_bits-n, Start}

abbrev cut : ℤ → ℤ
cut z = rem_z z (pos 4294967296)

below : (z : ℤ) → nat_abs (cut z) < 2 ^ 32
below z = low_bits_lt z 4294967296 (omega arith)

either : (b : Bool) (y z : ℤ) → nat_abs (cond b (cut y) (cut z)) < 2 ^ 32
either true y z = below y
either false y z = below z

-- an integer's low bits, as they are handed on
handed : (z r : ℤ) → SFits w64 z → r ≡ cut (to_z w64 (of_z w64 z)) → to_z w64 (of_z w64 r) ≡ cut z
handed z r f e = held _ _ (e ∙ ap cut (to_z-of_z f)) (omega (arith, below z))

x : (c : After-low_bits-n) → to_z w64 (of_z w64 c.low_bits-m.result) ≡ cut c.args.x
x c = handed _ _ c.ranges.x c.low_bits-m.ensures

y : (c : After-low_bits-n) → to_z w64 (of_z w64 c.low_bits-n.result) ≡ cut c.args.y
y c = handed _ _ c.ranges.y c.low_bits-n.ensures

-- one of the two, as it is handed on
picked : (b : Bool) (r p q y z : ℤ) → r ≡ cond b p q → p ≡ cut y → q ≡ cut z → to_z w64 (of_z w64 r) ≡ cond b (cut y) (cut z)
picked b r p q y z e f g = held _ _ (e ∙ ap₂ (cond b) f g) (omega (arith, either b y z))

-- which exponent byte is the larger
unfoldable late : Start → Bool
late c = ltb (c.args.e % 256) (c.args.f % 256)

large : (c : After-select_unpredictable) → (to_z w64 (of_z w64 c.select_unpredictable.result) ≡ cond (late c.before.before.before.before) (cut c.args.y) (cut c.args.x))
unfolding late
large c =
    picked (late c.before.before.before.before) _ _ _ c.args.y c.args.x c.select_unpredictable.ensures (y c.before.before) (x c.before.before)

small : (c : After-select_unpredictable-2) → (to_z w64 (of_z w64 c.select_unpredictable-2.result) ≡ cond (late c.before.before.before.before.before) (cut c.args.x) (cut c.args.y))
unfolding late
small c =
    picked (late c.before.before.before.before.before) _ _ _ c.args.x c.args.y c.select_unpredictable-2.ensures (x c.before.before.before) (y c.before.before.before)

pub returns : goal.returns
unfolding late
returns c =
    let e = c.args.e % 256 in
    let f = c.args.f % 256 in
    let n = c.max-most.result in
    c.summed.ensures
    ∙ ap₂ (λ (j k : ℤ). ended_sum (j +ℤ aligned (2 * n - (e + f)) k) n) (large c.before.before) (small c.before)
    ∙ ap (λ (m : ℕ). ended_sum (cond (late c.before.before.before.before.before.before) (cut c.args.y) (cut c.args.x) +ℤ aligned (2 * m - (e + f)) (cond (late c.before.before.before.before.before.before) (cut c.args.x) (cut c.args.y))) m) (c.max-most.ensures ∙ max_comm f e)
    ∙ sym (larger_chosen (cut c.args.x) (cut c.args.y) e f)
