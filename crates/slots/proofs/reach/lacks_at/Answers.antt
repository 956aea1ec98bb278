-- `lacks_at` meets its contract: of numbers that are small, a difference that wraps is one below 0.
use Rattle.std.proofs.Common.{Bool, List, arith, false, leb, leb-false, leb-true, length, refl, sym, true, ℕ, ◌%◌, ◌*◌, ◌+◌, ◌-◌, ◌<◌, ◌^◌, ◌≡◌, ◌≤◌}
use Rattle.slots.specs.LimitLaws.{over_length, over_depth}
use Rattle.slots.specs.Reach.{lacking}
use Rattle.slots.specs.ReachLaws.{lacking_over, lacking_few, enough}
use Rattle.slots.proofs.reach.lacks_at.Goals as goal

by_sign : (s : List ℕ) (d n r : ℕ) → length s ≤ 16000 → n ≤ d → d ≤ 3200 → r < 2 ^ 64 → (r + 5 * d) % 2 ^ 64 ≡ length s
    → (b : Bool) → leb (2 ^ 63) r ≡ b → b ≡ lacking s d n
by_sign s d n r h g k l e true i = let w = leb-true (2 ^ 63) r i in sym (lacking_over s d n (over_depth s d (omega arith)))
by_sign s d n r h g k l e false i = let w = leb-false (2 ^ 63) r i in sym (enough s d n (record { short = h; deep = omega arith }) g)

pub returns-then-len-gt16000 : goal.returns-then-len-gt16000
returns-then-len-gt16000 c = sym (lacking_over _ _ _ (over_length _ _ (omega arith)))

pub returns-then-d-takes : goal.returns-then-d-takes
returns-then-d-takes c = sym (lacking_few _ _ _ (omega arith))

pub returns-then-d-gt3200 : goal.returns-then-d-gt3200
returns-then-d-gt3200 c = sym (lacking_over _ _ _ (over_depth _ _ (omega arith)))

pub returns : goal.returns
returns c =
    let s = c.args.stack.now in
    let d = c.args.depth.now in
    by_sign s d c.args.takes ((length s + (2 ^ 64 - 5 * d)) % 2 ^ 64) (omega arith) (omega arith) (omega arith) (omega arith) (omega arith) _ refl
