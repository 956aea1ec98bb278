-- `lacks_top` meets its contract: the slot of the top is among those that the stack holds, or there is none.
use Rattle.std.proofs.Common.{Bool, List, arith, false, leb, leb-false, leb-true, length, refl, sym, true, ℕ, ◌%◌, ◌+◌, ◌-◌, ◌/◌, ◌<◌, ◌^◌, ◌≡◌, ◌≤◌}
use Rattle.slots.specs.LimitLaws.{over_length}
use Rattle.slots.specs.Reach.{lacking}
use Rattle.slots.specs.ReachLaws.{has, lacking_over, enough}
use Rattle.slots.proofs.reach.lacks_top.Goals as goal

by_slot : (s : List ℕ) (d r : ℕ) → length s ≤ 16000 → r < 2 ^ 64 → (r + 1) % 2 ^ 64 ≡ d → (b : Bool) → leb (length s / 5) r ≡ b → b ≡ lacking s d 1
by_slot s d r h l e true i = go (lacking s d 1) refl
  where
    go : (t : Bool) → lacking s d 1 ≡ t → true ≡ t
    go true j = refl
    go false j = let y = has s d 1 j in absurd (omega (arith, leb-true (length s / 5) r i, y.0.deep, y.1))
by_slot s d r h l e false i = let w = leb-false (length s / 5) r i in sym (enough s d 1 (record { short = h; deep = omega arith }) (omega arith))

pub returns-then-len-gt16000 : goal.returns-then-len-gt16000
returns-then-len-gt16000 c = sym (lacking_over _ _ _ (over_length _ _ (omega arith)))

pub returns : goal.returns
returns c = by_slot c.args.stack.now c.args.depth ((c.args.depth + (2 ^ 64 - 1)) % 2 ^ 64) (omega arith) (omega arith) (omega arith) _ refl
