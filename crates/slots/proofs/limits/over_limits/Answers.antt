-- `over_limits` meets its contract: 3,200 slots are all that 16,000 bytes hold.
use Rattle.std.proofs.Common.{arith, refl, sym}
use Rattle.slots.specs.LimitLaws.{over_length, over_depth, by_depth}
use Rattle.slots.proofs.limits.over_limits.Goals as goal

pub returns-then-stack-gt16000 : goal.returns-then-stack-gt16000
returns-then-stack-gt16000 c = sym (over_length _ _ (omega arith))

pub returns-then-depth-gt3200 : goal.returns-then-depth-gt3200
returns-then-depth-gt3200 c = sym (over_depth _ _ (omega arith))

pub returns : goal.returns
returns c = by_depth _ _ (omega arith) _ refl
