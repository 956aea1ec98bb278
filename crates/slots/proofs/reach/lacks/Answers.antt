-- `lacks` meets its contract: 3,200 slots are all that 16,000 bytes hold, and five times as much fits 32 bits.
use Rattle.std.proofs.Common.{arith, refl, sym}
use Rattle.slots.specs.LimitLaws.{over_length, over_depth}
use Rattle.slots.specs.ReachLaws.{lacking_over, lacking_few, by_fit}
use Rattle.slots.proofs.reach.lacks.Goals as goal

pub returns-then-stack-gt16000 : goal.returns-then-stack-gt16000
returns-then-stack-gt16000 c = sym (lacking_over _ _ _ (over_length _ _ (omega arith)))

pub returns-then-depth-takes : goal.returns-then-depth-takes
returns-then-depth-takes c = sym (lacking_few _ _ _ (omega arith))

pub returns-then-depth-gt3200 : goal.returns-then-depth-gt3200
returns-then-depth-gt3200 c = sym (lacking_over _ _ _ (over_depth _ _ (omega arith)))

pub returns : goal.returns
returns c = by_fit _ _ _ (omega arith) (omega arith) _ refl
