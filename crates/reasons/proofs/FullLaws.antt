-- Where a recording has no room for another record.
use Rattle.std.specs.Prelude.{ℕ, ◌+◌, ◌≤◌, ◌<◌, ◌≡◌, None, Some}
use Rattle.std.proofs.Common.{arith, lt-ltb, le-ltb}
use Rattle.reasons.specs.declared.why.Why.TheVariants.{Full}
use Rattle.reasons.specs.Complaint.{why_full}

pub full : (end : ℕ) → 63984 < end → Some Full ≡ why_full end
unfolding why_full
full end h = simp (lt-ltb 64000 (end + 16) (omega arith))

pub not_full : (end : ℕ) → end ≤ 63984 → None ≡ why_full end
unfolding why_full
not_full end h = simp (le-ltb 64000 (end + 16) (omega arith))
