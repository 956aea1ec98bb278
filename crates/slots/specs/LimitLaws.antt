-- Report 1, a law a case.
use Rattle.std.specs.Prelude.{◌≡◌, ℕ, ◌*◌, ◌<◌, ◌≤◌, Bool, true, false, ◌||◌, List, length, nat_lt}
use Rattle.std.proofs.Math.Path.{refl}
use Rattle.std.proofs.Common.{sym, arith}
use borrow.Author.Tests.{lt-ltb, le-ltb, ltb-true, ltb-false}
use Rattle.slots.specs.Reports.{over_limits}

-- report 1 does not apply
pub record Within (s : List ℕ) (d : ℕ) : Type 0 where
  pub short : length s ≤ 16000
  pub deep : 5 * d ≤ length s

module _ (s : List ℕ) (d : ℕ) where
  pub over_length : 16000 < length s → over_limits s d ≡ true
  unfolding over_limits
  over_length h = simp (lt-ltb _ _ h)

  pub over_depth : length s < 5 * d → over_limits s d ≡ true
  unfolding over_limits
  over_depth h = go (nat_lt 16000 (length s))
    where
      go : (b : Bool) → b || nat_lt (length s) (5 * d) ≡ true
      go true = refl
      go false = lt-ltb _ _ h

  pub within : Within s d → over_limits s d ≡ false
  unfolding over_limits
  within w = simp (le-ltb _ _ w.short, le-ltb _ _ w.deep)

  pub within_of : over_limits s d ≡ false → Within s d
  unfolding over_limits
  within_of h = go (nat_lt 16000 (length s)) refl h
    where
      go : (b : Bool) → nat_lt 16000 (length s) ≡ b → b || nat_lt (length s) (5 * d) ≡ false → Within s d
      go true e k = absurd (let z : ◌≡◌ {A = ℕ} 0 1 = cc in omega arith)
      go false e k = record { short = ltb-false _ _ e; deep = ltb-false _ _ k }

  -- the length is within its limit: the depth decides
  pub by_depth : length s ≤ 16000 → (b : Bool) → nat_lt (length s) (5 * d) ≡ b → b ≡ over_limits s d
  by_depth h true e = sym (over_depth (ltb-true _ _ e))
  by_depth h false e = sym (within (record { short = h; deep = ltb-false _ _ e }))
