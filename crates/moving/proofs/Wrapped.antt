-- The depth after a duplicate, as a machine word: where it wraps, what it lacks is the same.
use Rattle.std.proofs.Common.{Bool, List, ap, arith, false, length, ltb, ltb-false, ltb-true, mod-eq_of_lt, nat_lt, refl, sym, true, ℕ, ◌%◌, ◌*◌, ◌+◌, ◌<◌, ◌^◌, ◌∙◌, ◌≡◌, ◌≤◌}
use Rattle.slots.specs.Reports.{over_limits}
use Rattle.slots.specs.LimitLaws.{over_length, over_depth}
use Rattle.slots.specs.Reach.{lacking}
use Rattle.slots.specs.ReachLaws.{lacking_over, lacking_few}

-- more numbers than any stack holds
beyond : (s : List ℕ) (d : ℕ) → 3200 < d → over_limits s d ≡ true
beyond s d h = go (ltb 16000 (length s)) refl
  where
    go : (b : Bool) → ltb 16000 (length s) ≡ b → over_limits s d ≡ true
    go true e = over_length s d (ltb-true _ _ e)
    go false e = let m = ltb-false 16000 (length s) e in over_depth s d (omega arith)

pub wrapped : (s : List ℕ) (d : ℕ) → d < 2 ^ 64 → lacking s ((d + 1) % 2 ^ 64) 2 ≡ lacking s (d + 1) 2
wrapped s d l = go (ltb (d + 1) (2 ^ 64)) refl
  where
    go : (b : Bool) → ltb (d + 1) (2 ^ 64) ≡ b → lacking s ((d + 1) % 2 ^ 64) 2 ≡ lacking s (d + 1) 2
    go true e = ap (λ (n : ℕ). lacking s n 2) (mod-eq_of_lt (ltb-true _ _ e))
    go false e = let m = ltb-false (d + 1) (2 ^ 64) e in lacking_few s _ 2 (omega arith) ∙ sym (lacking_over s (d + 1) 2 (beyond s (d + 1) (omega arith)))
