-- The view, a law a case.
use Rattle.std.specs.Prelude.{◌≡◌, ℕ, ◌-◌, ◌*◌, ◌≤◌, Bool, true, false, cond, ◌||◌, List, [], length, take, drop, ◌==◌, nat_lt}
use Rattle.std.proofs.Math.Path.{refl}
use Rattle.std.proofs.Common.{arith, length-take}
use borrow.Author.Tests.{eq-eqb, ne_eqb, ltb-true}
use Rattle.slots.specs.Slots.{slot}
use Rattle.slots.specs.Reports.{over_limits}
use Rattle.slots.specs.LimitLaws.{within}
use Rattle.slots.specs.Reach.{lacking}
use Rattle.slots.specs.ReachLaws.{has}
use Rattle.slots.specs.View.{view_of}

module _ (s : List ℕ) (d : ℕ) where
  pub view_empty : lacking s d 1 ≡ true → view_of s d ≡ []
  unfolding view_of lacking
  view_empty h = go (over_limits s d) h
    where
      go : (b : Bool) → b || nat_lt d 1 ≡ true → cond (b || d == 0) [] (slot s (d - 1)) ≡ []
      go true k = refl
      go false k = simp (eq-eqb d 0 (omega (arith, ltb-true d 1 k)))

  pub view_top : lacking s d 1 ≡ false → view_of s d ≡ take 5 (drop (5 * (d - 1)) s)
  unfolding view_of slot
  view_top h = let e = has s d 1 h in simp (within s d e.0, ne_eqb d 0 (omega (arith, e)))

pub view_length : (s : List ℕ) (d : ℕ) → length (view_of s d) ≤ 5
unfolding view_of slot
view_length s d = go (over_limits s d || d == 0)
  where
    go : (t : Bool) → length (cond t [] (take 5 (drop (5 * (d - 1)) s))) ≤ 5
    go true = omega arith
    go false = omega (arith, length-take 5 (drop (5 * (d - 1)) s))
