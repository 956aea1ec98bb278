-- The cell, a law a case.
use Rattle.std.specs.Prelude.{ℕ, ◌≡◌, Bool, ◌||◌, List, eqb}
use Rattle.std.proofs.Math.Path.{refl}
use Rattle.std.proofs.Common.{sym, ap, arith}
use Rattle.std.proofs.Math.Bool.{true, false, cond}
use borrow.Author.Tests.{eq-eqb, ne_eqb, ltb-true}
use Rattle.std.proofs.Math.Dec.{ltb}
use Rattle.display.specs.declared.shown.Cell.TheVariants.{Refused, Blank}
use Rattle.slots.specs.Slots.{top}
use Rattle.slots.specs.Reports.{over_limits}
use Rattle.slots.specs.LimitLaws.{within}
use Rattle.slots.specs.Reach.{lacking, number_at}
use Rattle.slots.specs.ReachLaws.{has, number_at_lem}
use Rattle.display.specs.Cell.{number_shown, cell_of}

module _ (r : ℕ) (s : List ℕ) (d : ℕ) where
  pub cell_refused : (r ≡ 0 → ⊥) → cell_of r s d ≡ Refused r
  unfolding cell_of
  cell_refused h = simp (ne_eqb r 0 h)

  -- a stack beyond its limits, or at depth 0
  pub cell_blank : r ≡ 0 → lacking s d 1 ≡ true → cell_of r s d ≡ cond (over_limits s d) (Refused 1) Blank
  unfolding cell_of lacking
  cell_blank h l = simp (eq-eqb r 0 h) (go (over_limits s d) l)
    where
      go : (b : Bool) → b || ltb d 1 ≡ true → cond b (Refused 1) (cond (eqb d 0) Blank (number_shown (top s d))) ≡ cond b (Refused 1) Blank
      go true k = refl
      go false k = simp (eq-eqb d 0 (omega (arith, ltb-true d 1 k)))

  pub cell_shown : r ≡ 0 → lacking s d 1 ≡ false → cell_of r s d ≡ number_shown (number_at s d 0)
  unfolding cell_of
  cell_shown h l =
      let e = has s d 1 l in
      simp (eq-eqb r 0 h, within s d e.0, ne_eqb d 0 (omega (arith, e))) (ap number_shown (sym (number_at_lem s d 0 l)))
