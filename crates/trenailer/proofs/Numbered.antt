-- An edition by its number, where it was decoded.
use Rattle.std.specs.Prelude.{ℕ, ◌≡◌, ◌<◌, List}
use Rattle.std.proofs.Common.{arith, sym}
use Rattle.edition.specs.declared.Edition.{Edition}
use Rattle.edition.specs.declared.Edition.TheVariants.{Shipped, Mended}
use Rattle.edition.specs.Numbers.{edition_number}
use Rattle.literals.specs.Operate.{outcome, operate_of}
use Rattle.calculator.specs.Outcome.{run_outcome}
use Rattle.calculator.specs.Run.{run_of}
use Rattle.trenailer.specs.Numbered.{operate_numbered, run_numbered}
use Rattle.trenailer.specs.NumberedLaws.{operate_shipped, operate_mended, operate_unknown, run_shipped, run_mended, run_unknown}

module _ (n : ℕ) (s : List ℕ) (d l : ℕ) where
  pub operate_known : (ed : Edition) → edition_number ed ≡ n → operate_numbered n s d l ≡ operate_of ed s d l
  operate_known Shipped e = operate_shipped n s d l (sym e)
  operate_known Mended e = operate_mended n s d l (sym e)

  pub operate_none : 1 < n → operate_numbered n s d l ≡ (outcome 12 d, s)
  operate_none h = operate_unknown n s d l (omega (arith, h)) (omega (arith, h))

module _ (n : ℕ) (s : List ℕ) (d : ℕ) (ls : List ℕ) where
  pub run_known : (ed : Edition) → edition_number ed ≡ n → run_numbered n s d ls ≡ run_of ed s d ls
  run_known Shipped e = run_shipped n s d ls (sym e)
  run_known Mended e = run_mended n s d ls (sym e)

  pub run_none : 1 < n → run_numbered n s d ls ≡ (run_outcome 12 0 d, s)
  run_none h = run_unknown n s d ls (omega (arith, h)) (omega (arith, h))
