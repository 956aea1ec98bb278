-- An edition by its number, a law a case.
use Rattle.std.specs.Prelude.{ℕ, ◌≡◌, List}
use Rattle.std.proofs.Common.{arith, eq-eqb, ne_eqb}
use Rattle.edition.specs.declared.Edition.{Edition}
use Rattle.edition.specs.declared.Edition.TheVariants.{Shipped, Mended}
use Rattle.literals.specs.Operate.{outcome, operate_of}
use Rattle.calculator.specs.Outcome.{run_outcome}
use Rattle.calculator.specs.Run.{run_of}
use Rattle.trenailer.specs.Numbered.{numbered, operate_numbered, run_numbered}

module _ {A : Type 0} (n : ℕ) (given : Edition → A) (other : A) where
  zeroth : n ≡ 0 → numbered n given other ≡ given Shipped
  zeroth h = simp (eq-eqb n 0 h)

  first : n ≡ 1 → numbered n given other ≡ given Mended
  first h = simp (ne_eqb n 0 (omega arith), eq-eqb n 1 h)

  neither : (n ≡ 0 → ⊥) → (n ≡ 1 → ⊥) → numbered n given other ≡ other
  neither h g = simp (ne_eqb n 0 h, ne_eqb n 1 g)

module _ (n : ℕ) (s : List ℕ) (d l : ℕ) where
  pub operate_shipped : n ≡ 0 → operate_numbered n s d l ≡ operate_of Shipped s d l
  unfolding operate_numbered
  operate_shipped = zeroth n (λ ed. operate_of ed s d l) (outcome 12 d, s)

  pub operate_mended : n ≡ 1 → operate_numbered n s d l ≡ operate_of Mended s d l
  unfolding operate_numbered
  operate_mended = first n (λ ed. operate_of ed s d l) (outcome 12 d, s)

  pub operate_unknown : (n ≡ 0 → ⊥) → (n ≡ 1 → ⊥) → operate_numbered n s d l ≡ (outcome 12 d, s)
  unfolding operate_numbered
  operate_unknown = neither n (λ ed. operate_of ed s d l) (outcome 12 d, s)

module _ (n : ℕ) (s : List ℕ) (d : ℕ) (ls : List ℕ) where
  pub run_shipped : n ≡ 0 → run_numbered n s d ls ≡ run_of Shipped s d ls
  unfolding run_numbered
  run_shipped = zeroth n (λ ed. run_of ed s d ls) (run_outcome 12 0 d, s)

  pub run_mended : n ≡ 1 → run_numbered n s d ls ≡ run_of Mended s d ls
  unfolding run_numbered
  run_mended = first n (λ ed. run_of ed s d ls) (run_outcome 12 0 d, s)

  pub run_unknown : (n ≡ 0 → ⊥) → (n ≡ 1 → ⊥) → run_numbered n s d ls ≡ (run_outcome 12 0 d, s)
  unfolding run_numbered
  run_unknown = neither n (λ ed. run_of ed s d ls) (run_outcome 12 0 d, s)
