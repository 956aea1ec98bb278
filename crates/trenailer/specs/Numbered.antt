-- An edition by its number, as the C interface has it. Number 12 refuses any other, "before all else": no byte and no depth changes, and a run's position is 0.
use Rattle.std.specs.Prelude.{ℕ, cond, List, eqb}
use Rattle.edition.specs.declared.Edition.{Edition}
use Rattle.edition.specs.declared.Edition.TheVariants.{Shipped, Mended}
use Rattle.slots.specs.Outcome.{Outcome}
use Rattle.literals.specs.Operate.{outcome, operate_of}
use Rattle.calculator.specs.Outcome.{RunOutcome, run_outcome}
use Rattle.calculator.specs.Run.{run_of}

-- what is given in the edition of that number, and else what there is instead
abbrev pub numbered : {A : Type 0} → ℕ → (Edition → A) → A → A
numbered n given other = cond (eqb n 0) (given Shipped) (cond (eqb n 1) (given Mended) other)

unfoldable pub operate_numbered : ℕ → List ℕ → ℕ → ℕ → Outcome × List ℕ
operate_numbered n s d l = numbered n (λ ed. operate_of ed s d l) (outcome 12 d, s)

unfoldable pub run_numbered : ℕ → List ℕ → ℕ → List ℕ → RunOutcome × List ℕ
run_numbered n s d ls = numbered n (λ ed. run_of ed s d ls) (run_outcome 12 0 d, s)
