-- A refused operation leaves all as it was, and an accepted one leaves what the definition says.
use Rattle.std.specs.Prelude.{ℕ, suc, ◌+◌, ◌-◌, ◌≡◌, true, List}
use Rattle.std.proofs.Math.Path.{ap}
use borrow.Author.Tests.{ne_eqb}
use Rattle.edition.specs.declared.Edition.{Edition}
use Rattle.slots.specs.Outcome.{Outcome}
use Rattle.slots.specs.Reports.{over_limits}
use Rattle.slots.specs.Push.{settled}
use Rattle.slots.proofs.PushLaws.{settled_refused}
use Rattle.literals.specs.Literals.{unknown, Row, row, row_of, operation_of, takes, leaves}
use Rattle.literals.specs.Reports.{not_in_table, report_of}
use Rattle.literals.specs.Operate.{outcome, bytes_after, operate_of}

module _ (ed : Edition) (s : List ℕ) (d l : ℕ) where
  pub operate_refused : {k : ℕ} → report_of ed s d l ≡ suc k → operate_of ed s d l ≡ (outcome (suc k) d, s)
  unfolding operate_of settled
  operate_refused h = simp h

  pub operate_over : over_limits s d ≡ true → operate_of ed s d l ≡ (outcome 1 d, s)
  unfolding report_of
  operate_over h = operate_refused (simp h)

  pub operate_done : report_of ed s d l ≡ 0 → operate_of ed s d l ≡ (outcome 0 (d - takes l + leaves l), bytes_after ed (operation_of l) s d)
  unfolding operate_of settled
  operate_done h = simp h

  pub operate_kept : (o : Outcome) (s' : List ℕ) → operate_of ed s d l ≡ (o, s') → (o.report ≡ 0 → ⊥) → (s' ≡ s) × (o.depth ≡ d)
  unfolding operate_of
  operate_kept o s' e h = settled_refused (report_of ed s d l) d s _ _ o s' e h

-- an edition by another name
pub operate_named : (s : List ℕ) (d l : ℕ) {v w : Edition} {x : Outcome × List ℕ} → v ≡ w → operate_of w s d l ≡ x → operate_of v s d l ≡ x
operate_named s d l e h = rw e h

-- a literal that is in no row
module _ (l : ℕ) (a : l ≡ 1 → ⊥) (b : l ≡ 2 → ⊥) (c : l ≡ 3 → ⊥) (d : l ≡ 4 → ⊥) (e : l ≡ 5 → ⊥) (f : l ≡ 15 → ⊥) (g : l ≡ 27 → ⊥) (h : l ≡ 39 → ⊥)
    (i : l ≡ 49 → ⊥) (j : l ≡ 58 → ⊥) (k : l ≡ 61 → ⊥) where
  no_row : row_of l ≡ row l unknown 0 0
  unfolding row_of
  no_row =
      simp (
        ne_eqb l 1 a,
        ne_eqb l 2 b,
        ne_eqb l 3 c,
        ne_eqb l 4 d,
        ne_eqb l 5 e,
        ne_eqb l 15 f,
        ne_eqb l 27 g,
        ne_eqb l 39 h,
        ne_eqb l 49 i,
        ne_eqb l 58 j,
        ne_eqb l 61 k,
      )

  pub in_no_row : not_in_table (operation_of l) ≡ true
  unfolding not_in_table operation_of
  in_no_row = ap (λ (q : Row). not_in_table q.operation) no_row
