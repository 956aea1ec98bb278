-- Demand 2, what is not read: "No report, depth, view, cell or slot below the new depth depends on bytes at or above the old depth."
-- Said of two stacks of one length that agree below the depth, every slot there having the same bytes: every call answers the same, a run's position
-- among it, and leaves stacks that agree below the new depth.
use Rattle.std.specs.Prelude.{ℕ, ◌-◌, ◌*◌, ◌/◌, ◌%◌, ◌<◌, refl, ◌↔◌, ◌||◌, List, length, get_or}
use Rattle.std.proofs.Math.Path.{◌≡◌}
use Rattle.std.proofs.Common.{sym, ◌∙◌, ap, ap₂, arith}
use Rattle.std.proofs.Math.Dec.{eqb}
use borrow.Author.Tests.{eqb-false}
use Rattle.edition.specs.declared.Edition.{Edition}
use Rattle.slots.specs.Slots.{number_in}
use Rattle.slots.specs.Reports.{over_limits}
use Rattle.slots.specs.Push.{push_of}
use Rattle.slots.specs.View.{view_of}
use Rattle.literals.specs.Literals.{Operation, exchange, delete, duplicate, one, two, unknown, operation_of}
use Rattle.literals.specs.Reports.{malformed_in}
use Rattle.literals.specs.Operate.{operate_of}
use Rattle.calculator.specs.Run.{run_of}
use Rattle.display.specs.Cell.{number_shown, cell_of}
use Rattle.slots.specs.SlotFacts.{byte_in_slot, same_slot}
use Rattle.demands.specs.Agreement.{Agree, limits_agree}
use Rattle.demands.specs.Independence.{Kept, Carried, answers_same}
use Rattle.demands.specs.Alike.{Alike, RunsAlike, choice, neither, related_operations, related_pushes, related_runs, related_cells}

-- They agree exactly when they have one length and the same bytes below the depth.
pub same_below : (d : ℕ) (s s' : List ℕ) → Agree ◌≡◌ d s s' ↔ ((length s ≡ length s') × ((k : ℕ) → k < 5 * d → get_or s k 0 ≡ get_or s' k 0))
same_below d s s' = (
  (λ a. (a.long, λ k h. byte_in_slot s k ∙ ap (λ (p : List ℕ). get_or p (k % 5) 0) (a.below (k / 5) (omega arith)) ∙ sym (byte_in_slot s' k))),
  (λ b. record { long = b.0; below = λ i h. same_slot s s' i b.0 (λ k g. b.1 k (omega arith)) }),
)

-- any operation gives the same of the same bytes
kept : (o : Operation) → Kept ◌≡◌ o
kept (one f) = λ ed p p' e. answers_same (λ n. refl) _ _ (ap (λ (r : List ℕ). f ed (number_in r 0)) e)
kept (two f) = λ ed p p' q q' e g. answers_same (λ n. refl) _ _ (ap₂ (λ (r t : List ℕ). f ed (number_in r 0) (number_in t 0)) e g)
kept exchange = tt
kept delete = tt
kept duplicate = tt
kept unknown = tt

carried : Carried ◌≡◌
carried =
    record {
      same = λ p. refl;
      forms = λ ed p p' e. ap (λ (q : List ℕ). malformed_in ed (number_in q 0)) e;
      cells = λ p p' e. ap (λ (q : List ℕ). number_shown (number_in q 0)) e;
      operations = λ l. kept (operation_of l);
    }

module _ (d : ℕ) (s s' : List ℕ) (a : Agree ◌≡◌ d s s') where
  pub operations_alike : (ed : Edition) (l : ℕ) → Alike ◌≡◌ (operate_of ed s d l) (operate_of ed s' d l)
  operations_alike = related_operations carried d s s' a

  pub pushes_alike : (p : List ℕ) → Alike ◌≡◌ (push_of s d p) (push_of s' d p)
  pushes_alike = related_pushes carried d s s' a

  pub runs_alike : (ed : Edition) (ls : List ℕ) → RunsAlike ◌≡◌ (run_of ed s d ls) (run_of ed s' d ls)
  runs_alike ed = related_runs carried ed d s s' a

  pub views_same : view_of s d ≡ view_of s' d
  unfolding view_of
  views_same =
      rw (← limits_agree d s s' a)
      (choice ◌≡◌ (over_limits s d || eqb d 0) (λ e. refl) (λ e. a.below (d - 1) (omega (arith, eqb-false d 0 (neither (over_limits s d) _ e).1))))

pub cells_same : (r d : ℕ) (s s' : List ℕ) → Agree ◌≡◌ d s s' → cell_of r s d ≡ cell_of r s' d
cells_same r d s s' a = related_cells carried d s s' a r
