-- Document 02, A2: "Addition now commutes but for b5 of a short or odd result: show that, and that no run's report, position, depth or cell depends on b5 of a
-- short number below the depth." Of odd ones too, and of either edition.
use Rattle.std.specs.Prelude.{ℕ, ◌-◌, ◌≡◌, List, length}
use Rattle.edition.specs.declared.Edition.{Edition}
use Rattle.addition.specs.Addition.{sum_of}
use Rattle.slots.specs.Slots.{slot, lower, top}
use Rattle.literals.specs.Operate.{operate_of}
use Rattle.calculator.specs.Run.{run_of}
use Rattle.display.specs.Cell.{cell_of}
use Rattle.demands.specs.Agreement.{Agree}
use Rattle.demands.specs.Alike.{Alike, RunsAlike, related_operations, related_runs, related_run_cells}
use Rattle.demands.specs.Demand2.{literals}
use Rattle.demands.specs.Commutes.{commuted_outcome, commuted_bytes}
use Rattle.demands.specs.ButB5.{Like, SameButB5}
use Rattle.demands.specs.ButB5Sums.{sum_commutes}
use Rattle.demands.specs.ButB5Stacks.{bytes_alike, but_b5_carried}

-- With the two operands in each other's place, the report and the depth are the same, and the result's bytes are but for b5, where it is short or odd.
module _ (ed : Edition) (s s' : List ℕ) (d : ℕ) (long : length s ≡ length s') (first : lower s d ≡ top s' d) (second : top s d ≡ lower s' d) where
  pub sum_commutes_outcome : (operate_of ed s d 15).0 ≡ (operate_of ed s' d 15).0
  sum_commutes_outcome = commuted_outcome ed Like 15 sum_of literals.5 (sum_commutes ed) s s' d long first second

  pub sum_commutes_bytes : (operate_of ed s d 15).0.report ≡ 0 → SameButB5 (slot (operate_of ed s d 15).1 (d - 2)) (slot (operate_of ed s' d 15).1 (d - 2))
  sum_commutes_bytes r = let b = commuted_bytes ed Like 15 sum_of literals.5 (sum_commutes ed) s s' d long first second r in rw (b.2, b.3) (bytes_alike b.0 b.1 b.4)

-- Two stacks of one length that agree below the depth but for b5 of slots that are short or odd: an operation and a run answer the same, a run's position
-- among it, and leave stacks that agree in the same way; and the cell made from a run is the same.
module _ (ed : Edition) (d : ℕ) (s s' : List ℕ) (a : Agree SameButB5 d s s') where
  pub operations_but_b5 : (l : ℕ) → Alike SameButB5 (operate_of ed s d l) (operate_of ed s' d l)
  operations_but_b5 = related_operations but_b5_carried d s s' a ed

  pub runs_but_b5 : (ls : List ℕ) → RunsAlike SameButB5 (run_of ed s d ls) (run_of ed s' d ls)
  runs_but_b5 = related_runs but_b5_carried ed d s s' a

  pub cells_but_b5 : (ls : List ℕ) → (let x = run_of ed s d ls in let x' = run_of ed s' d ls in
      cell_of x.0.report x.1 x.0.depth ≡ cell_of x'.0.report x'.1 x'.0.depth)
  cells_but_b5 = related_run_cells but_b5_carried ed d s s' a
