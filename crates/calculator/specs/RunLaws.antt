-- The run, a law a turn: the list is at its end, the next literal is refused, or it is done.
use Rattle.std.specs.Prelude.{ℕ, ◌+◌, ◌≤◌, ◌<◌, ◌≡◌, true, false, List, length, get_or, drop}
use Rattle.std.proofs.Common.{add-one, drop-cons}
use Rattle.std.proofs.Math.Seq.{drop-length}
use borrow.Author.Tests.{lt-ltb, le-ltb, eq-eqb, ne_eqb}
use Rattle.edition.specs.declared.Edition.{Edition}
use Rattle.slots.specs.Outcome.{Outcome}
use Rattle.calculator.specs.Outcome.{RunOutcome}
use Rattle.slots.specs.Reports.{over_limits}
use Rattle.literals.specs.Reports.{too_many_literals}
use Rattle.literals.specs.Operate.{operate_of}
use Rattle.literals.specs.OperateLaws.{operate_kept}
use Rattle.calculator.specs.Run.{go_on, run_of}

module _ (ed : Edition) (ls : List ℕ) (i : ℕ) (s : List ℕ) (d : ℕ) where
  pub at_end : i ≡ length ls → go_on ed (drop i ls) i s d ≡ (record { report = 0; position = i; depth = d }, s)
  unfolding go_on
  at_end h = simp (h, drop-length)

  module _ (k : i < length ls) (o : Outcome) (s' : List ℕ) (e : operate_of ed s d (get_or ls i 0) ≡ (o, s')) where
    pub stops : (o.report ≡ 0 → ⊥) → go_on ed (drop i ls) i s d ≡ (record { report = o.report; position = i; depth = o.depth }, s')
    unfolding go_on
    stops h = let q = operate_kept ed s d _ o s' e h in rw (drop-cons ls i 0 k) (simp (e, ne_eqb _ _ h, q.0, q.1))

    pub goes_on : o.report ≡ 0 → go_on ed (drop i ls) i s d ≡ go_on ed (drop (i + 1) ls) (i + 1) s' o.depth
    unfolding go_on
    goes_on h = rw (drop-cons ls i 0 k) (simp (e, eq-eqb _ _ h, add-one))

module _ (ed : Edition) (s : List ℕ) (d : ℕ) (ls : List ℕ) where
  pub run_over : over_limits s d ≡ true → run_of ed s d ls ≡ (record { report = 1; position = 0; depth = d }, s)
  unfolding run_of
  run_over h = simp h

  pub run_too_long : over_limits s d ≡ false → 60000 < length ls → run_of ed s d ls ≡ (record { report = 1; position = 0; depth = d }, s)
  unfolding run_of too_many_literals
  run_too_long w h = simp (w, lt-ltb _ _ h)

  pub run_starts : over_limits s d ≡ false → length ls ≤ 60000 → go_on ed ls 0 s d ≡ run_of ed s d ls
  unfolding run_of too_many_literals
  run_starts w h = simp (w, le-ltb _ _ h)

-- an edition by another name
pub run_named : (s : List ℕ) (d : ℕ) (ls : List ℕ) {v w : Edition} {x : RunOutcome × List ℕ} → v ≡ w → run_of w s d ls ≡ x → run_of v s d ls ≡ x
run_named s d ls e h = rw e h
