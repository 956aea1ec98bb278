-- Demand 2, the run: "It then does the literals in turn and stops at the first refused literal, with that report, the position
-- (literals done before it), and bench and depth as those left them. Report 0 has the list's length as position."
use Rattle.std.specs.Prelude.{ℕ, suc, ◌+◌, ◌<◌, ◌≡◌, refl, Bool, true, false, cond, ◌||◌, List, [], ◌∷◌, ◌⊎◌, eqb, length, get_or, take}
use Rattle.std.proofs.Common.{sym, ◌∙◌, ap, inl, inr, arith, eqb-true}
use Rattle.std.proofs.lemmas.Bool.{eqb-false}
use Rattle.edition.specs.declared.Edition.{Edition}
use Rattle.calculator.specs.Outcome.{RunOutcome}
use Rattle.slots.specs.Reports.{over_limits}
use Rattle.literals.specs.Reports.{too_many_literals, report_of}
use Rattle.literals.specs.Operate.{operate_of}
use Rattle.calculator.specs.Run.{go_on, run_of}
use Rattle.demands.specs.Demand1.{operation_report}

-- the literals ls, each accepted in its turn, lead from the stack s at depth d to the stack t at depth e
pub data Leads (ed : Edition) : List ℕ → List ℕ → ℕ → List ℕ → ℕ → Type 0 where
  none : {s : List ℕ} {d : ℕ} → Leads ed [] s d s d
  more : {l : ℕ} {ls s : List ℕ} {d : ℕ} {t : List ℕ} {e : ℕ} → report_of ed s d l ≡ 0
      → Leads ed ls (operate_of ed s d l).1 (operate_of ed s d l).0.depth t e → Leads ed (l ∷ ls) s d t e

-- k literals were done, they left the stack and the depth, and what comes next is refused with the run's report, or nothing comes
pub record Stopped (ed : Edition) (ls : List ℕ) (s : List ℕ) (d k report : ℕ) (t : List ℕ) (e : ℕ) : Type 0 where
  pub done : Leads ed (take k ls) s d t e
  pub next : ((k ≡ length ls) × (report ≡ 0)) ⊎ ((k < length ls) × (report ≡ report_of ed t e (get_or ls k 0)) × (report ≡ 0 → ⊥))

-- so of a run's outcome x, whose position is i and the literals that were done since
Since : Edition → List ℕ → ℕ → List ℕ → ℕ → RunOutcome × List ℕ → Type 0
Since ed ls i s d x = (k : ℕ) × (x.0.position ≡ i + k) × Stopped ed ls s d k x.0.report x.1 x.0.depth

more_next : (ed : Edition) (ls : List ℕ) (k report : ℕ) (t : List ℕ) (e l : ℕ)
    → ((k ≡ length ls) × (report ≡ 0)) ⊎ ((k < length ls) × (report ≡ report_of ed t e (get_or ls k 0)) × (report ≡ 0 → ⊥))
    → ((suc k ≡ suc (length ls)) × (report ≡ 0)) ⊎ ((suc k < suc (length ls)) × (report ≡ report_of ed t e (get_or ls k 0)) × (report ≡ 0 → ⊥))
more_next ed ls k report t e l (inl h) = inl (ap suc h.0, h.1)
more_next ed ls k report t e l (inr h) = inr (omega arith, h.1, h.2)

since : (ed : Edition) (ls : List ℕ) (i : ℕ) (s : List ℕ) (d : ℕ) → Since ed ls i s d (go_on ed ls i s d)
unfolding go_on Since
since ed [] i s d = (0, omega arith, record { done = none; next = inl (refl, refl) })
since ed (l ∷ ls) i s d = go (eqb (operate_of ed s d l).0.report 0) refl (since ed ls (i + 1) (operate_of ed s d l).1 (operate_of ed s d l).0.depth)
  where
    o : RunOutcome × List ℕ
    o = go_on ed ls (i + 1) (operate_of ed s d l).1 (operate_of ed s d l).0.depth

    go : (b : Bool) → eqb (operate_of ed s d l).0.report 0 ≡ b → Since ed ls (i + 1) (operate_of ed s d l).1 (operate_of ed s d l).0.depth o
        → Since ed (l ∷ ls) i s d (cond b o (record { report = (operate_of ed s d l).0.report; position = i; depth = d }, s))
    go true e h =
        let ok : report_of ed s d l ≡ 0 = sym (operation_report ed s d l) ∙ eqb-true _ _ e in
        (suc h.0, omega (arith, h.1), record { done = more ok h.2.done; next = more_next ed ls h.0 _ _ _ l h.2.next })
    go false e h =
        (0, omega arith, record { done = none; next = inr (omega arith, operation_report ed s d l, eqb-false _ _ e) })

-- A run that report 1 does not stop: as many literals as its position says were done, each accepted in its turn; they left its stack and
-- its depth; and its report is that of the next literal there, or 0 where the position is the list's length.
pub position_is_done : (ed : Edition) (s : List ℕ) (d : ℕ) (ls : List ℕ) → over_limits s d || too_many_literals ls ≡ false
    → let x = run_of ed s d ls in Stopped ed ls s d x.0.position x.0.report x.1 x.0.depth
unfolding run_of Since
position_is_done ed s d ls h =
    let x = since ed ls 0 s d in
    let p : (go_on ed ls 0 s d).0.position ≡ x.0 = omega (arith, x.1) in
    simp h (rw p x.2)
