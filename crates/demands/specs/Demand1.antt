-- Demand 1: "Any bytes, any depth and any literals may come in. Every call ends, refuses exactly by document 01's table, and a refused
-- operation changes no byte of the lent stack and no depth. A cell made from a refusal carries no number."
-- That any bytes, depth and literals may come in, and that every call ends, is in the contracts of `calculator`: they require nothing.
-- Document 02, A3: "Demands 1 and 2 hold for each edition against its own rules." Each theorem here and in the files of demand 2 is of both.
use Rattle.std.specs.Prelude.{ℕ, zero, suc, ◌≡◌, refl, ◌↔◌, Bool, true, false, cond, ◌||◌, List, [], ◌∷◌}
use Rattle.std.proofs.Common.{sym, ◌∙◌, ne_eqb}
use Rattle.edition.specs.declared.Edition.{Edition}
use Rattle.display.specs.declared.shown.Cell.{Cell}
use Rattle.display.specs.declared.shown.Cell.TheVariants.{Refused, Blank, Odd, Value}
use Rattle.slots.specs.Reports.{When, first, push_rows, over_limits, push_report}
use Rattle.slots.specs.Push.{settled, push_of}
use Rattle.slots.proofs.PushLaws.{settled_refused}
use Rattle.literals.specs.Reports.{rows, too_many_literals, report_of}
use Rattle.literals.specs.Operate.{operate_of}
use Rattle.literals.specs.OperateLaws.{operate_kept}
use Rattle.calculator.specs.Run.{go_on, run_of}
use Rattle.display.specs.Cell.{cell_of, report_in, carried_by, nothing}
use Rattle.display.specs.CellLaws.{cell_refused}

-- "refuses exactly by document 01's table": the report of every operation and push is the table's
settled_report : (r d : ℕ) (s : List ℕ) (d' : ℕ) (s' : List ℕ) → (settled r d s d' s').0.report ≡ r
unfolding settled
settled_report zero d s d' s' = refl
settled_report (suc k) d s d' s' = refl

pub operation_report : (ed : Edition) (s : List ℕ) (d l : ℕ) → (operate_of ed s d l).0.report ≡ report_of ed s d l
unfolding operate_of
operation_report ed s d l = settled_report (report_of ed s d l) d s _ _

pub push_report_lem : (s : List ℕ) (d : ℕ) (p : List ℕ) → (push_of s d p).0.report ≡ push_report s d p
unfolding push_of
push_report_lem s d p = settled_report (push_report s d p) d s _ _

-- "Each is given exactly then": the row n holds, and none before it does
pub data Given : ℕ → List When → Type 0 where
  here : {w : When} {ws : List When} → w.holds ≡ true → Given w.number (w ∷ ws)
  later : {n : ℕ} {w : When} {ws : List When} → w.holds ≡ false → Given n ws → Given n (w ∷ ws)

first_given : (ws : List When) → (first ws ≡ 0 → ⊥) → Given (first ws) ws
first_given [] h = absurd (h refl)
first_given (w ∷ ws) h = go w.holds refl (λ k. first_given ws k) h
  where
    go : (b : Bool) → w.holds ≡ b → ((first ws ≡ 0 → ⊥) → Given (first ws) ws) → (cond b w.number (first ws) ≡ 0 → ⊥) → Given (cond b w.number (first ws)) (w ∷ ws)
    go true e r k = here e
    go false e r k = later e (r k)

given : (ws : List When) (r n : ℕ) → r ≡ first ws → (n ≡ 0 → ⊥) → r ≡ n → Given n ws
given ws r n e h q = rw (sym e ∙ q) at (first_given ws (λ z. h (sym q ∙ (e ∙ z))))

given_first : {n : ℕ} {ws : List When} → Given n ws → first ws ≡ n
given_first (here e) = simp e
given_first (later e g) = simp e (given_first g)

pub operation_exactly : (ed : Edition) (s : List ℕ) (d l n : ℕ) → (n ≡ 0 → ⊥) → ((operate_of ed s d l).0.report ≡ n) ↔ Given n (rows ed s d l)
unfolding report_of
operation_exactly ed s d l n h = ((λ e. given (rows ed s d l) _ n (operation_report ed s d l) h e), (λ g. operation_report ed s d l ∙ given_first g))

pub push_exactly : (s : List ℕ) (d : ℕ) (p : List ℕ) (n : ℕ) → (n ≡ 0 → ⊥) → ((push_of s d p).0.report ≡ n) ↔ Given n (push_rows s d p)
unfolding push_report
push_exactly s d p n h = ((λ e. given (push_rows s d p) _ n (push_report_lem s d p) h e), (λ g. push_report_lem s d p ∙ given_first g))

-- "a refused operation changes no byte of the lent stack and no depth"
pub refused_operation : (ed : Edition) (s : List ℕ) (d l : ℕ) → (report_of ed s d l ≡ 0 → ⊥) → ((operate_of ed s d l).1 ≡ s) × ((operate_of ed s d l).0.depth ≡ d)
refused_operation ed s d l h = operate_kept ed s d l _ _ refl (λ e. h (sym (operation_report ed s d l) ∙ e))

pub refused_push : (s : List ℕ) (d : ℕ) (p : List ℕ) → (push_report s d p ≡ 0 → ⊥) → ((push_of s d p).1 ≡ s) × ((push_of s d p).0.depth ≡ d)
unfolding push_of
refused_push s d p h = settled_refused (push_report s d p) d s _ _ _ _ refl (λ e. h (sym (push_report_lem s d p) ∙ e))

-- A run step that is refused: the run stops there, with the step's report, and the stack and the depth that the step found.
pub refused_step : (ed : Edition) (l : ℕ) (ls : List ℕ) (i : ℕ) (s : List ℕ) (d : ℕ) → (report_of ed s d l ≡ 0 → ⊥)
    → go_on ed (l ∷ ls) i s d ≡ (record { report = report_of ed s d l; position = i; depth = d }, s)
unfolding go_on
refused_step ed l ls i s d h = simp (operation_report ed s d l, ne_eqb (report_of ed s d l) 0 h)

-- "A run checks report 1 once, even for an empty list, and refuses with nothing done and position 0."
pub refused_run : (ed : Edition) (s : List ℕ) (d : ℕ) (ls : List ℕ) → over_limits s d || too_many_literals ls ≡ true
    → run_of ed s d ls ≡ (record { report = 1; position = 0; depth = d }, s)
unfolding run_of
refused_run ed s d ls h = simp h

-- "A cell made from a refusal carries no number": it names the report, and nothing else is in it
pub refused_cell : (r : ℕ) (s : List ℕ) (d : ℕ) → (r ≡ 0 → ⊥)
    → (cell_of r s d ≡ Refused r) × (report_in (cell_of r s d) ≡ r) × (carried_by (cell_of r s d) ≡ nothing)
unfolding report_in carried_by
refused_cell r s d h = let e = cell_refused r s d h in (e, simp e, simp e)

-- and so of any cell that names a report, 1 for the stack as it is now and 3 for a malformed top among them
pub refusal_without_number : (c : Cell) → (report_in c ≡ 0 → ⊥) → carried_by c ≡ nothing
unfolding report_in carried_by
refusal_without_number (Refused n) h = refl
refusal_without_number Blank h = refl
refusal_without_number Odd h = refl
refusal_without_number (Value x) h = absurd (h refl)
