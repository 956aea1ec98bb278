-- Document 02, A3: "Show that a mended run with no odd slot below the depth leaves none." For any literals, done or refused, whatever the bytes are.
use Rattle.std.specs.Prelude.{ℕ, ◌+◌, ◌-◌, ◌≤◌, ◌<◌, ◌≡◌, refl, Bool, true, false, cond, ◌||◌, eqb}
use Rattle.std.proofs.Common.{sym, ◌∙◌, subst, true≢false, arith, eqb-true}
use Rattle.std.proofs.Math.Path.{ap}
use mathlib.Core.List.{List, [], ◌∷◌}
use Rattle.std.proofs.lemmas.Bool.{eqb-false}
use Rattle.edition.specs.declared.Edition.TheVariants.{Mended}
use Rattle.number.specs.declared.Number.{Number}
use Rattle.number.specs.Number.{malformed, odd}
use Rattle.ending.specs.NotOdd.{NotOdd}
use Rattle.slots.specs.Slots.{slot, number_in, bytes_of, lower, top}
use Rattle.slots.specs.Reports.{over_limits}
use Rattle.literals.specs.Literals.{Operation, exchange, delete, duplicate, one, two, unknown, operation_of}
use Rattle.literals.specs.Reports.{not_in_table, malformed_in, malformed_operand, too_many_literals, report_of}
use Rattle.literals.specs.Operate.{operate_of}
use Rattle.calculator.specs.Outcome.{RunOutcome}
use Rattle.calculator.specs.Run.{go_on, run_of}
use Rattle.slots.specs.SlotFacts.{same_slot, number_slot, number_back}
use Rattle.demands.specs.Counts.{takes_of, leaves_of, takes_are, leaves_are}
use Rattle.demands.specs.Accepted.{accepted}
use Rattle.demands.specs.Alike.{neither}
use Rattle.demands.specs.Demand1.{refused_operation}
use Rattle.demands.specs.Demand2.{stands, new_depth, after_two, after_one, after_delete, after_duplicate, after_exchange}
use Rattle.demands.specs.NoOddLaws.{Takes, GivesNone, gives_none, from_slot, only_none}

-- no slot below the depth holds an odd number
abbrev pub NoOdd : List ℕ → ℕ → Type 0
NoOdd s d = (i : ℕ) → i < d → odd (number_in s i) ≡ false

module _ (s : List ℕ) (d l : ℕ) (none : NoOdd s d) where
  module _ (ok : report_of Mended s d l ≡ 0) where
    abbrev t : List ℕ
    t = (operate_of Mended s d l).1

    -- a number that an accepted literal takes is neither malformed nor odd
    taken : (x : Number) → malformed_in Mended x ≡ false → Takes x
    taken x h = neither (malformed x) (odd x) h

    formed : (o : Operation) → operation_of l ≡ o → malformed_operand Mended o s d ≡ false
    formed o e = ap (λ (p : Operation). malformed_operand Mended p s d) (sym e) ∙ ((accepted Mended s d l).0 ok).0.formed

    put : (n : Number) → odd n ≡ false → odd (number_in (bytes_of n) 0) ≡ false
    put n h = ap odd (number_back n) ∙ h

    exchanged : operation_of l ≡ exchange → 2 ≤ d → NoOdd t d
    exchanged e w j h = go (eqb j (d - 1)) (eqb j (d - 2)) refl refl
      where
        go : (b c : Bool) → eqb j (d - 1) ≡ b → eqb j (d - 2) ≡ c → odd (number_in t j) ≡ false
        go true c p q = from_slot s t (d - 2) j (ap (slot t) (eqb-true _ _ p) ∙ (after_exchange Mended s d l ok e).1) (none (d - 2) (omega arith))
        go false true p q = from_slot s t (d - 1) j (ap (slot t) (eqb-true _ _ q) ∙ (after_exchange Mended s d l ok e).2) (none (d - 1) (omega arith))
        go false false p q =
            let a = after_exchange Mended s d l ok e in
            let m = eqb-false j (d - 1) p in
            let n = eqb-false j (d - 2) q in
            from_slot s t j j (same_slot t s j a.0 (λ k g. a.3 k (λ x y. omega (arith, m, n)))) (none j h)

    by_operation : (o : Operation) → operation_of l ≡ o → GivesNone o → NoOdd t (d - takes_of o + leaves_of o)
    unfolding malformed_operand not_in_table
    by_operation exchange e g = let w = stands Mended s d l ok exchange e in λ j h. exchanged e w.0 j (omega arith)
    by_operation delete e g = λ j h. ap (λ (u : List ℕ). odd (number_in u j)) (after_delete Mended s d l ok e) ∙ none j (omega arith)
    by_operation duplicate e g =
        let w = stands Mended s d l ok duplicate e in
        let a = after_duplicate Mended s d l ok e in
        only_none s t d (slot s (d - 1)) a (rw (← number_slot s (d - 1)) (none (d - 1) (omega arith))) _ (λ j h n. none j (omega arith))
    by_operation (one f) e g =
        let w = stands Mended s d l ok (one f) e in
        let a = after_one Mended s d l ok f e in
        only_none s t (d - 1) (bytes_of a.0) a.2 (put a.0 (subst NotOdd a.1 (g (top s d) (taken _ (formed (one f) e))))) _ (λ j h n. none j (omega arith))
    by_operation (two f) e g =
        let w = stands Mended s d l ok (two f) e in
        let a = after_two Mended s d l ok f e in
        let m = neither (malformed_in Mended (lower s d)) (malformed_in Mended (top s d)) (formed (two f) e) in
        only_none s t (d - 2) (bytes_of a.0) a.2 (put a.0 (subst NotOdd a.1 (g (lower s d) (top s d) (taken _ m.0) (taken _ m.1)))) _
        (λ j h n. none j (omega arith))
    by_operation unknown e g = absurd (true≢false (sym (ap not_in_table e) ∙ ((accepted Mended s d l).0 ok).0.known))

    done_none : NoOdd t (operate_of Mended s d l).0.depth
    done_none = rw (new_depth Mended s d l ok, takes_are l, leaves_are l) (by_operation (operation_of l) refl (gives_none l))

  -- a refused literal changes nothing
  pub refused_no_odd : (report_of Mended s d l ≡ 0 → ⊥) → NoOdd (operate_of Mended s d l).1 (operate_of Mended s d l).0.depth
  refused_no_odd h = let k = refused_operation Mended s d l h in rw (k.0, k.1) none

  -- one literal, done or refused
  pub operation_no_odd : NoOdd (operate_of Mended s d l).1 (operate_of Mended s d l).0.depth
  operation_no_odd = go (eqb (report_of Mended s d l) 0) refl
    where
      go : (b : Bool) → eqb (report_of Mended s d l) 0 ≡ b → NoOdd (operate_of Mended s d l).1 (operate_of Mended s d l).0.depth
      go true e = done_none (eqb-true _ _ e)
      go false e = refused_no_odd (eqb-false _ _ e)

-- ---- a run

-- what a run leaves
abbrev LeavesNone : RunOutcome × List ℕ → Type 0
LeavesNone x = NoOdd x.1 x.0.depth

either_way : (b : Bool) (x y : RunOutcome × List ℕ) → LeavesNone x → LeavesNone y → LeavesNone (cond b x y)
either_way true x y h k = h
either_way false x y h k = k

rest_no_odd : (ls : List ℕ) (i : ℕ) (s : List ℕ) (d : ℕ) → NoOdd s d → LeavesNone (go_on Mended ls i s d)
unfolding go_on
rest_no_odd [] i s d none = none
rest_no_odd (l ∷ ls) i s d none =
    either_way (eqb (operate_of Mended s d l).0.report 0) _ _ (rest_no_odd ls (i + 1) _ _ (operation_no_odd s d l none)) none

-- A mended run on a stack with no odd slot below the depth leaves none below the new depth, whatever the literals and wherever it stops.
pub run_no_odd : (s : List ℕ) (d : ℕ) (ls : List ℕ) → NoOdd s d → (let x = run_of Mended s d ls in NoOdd x.1 x.0.depth)
unfolding run_of
run_no_odd s d ls none = either_way (over_limits s d || too_many_literals ls) _ _ none (rest_no_odd ls 0 s d none)
