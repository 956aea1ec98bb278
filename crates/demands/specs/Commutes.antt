-- A literal that takes two numbers, whose arithmetic commutes up to a relation: with the two operands in each other's place the report and the depth are the
-- same, and so are the results, up to that relation.
use Rattle.std.specs.Prelude.{ℕ, zero, suc, ◌+◌, ◌-◌, ◌≡◌, refl, ◌||◌, List, length, Some}
use Rattle.ending.specs.Ending.{Answer}
use Rattle.std.proofs.Common.{sym, ◌∙◌, arith}
use Rattle.std.proofs.Math.Path.{ap, ap₂}
use Rattle.std.proofs.Math.Bool.{or_comm}
use Rattle.edition.specs.declared.Edition.{Edition}
use Rattle.number.specs.declared.Number.{Number}
use Rattle.slots.specs.Slots.{slot, bytes_of, lower, top}
use Rattle.slots.specs.Reports.{over_limits}
use Rattle.slots.specs.Push.{settled}
use Rattle.literals.specs.Literals.{two, operation_of, takes, leaves}
use Rattle.literals.specs.Reports.{not_in_table, no_room_for, malformed_in, malformed_operand, too_big, report_of}
use Rattle.literals.specs.Operate.{bytes_after, operate_of}
use Rattle.demands.specs.Demand1.{operation_report}
use Rattle.demands.specs.Demand2.{after_two}
use Rattle.demands.specs.Independence.{Answers, done, both_too_big, too_big_same}

-- report and depth do not go by the bytes
outcome_alone : (r d d' : ℕ) (s s' t t' : List ℕ) → (settled r d s d' t).0 ≡ (settled r d s' d' t').0
unfolding settled
outcome_alone zero d d' s s' t t' = refl
outcome_alone (suc k) d d' s s' t t' = refl

-- two answers that are numbers
related : {N : Number → Number → Type 0} {v v' : Answer} → Answers N v v' → (a b : Number) → v ≡ Some a → v' ≡ Some b → N a b
related (done {n} {m} r) a b e f = let p : n ≡ a = cc in let q : m ≡ b = cc in rw (← p, ← q) r
related both_too_big a b e f = absurd (let z : ◌≡◌ {A = ℕ} 0 1 = cc in omega arith)

module _ (ed : Edition) (N : Number → Number → Type 0) (l : ℕ) (f : Edition → Number → Number → Answer) (o : operation_of l ≡ two f) (c : (x y : Number) → Answers N (f ed x y) (f ed y x))
    (s s' : List ℕ) (d : ℕ) (long : length s ≡ length s') (first : lower s d ≡ top s' d) (second : top s d ≡ lower s' d) where
  answers : Answers N (f ed (lower s d) (top s d)) (f ed (lower s' d) (top s' d))
  answers = rw (← first, ← second) (c (lower s d) (top s d))

  same_report : report_of ed s d l ≡ report_of ed s' d l
  unfolding report_of not_in_table no_room_for malformed_operand too_big over_limits
  same_report =
      let forms = ap₂ (λ (x y : Number). malformed_in ed x || malformed_in ed y) first second ∙ or_comm (malformed_in ed (top s' d)) (malformed_in ed (lower s' d)) in
      simp (o, long, forms, too_big_same answers)

  pub commuted_outcome : (operate_of ed s d l).0 ≡ (operate_of ed s' d l).0
  unfolding operate_of
  commuted_outcome = ap (λ (r : ℕ). (settled r d s (d - takes l + leaves l) (bytes_after ed (operation_of l) s d)).0) same_report ∙ outcome_alone (report_of ed s' d l) _ _ _ _ _ _

  pub commuted_bytes : (operate_of ed s d l).0.report ≡ 0
      → (n m : Number) × (slot (operate_of ed s d l).1 (d - 2) ≡ bytes_of n) × (slot (operate_of ed s' d l).1 (d - 2) ≡ bytes_of m) × N n m
  commuted_bytes r =
      let ok : report_of ed s d l ≡ 0 = sym (operation_report ed s d l) ∙ r in
      let a = after_two ed s d l ok f o in
      let b = after_two ed s' d l (sym same_report ∙ ok) f o in
      (a.0, b.0, a.2.there, b.2.there, related answers a.0 b.0 a.1 b.1)
