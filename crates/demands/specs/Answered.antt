-- What a literal that takes two numbers leaves on a stack where its arithmetic gives a number: the number in the first one's slot, and nothing else moved.
use Rattle.std.specs.Prelude.{ℕ, ◌+◌, ◌-◌, ◌*◌, ◌≤◌, ◌<◌, ◌≡◌, List, length, get_or, Some}
use Rattle.ending.specs.Ending.{Answer}
use Rattle.std.proofs.Common.{◌∙◌, ap, arith}
use Rattle.edition.specs.declared.Edition.{Edition}
use Rattle.number.specs.declared.Number.{Number}
use Rattle.slots.specs.Slots.{number_in, lower, top}
use Rattle.literals.specs.Literals.{two, operation_of}
use Rattle.literals.specs.Reports.{is_too_big, too_big}
use Rattle.literals.specs.Operate.{operate_of}
use Rattle.slots.specs.SlotFacts.{number_there}
use Rattle.demands.specs.Accepted.{Passed, accepted, within}
use Rattle.demands.specs.Counts.{takes_of, takes_are, leaves_of, leaves_are}
use Rattle.demands.specs.Demand1.{operation_report}
use Rattle.demands.specs.Demand2.{new_depth, after_two}

pub record Answered (ed : Edition) (s : List ℕ) (d l : ℕ) (n : Number) : Type 0 where
  pub report : (operate_of ed s d l).0.report ≡ 0
  pub depth : (operate_of ed s d l).0.depth ≡ d - 1
  pub there : number_in (operate_of ed s d l).1 (d - 2) ≡ n
  pub long : length (operate_of ed s d l).1 ≡ length s
  pub elsewhere : (k : ℕ) → (5 * (d - 2) ≤ k → k < 5 * (d - 2) + 5 → ⊥) → get_or (operate_of ed s d l).1 k 0 ≡ get_or s k 0

pub answered : (ed : Edition) (s : List ℕ) (d l : ℕ) (f : Edition → Number → Number → Answer) → operation_of l ≡ two f → Passed ed s d l → (n : Number) → f ed (lower s d) (top s d) ≡ Some n → Answered ed s d l n
unfolding too_big is_too_big
answered ed s d l f o p n e =
    let ok = (accepted ed s d l).1 (p, simp o (ap is_too_big e)) in
    let w = within ed s d l p in
    let takes = takes_are l ∙ ap takes_of o in
    let leaves = leaves_are l ∙ ap leaves_of o in
    let a = after_two ed s d l ok f o in
    let same : a.0 ≡ n = cc (a.1, e) in
    record {
      report = operation_report ed s d l ∙ ok;
      depth = new_depth ed s d l ok ∙ omega arith;
      there = number_there (operate_of ed s d l).1 (d - 2) a.0 a.2.there ∙ same;
      long = a.2.long;
      elsewhere = a.2.elsewhere;
    }
