-- `duplicate` meets its contract: what the depth after it lacks is a case of the operation, and else the top is copied.
use Rattle.std.proofs.Common.{List, ap, ap₂, arith, false, mod-eq_of_lt, not, refl, sym, true, ℕ, ◌+◌, ◌-◌, ◌∙◌, ◌≡◌}
use Rattle.slots.specs.Numbers.{number_of}
use Rattle.slots.specs.Reach.{lacking, refusal_of}
use Rattle.slots.specs.ReachLaws.{has, copied_nowhere, copied_at}
use Rattle.literals.specs.Operate.{outcome}
use Rattle.literals.proofs.MoveLaws.{duplicate_lacking, duplicate_done}
use Rattle.moving.proofs.Wrapped.{wrapped}
use Rattle.moving.proofs.literal.duplicate.Goals as goal
use Rattle.moving.proofs.literal.duplicate.Given.{Over as Given}
use Rattle.moving.proofs.literal.duplicate.Goals.{Else-not-copies, Then-not-copies}

there : (g : Given) (c : Else-not-copies g) → (let a = c.args in lacking a.stack.now (a.depth.now + 1) 2 ≡ false)
there g c = sym c.copies.ensures.0 ∙ ap not c.if-not-copies.false

-- nothing is there to copy, or no room: the stack is as it was
lacks : (g : Given) (c : Then-not-copies g) → (let a = c.args in lacking a.stack.now (a.depth.now + 1) 2 ≡ true)
lacks g c = sym c.copies.ensures.0 ∙ ap not c.if-not-copies.true

pub returns : goal.returns
returns g c ed =
    let d = c.args.depth.now in
    let h = there g (goal.at.returns g c).Else-not-copies in
    let y = has _ _ _ h in
    let next : d + 1 ≡ d - 1 + 2 = omega (arith, y.1) in
    duplicate_done ed c.args.stack.now d (d + 1) (sym (mod-eq_of_lt (omega (arith, y.0.short, y.0.deep)))) (λ n. omega (arith, c.slice_known-1.given n)) (omega arith) h
    ∙ ap₂ (λ (n : ℕ) (t : List ℕ). (outcome 0 n, t)) next (sym (c.copies.ensures.1 ∙ copied_at _ _ h))

pub returns-then-not-copies : goal.returns-then-not-copies
returns-then-not-copies g c ed =
    let s = c.args.stack.now in
    let d = c.args.depth.now in
    let few = lacks g (goal.at.returns-then-not-copies g c).Then-not-copies in
    let same = c.copies.ensures.1 ∙ copied_nowhere s d few in
    duplicate_lacking ed s d _ refl (wrapped s d (omega arith) ∙ few) _ (c.refusal.ensures ∙ ap (λ (t : List ℕ). refusal_of t d 1) same)
    ∙ ap (λ (t : List ℕ). (outcome (number_of c.refusal.result) d, t)) (sym same)

pub overflow_sub-depth : goal.overflow_sub-depth
overflow_sub-depth g c = omega (arith, has _ _ _ (there g (goal.at.overflow_sub-depth g c).Else-not-copies))

pub overflow_add-depth : goal.overflow_add-depth
overflow_add-depth g c = omega (arith, has _ _ _ (there g (goal.at.overflow_add-depth g c).Else-not-copies))
