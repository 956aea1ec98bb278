-- `sum` meets its contract: each way out is a case of the operation, and the short route says which.
use Rattle.std.proofs.Common.{List, ap, ap₂, arith, false, refl, subst, sym, ℕ, ◌+◌, ◌-◌, ◌∙◌, ◌≡◌}
use Rattle.edition.specs.declared.Edition.TheVariants.{Shipped}
use Rattle.addition.specs.declared.short.Short.{Short}
use Rattle.addition.specs.SignBytes.{Says}
use Rattle.slots.specs.Reach.{lacking, number_at}
use Rattle.slots.specs.ReachLaws.{has}
use Rattle.literals.specs.Operate.{outcome}
use Rattle.literals.proofs.WayLaws.{two_lacking, two_malformed, two_done}
use Rattle.operands.specs.Stored.{stored_of, stored_as, two_stored}
use Rattle.adding.specs.Sum.{flips, total_of, sum_line}
use Rattle.adding.proofs.sum.sum.Goals as goal
use Rattle.adding.proofs.sum.sum.Goals.{After-short_route-short, Else-lacks_at}

-- both numbers are there
there : (c : Else-lacks_at) → (let a = c.args in lacking a.stack.now a.depth.now 2 ≡ false)
there c = sym c.lacks_at.ensures ∙ c.if-lacks_at.false

-- what the short route's answer says
said : (c : After-short_route-short) (r : Short) → c.short_route-short.result ≡ r → (let a = c.args in
    Says (flips a.flip) (number_at a.stack.now a.depth.now 1) (number_at a.stack.now a.depth.now 0) r)
said c r e = subst (Says _ _ _) e c.short_route-short.ensures

pub returns-then-lacks_at : goal.returns-then-lacks_at
returns-then-lacks_at c =
    let l = flips c.args.flip in
    two_lacking Shipped _ _ _ (total_of l) (sum_line l) (sym c.lacks_at.ensures ∙ c.if-lacks_at.true) _ c.refusal.ensures

pub returns-in-Malformed : goal.returns-in-Malformed
unfolding Says
returns-in-Malformed c =
    let l = flips c.args.flip in
    two_malformed Shipped _ _ _ (total_of l) (sum_line l) (there (goal.at.returns-in-Malformed c).Else-lacks_at) (said (goal.at.returns-in-Malformed c).After-short_route-short _ c.in-Malformed.is)

pub returns-in-Stored : goal.returns-in-Stored
unfolding Says
returns-in-Stored c =
    let s = c.args.stack.now in
    let d = c.args.depth.now in
    let l = flips c.args.flip in
    let t = said (goal.at.returns-in-Stored c).After-short_route-short _ c.in-Stored.is in
    let after : d - 1 ≡ d - 2 + 1 = omega (arith, has _ _ _ (there (goal.at.returns-in-Stored c).Else-lacks_at)) in
    two_done Shipped _ _ _ (total_of l) (sum_line l) (there (goal.at.returns-in-Stored c).Else-lacks_at) t.0 _ t.1 ∙ ap₂ (λ (e : ℕ) (u : List ℕ). (outcome 0 e, u)) after (sym c.put_halves_at.ensures)

pub returns-in-Exact : goal.returns-in-Exact
unfolding Says
returns-in-Exact c =
    let l = flips c.args.flip in
    let t = said (goal.at.returns-in-Exact c).After-short_route-short _ c.in-Exact.is in
    two_stored Shipped _ _ _ (total_of l) (sum_line l) (there (goal.at.returns-in-Exact c).Else-lacks_at) t.0 _ _ _ (ap (stored_of c.args.stack.now c.args.depth.now) t.1 ∙ stored_as _ _ _ _ _ _ (refl, there (goal.at.returns-in-Exact c).Else-lacks_at, refl, refl) c.store.ensures)

pub overflow_sub-depth : goal.overflow_sub-depth
overflow_sub-depth c = omega (arith, has _ _ _ (there (goal.at.overflow_sub-depth c).Else-lacks_at))
