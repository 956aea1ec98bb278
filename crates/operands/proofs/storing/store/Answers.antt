-- `store` meets its contract: a case an answer.
use Rattle.std.proofs.Common.{List, ap, ap₂, arith, sym, ℕ, ◌%◌, ◌+◌, ◌-◌, ◌^◌, ◌∙◌, ◌≡◌}
use Rattle.ending.specs.Ending.{Answer}
use Rattle.operands.specs.Stored.{stored_at}
use Rattle.operands.proofs.storing.store.Goals as goal

pub returns-in-Some : goal.returns-in-Some
unfolding stored_at
returns-in-Some c =
    let a = c.args in
    let below : (a.depth.now + 2 ^ 64 - a.taken) % 2 ^ 64 ≡ (a.depth.now + (2 ^ 64 - a.taken)) % 2 ^ 64 = omega arith in
    ap (λ (x : Answer). stored_at a.stack.now a.depth.now a.old x a.taken a.left) c.in-Some.is
    ∙ ap₂ (λ (d : ℕ) (s : List ℕ). (0, d, s)) (ap (λ (d : ℕ). (d + a.left) % 2 ^ 64) below) (sym c.put_at.ensures)

pub returns-in-None : goal.returns-in-None
unfolding stored_at
returns-in-None c =
    let a = c.args in
    ap (λ (x : Answer). stored_at a.stack.now a.depth.now a.old x a.taken a.left) c.in-None.is
