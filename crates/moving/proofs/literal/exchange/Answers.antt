-- `exchange` meets its contract: each way out is a case of the operation.
use Rattle.std.proofs.Common.{List, ap, ap₂, arith, sym, ℕ, ◌∙◌}
use Rattle.number.specs.declared.Number.{Number}
use Rattle.number.specs.Number.{number}
use Rattle.slots.specs.Reach.{put_at}
use Rattle.literals.specs.Operate.{outcome}
use Rattle.literals.proofs.MoveLaws.{exchange_lacking, exchange_done}
use Rattle.moving.proofs.literal.exchange.Goals as goal

pub returns : goal.returns
returns c ed =
    let top = ap₂ number c.b1_at-top1.ensures c.word_at-top.ensures in
    let lower = ap₂ number c.b1_at-lower1.ensures c.word_at-lower.ensures in
    exchange_done ed _ _ (λ k. omega (arith, c.slice_known-1.given k)) (sym c.lacks_at.ensures ∙ c.if-lacks_at.false)
    ∙ ap (λ (t : List ℕ). (outcome 0 c.args.depth.now, t))
    (sym (c.put_at-2.ensures
    ∙ ap₂ (λ (t : List ℕ) (n : Number). put_at t c.args.depth.now 0 n) (c.put_at.ensures ∙ ap (put_at c.args.stack.now c.args.depth.now 1) top) lower))

pub returns-then-lacks_at : goal.returns-then-lacks_at
returns-then-lacks_at c ed = exchange_lacking ed _ _ (sym c.lacks_at.ensures ∙ c.if-lacks_at.true) _ c.refusal.ensures
