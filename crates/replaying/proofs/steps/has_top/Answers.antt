-- `has_top` meets its contract: five bytes are the same where b1 and the four others are.
use Rattle.std.proofs.Common.{arith, sym, ◌∙◌}
use Rattle.replaying.proofs.TopLaws.{top_not_five, top_b1, top_four}
use Rattle.replaying.proofs.steps.has_top.Goals as goal

pub returns-then-top_b1 : goal.returns-then-top_b1
returns-then-top_b1 c =
    let i = c.args in
    top_b1 i.bytes.now i.stack.now i.depth c.top_in-five.ensures c.if-five-ne5.false
    (λ k. omega (arith, c.shared_slice_known-1.given k))
    (λ k. omega (arith, c.shared_slice_known-2-1.given k))
    (λ z. c.if-top_b1.true (c.top_b1.ensures ∙ z ∙ sym c.top_b1-2.ensures))

pub returns : goal.returns
returns c =
    let i = c.args in
    top_four i.bytes.now i.stack.now i.depth c.top_in-five.ensures c.if-five-ne5.false
    (λ k. omega (arith, c.shared_slice_known-1.given k))
    (λ k. omega (arith, c.shared_slice_known-2-1.given k))
    (sym c.top_b1.ensures ∙ c.if-top_b1.false ∙ c.top_b1-2.ensures)
    c.top_four.result c.top_four-2.result (omega arith) (omega arith) c.top_four.ensures c.top_four-2.ensures

pub returns-then-five-ne5 : goal.returns-then-five-ne5
returns-then-five-ne5 c = let i = c.args in top_not_five i.bytes.now _ _ c.top_in-five.ensures c.if-five-ne5.true
