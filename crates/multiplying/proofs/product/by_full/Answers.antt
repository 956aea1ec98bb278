-- `by_full` meets its contract: the second number is full too, or is measured.
use Rattle.std.proofs.Common.{ap₂, arith, bit_xor, subst, Some, ◌+◌}
use Rattle.number.specs.declared.Number.{Number}
use Rattle.number.specs.Number.{number, mantissa}
use Rattle.multiplying.specs.Product.{Factored, factors_of, factored_full}
use Rattle.multiplying.proofs.product.by_full.Goals as goal

pub returns-then-c1-ne0 : goal.returns-then-c1-ne0
returns-then-c1-ne0 c =
    let x = number c.args.b1 c.args.word in
    let y = number c.b1_at-c1.result c.word_at-other.result in
    let f = factors_of (bit_xor x.word y.word) x.word (mantissa y) (x.b1 + y.b1) in
    subst (λ (n : Number). Factored x n (Some f)) (ap₂ number c.b1_at-c1.ensures c.word_at-other.ensures) (factored_full x y (omega arith) (omega arith) c.requires c.if-c1-ne0.true)
