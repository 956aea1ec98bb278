-- `factored` meets its contract: of a short first number and a full second, the other way round.
use Rattle.std.proofs.Common.{ap₂, subst}
use Rattle.number.specs.declared.Number.{Number}
use Rattle.number.specs.Number.{number}
use Rattle.slots.specs.Reach.{number_at}
use Rattle.multiplying.specs.Product.{Factored, factored_swapped}
use Rattle.multiplying.proofs.product.factored.Goals as goal
use Rattle.multiplying.proofs.product.factored.Goals.{Start}

abbrev x : Start → Number
x i = number_at i.args.stack.now i.args.depth 1

abbrev y : Start → Number
y i = number_at i.args.stack.now i.args.depth 0

pub returns : goal.returns
returns c =
    factored_swapped (x c.before.before.before.before.before.before.before) (y c.before.before.before.before.before.before.before) c.short_by_full.result
    (subst (λ (n : Number). Factored n (x c.before.before.before.before.before.before.before) c.short_by_full.result) (ap₂ number c.b1_at-c1.ensures c.word_at-other.ensures) c.short_by_full.ensures)
