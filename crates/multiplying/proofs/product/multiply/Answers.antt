-- `multiply` meets its contract: each way out is a case of the operation.
use Rattle.std.proofs.Common.{sym, ◌∙◌}
use Rattle.edition.specs.declared.Edition.TheVariants.{Shipped}
use Rattle.multiplication.specs.Multiplication.{product_of}
use Rattle.literals.proofs.WayLaws.{two_lacking}
use Rattle.multiplying.specs.Product.{product_line}
use Rattle.multiplying.proofs.product.multiply.Goals as goal

pub returns-then-lacks_at : goal.returns-then-lacks_at
returns-then-lacks_at c = two_lacking Shipped _ _ _ (λ ed. product_of) product_line (sym c.lacks_at.ensures ∙ c.if-lacks_at.true) _ c.refusal.ensures
