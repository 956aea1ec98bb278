-- `full_route` meets its contract: the answer is the product of the two numbers.
use Rattle.std.proofs.Common.{ap, ap₂, refl, sym, ℕ, ◌∙◌}
use Rattle.edition.specs.declared.Edition.TheVariants.{Shipped}
use Rattle.multiplication.specs.Multiplication.{product_of}
use Rattle.literals.specs.Operate.{operate_of}
use Rattle.operands.specs.Stored.{stored_of, stored_as, two_stored}
use Rattle.multiplying.specs.Product.{product_line, pair_malformed}
use Rattle.multiplying.proofs.product.full_route.Goals as goal

pub returns-in_default : goal.returns-in_default
returns-in_default c = pair_malformed _ _ _ _ c.requires c.in_default.ensures

pub returns : goal.returns
returns c =
    let f = c.in-Some.ensures in
    let is = c.multiplication-answer.ensures ∙ f.1 in
    ap (λ (d : ℕ). operate_of Shipped c.args.stack.now d 4) c.requires.same
    ∙ two_stored Shipped _ _ _ (λ ed. product_of) product_line c.requires.there f.0 _ _ _ (ap₂ (stored_of c.args.stack.now) (sym c.requires.same) (sym is) ∙ stored_as _ _ _ _ _ _ (c.requires.same, c.requires.there, refl, refl) c.store.ensures)
