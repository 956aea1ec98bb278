-- `short_route` meets its contract: what `short_product` answers is the product of the two.
use Rattle.std.proofs.Common.{ap, ap₂, arith, mod-eq_of_lt, refl, subst₂, sym, ℕ, ◌∙◌}
use Rattle.std.proofs.lemmas.Option.{MatchOption-at_none, MatchOption-at_some}
use Rattle.edition.specs.declared.Edition.TheVariants.{Shipped}
use Rattle.number.specs.declared.Number.{Number}
use Rattle.multiplication.specs.Multiplication.{product_of}
use Rattle.multiplication.specs.ShortProduct.{Multiplied}
use Rattle.slots.specs.Reach.{number_at}
use Rattle.literals.specs.Operate.{operate_of}
use Rattle.operands.specs.Stored.{stored_of, stored_as, two_stored}
use Rattle.multiplying.specs.Product.{product_line, by_words, pair_malformed}
use Rattle.multiplying.proofs.product.short_route.Goals as goal
use Rattle.multiplying.proofs.product.short_route.Goals.{After-short_product}

-- the numbers by their words
multiplied : (c : After-short_product) → Multiplied (number_at c.args.stack.now c.args.old 1) (number_at c.args.stack.now c.args.old 0) c.short_product.result
multiplied c =
    let w = by_words _ _ c.requires.forms in
    subst₂ (λ (x y : Number). Multiplied x y c.short_product.result) w.0 w.1
    (c.short_product.ensures _ _ (sym c.b2_at.ensures ∙ sym (mod-eq_of_lt (omega arith))) (sym c.low_at.ensures) (sym c.b2_at-2.ensures ∙ sym (mod-eq_of_lt (omega arith))) (sym c.low_at-2.ensures))

pub returns-in_default : goal.returns-in_default
returns-in_default c = pair_malformed _ _ _ _ c.requires (MatchOption-at_none _ _ c.in_default.is (multiplied (goal.at.returns-in_default c).After-short_product))

pub returns : goal.returns
returns c =
    let m = MatchOption-at_some _ _ _ c.in-Some.is (multiplied (goal.at.returns c).After-short_product) in
    ap (λ (n : ℕ). operate_of Shipped c.args.stack.now n 4) c.requires.same
    ∙ two_stored Shipped _ _ _ (λ ed. product_of) product_line c.requires.there m.0 _ _ _ (ap₂ (stored_of c.args.stack.now) (sym c.requires.same) m.1 ∙ stored_as _ _ _ _ _ _ (c.requires.same, c.requires.there, refl, refl) c.store.ensures)
