-- `short_by_full` meets its contract: what `magnitude_of` measures is the short number.
use Rattle.std.proofs.Common.{ap, arith, mod-eq_of_lt, subst, sym, true, ℕ, ◌||◌, ◌∙◌, ◌≡◌}
use mathlib.Core.Bool.{or-true}
use Rattle.number.specs.declared.Number.{Number}
use Rattle.number.specs.Number.{number, malformed}
use Rattle.number.specs.Operand.{Measures}
use Rattle.slots.specs.Reach.{number_at}
use Rattle.multiplying.specs.Product.{Factored, factored_measured}
use Rattle.multiplying.proofs.product.short_by_full.Goals as goal
use Rattle.multiplying.proofs.product.short_by_full.Goals.{After-magnitude_of}

abbrev y : After-magnitude_of → Number
y c = number_at c.args.stack.now c.args.depth c.args.above

measures : (c : After-magnitude_of) → Measures (y c) c.magnitude_of.result
measures c =
    subst (λ (n : Number). Measures n c.magnitude_of.result) (ap (λ (k : ℕ). number k (y c).word) (sym c.requires.1))
    (c.magnitude_of.ensures.0 (y c).word (sym c.b2_at.ensures ∙ sym (mod-eq_of_lt (omega arith))) (sym c.low_at.ensures))

pub returns-in_err-short : goal.returns-in_err-short
returns-in_err-short c =
    let m = (goal.at.returns-in_err-short c).After-magnitude_of in
    let x = number c.args.b1 c.args.word in
    let n : malformed (y m) ≡ true = subst (Measures (y m)) c.in_err-short.was (measures m) in
    subst (Factored x (y m)) (sym c.from_residual.ensures) (ap (◌||◌ (malformed x)) n ∙ or-true (malformed x))

pub returns : goal.returns
returns c =
    let m = (goal.at.returns c).After-magnitude_of in
    factored_measured (number c.args.b1 c.args.word) (y m) (omega arith) (omega arith) c.requires.0 c.requires.1 c.in_ok-short.short (omega arith)
    (subst (Measures (y m)) c.in_ok-short.was (measures m))
