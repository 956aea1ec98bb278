-- `quotient` meets its contract: the answer is the quotient of the numbers re-stacked.
use Rattle.std.proofs.Common.{ap, ap₂, refl, sym, ℕ, ◌∙◌, ◌≡◌}
use Rattle.edition.specs.declared.Edition.{Edition}
use Rattle.number.specs.declared.Number.{Number}
use Rattle.number.proofs.OperandLaws.{packed_byte}
use Rattle.division.specs.Division.{quotient_of, restacked_quotient}
use Rattle.literals.specs.Operate.{operate_of}
use Rattle.operands.specs.Stored.{stored_of, stored_as, two_stored}
use Rattle.odd.specs.EitherLaws.{formed}
use Rattle.dividing.specs.Quotient.{division_line}
use Rattle.dividing.proofs.quotient.quotient.Goals as goal

in_edition : {v w : Edition} {x y p q : Number} → v ≡ w → x ≡ p → y ≡ q → restacked_quotient v x y ≡ restacked_quotient w p q
in_edition {v} {w} {x} {y} {p} {q} e f h = ap₂ (restacked_quotient v) f h ∙ ap (λ (ed : Edition). restacked_quotient ed p q) e

pub returns : goal.returns
unfolding quotient_of
returns g c =
    let ed = g.E.Rom.EDITION in
    let x = c.requires.0 in
    let y = c.requires.1 in
    let is = c.division-answer.ensures ∙ in_edition c.EDITION.ensures (packed_byte _ _ _ x.first.byte ∙ x.first.stands) (packed_byte _ _ _ y.byte ∙ y.stands) in
    ap (λ (d : ℕ). operate_of ed c.args.stack.now d 5) x.same
    ∙ two_stored ed _ _ _ quotient_of division_line x.there (formed _ _ 5 quotient_of division_line ed x.there x.even (simp (x.first.form, y.form))) _ _ _
    (ap₂ (stored_of c.args.stack.now) (sym x.same) (sym is) ∙ stored_as _ _ _ _ _ _ (x.same, x.there, refl, refl) c.store.ensures)
