-- `odd_at` meets its contract: a full number is not odd, and of any other b2, b3 and b4 decide.
use Rattle.std.proofs.Common.{Bool, ap, eqb, eqb-true, false, sym, true, ◌*◌, ◌/◌, ◌^◌, ◌∙◌, ◌≡◌}
use borrow.Author.Tests.{eqb-false}
use Rattle.number.specs.declared.Number.{Number}
use Rattle.number.specs.Number.{odd}
use Rattle.number.specs.OddLaws.{odd_full, odd_word, odd_other}
use Rattle.odd.proofs.odd_at.Goals as goal

by_word : (x : Number) → x.b1 ≡ 0 → (t : Bool) → eqb (x.word / 2 ^ 8) (255 * 2 ^ 16) ≡ t → t ≡ odd x
by_word x h true e = sym (odd_word x h (eqb-true _ _ e))
by_word x h false e = sym (odd_other x (eqb-false _ _ e))

pub returns-then-b1_at-ne0 : goal.returns-then-b1_at-ne0
returns-then-b1_at-ne0 c = sym (odd_full _ (λ z. c.if-b1_at-ne0.true (c.b1_at.ensures ∙ z)))

pub returns : goal.returns
returns c = by_word _ (sym c.b1_at.ensures ∙ c.if-b1_at-ne0.false) _ (ap (λ w. eqb (w / 2 ^ 8) (255 * 2 ^ 16)) (sym c.word_at.ensures))
