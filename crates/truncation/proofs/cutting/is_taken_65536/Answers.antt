-- `is_taken_65536` meets its contract: the four bytes are tested as one word.
use Rattle.std.proofs.Common.{Bool, arith, eqb, eqb-true, false, refl, sym, true, ◌/◌, ◌^◌, ◌≡◌}
use borrow.Author.Tests.{eqb-false}
use Rattle.edition.specs.declared.Edition.TheVariants.{Shipped}
use Rattle.number.specs.declared.Number.{Number}
use Rattle.truncation.specs.Truncate.{taken65536}
use Rattle.truncation.specs.TruncateLaws.{taken_not_145, taken, taken_not}
use Rattle.truncation.proofs.cutting.is_taken_65536.Goals as goal

by_word : (x : Number) → x.b1 ≡ 145 → (t : Bool) → eqb (x.word / 2 ^ 15) (2 ^ 16) ≡ t → t ≡ taken65536 Shipped x
by_word x h true e = sym (taken x h (eqb-true _ _ e))
by_word x h false e = sym (taken_not x Shipped (eqb-false _ _ e))

pub returns-then-x-ne-OF_65536 : goal.returns-then-x-ne-OF_65536
returns-then-x-ne-OF_65536 c = sym (taken_not_145 _ Shipped (omega arith))

pub returns : goal.returns
returns c = by_word _ (omega arith) _ refl
