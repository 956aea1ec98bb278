-- `close` meets its contract: each return is one case of `closed`, and the tests that led there are its law's premises.
use Rattle.std.proofs.Common.{ap, arith, sym, ℕ, ◌-◌, ◌∙◌}
use Rattle.std.specs.Prelude.{Some}
use Rattle.number.specs.Number.{number}
use Rattle.ending.proofs.EndingLaws.{closed_too_big, closed_stored}
use Rattle.ending.proofs.closing.close.Goals as goal

pub returns-then-e-gt-LARGEST : goal.returns-then-e-gt-LARGEST
returns-then-e-gt-LARGEST c = sym (closed_too_big _ _ (omega arith))

pub returns : goal.returns
returns c = ap (λ (w : ℕ). Some (number (c.args.e - 256) w)) c.full_word.ensures ∙ sym (closed_stored _ _ (omega arith) (omega arith))
