-- `next_digit` meets its contract: without a doubling the digit is 0.
use Rattle.std.proofs.Common.{ap, arith, sym, ℕ, ◌%◌, ◌+◌, ◌<◌, ◌^◌, ◌∙◌, ◌≡◌}
use Rattle.edition.specs.declared.Edition.{Edition}
use Rattle.division.specs.Rounds.{rounds33, digit34}
use Rattle.division.specs.RoundsLaws.{digit34_zero}
use Rattle.division.proofs.DivisionLaws.{rounds33_write}
use Rattle.division.proofs.quotient.next_digit.Goals as goal

in_edition : {v w : Edition} (m n r : ℕ) → v ≡ w → (r ≡ digit34 w n (rounds33 m n)) × (r < 2) → (r ≡ digit34 v n (rounds33 m n)) × (r < 2)
in_edition m n r e h = (h.0 ∙ ap (λ (ed : Edition). digit34 ed n (rounds33 m n)) (sym e), h.1)

pub returns-in-Shipped : goal.returns-in-Shipped
returns-in-Shipped c =
    let i = c.args in
    let m = i.m % 2 ^ 31 + 2 ^ 31 in
    let n = i.n % 2 ^ 31 + 2 ^ 31 in
    in_edition m n _ c.in-Shipped.is (sym (digit34_zero n (rounds33 m n) (rounds33_write m n (omega arith)).less), omega arith)
