-- Literal 5's row of the table, and what is known once the first number is re-stacked. No public contract cites this file.
use Rattle.std.specs.Prelude.{ℕ, ◌≡◌, refl, false, List}
use Rattle.edition.specs.declared.Edition.{Edition}
use Rattle.number.specs.declared.operand.Operand.{Operand}
use Rattle.number.specs.Operand.{Unpacked}
use Rattle.slots.specs.Reach.{lacking, number_at}
use Rattle.odd.specs.Mending.{odd_pair}
use Rattle.division.specs.Division.{quotient_of}
use Rattle.literals.specs.Literals.{two, row, row_of}

pub division_line : row_of 5 ≡ row 5 (two quotient_of) 2 1
unfolding row_of
division_line = refl

-- The depth is as it was read, both numbers are there, neither is odd where the edition minds, and the first is well formed and has these parts.
pub record First (ed : Edition) (s : List ℕ) (d old : ℕ) (a : Operand) : Type 0 where
  pub same : d ≡ old
  pub there : lacking s old 2 ≡ false
  pub even : odd_pair ed s old ≡ false
  pub first : Unpacked (number_at s old 1) a
