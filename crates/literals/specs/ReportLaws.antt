-- The table of reports, a law a row: when what comes before does not hold and the row does, the report is its number.
use Rattle.std.specs.Prelude.{ℕ, ◌≤◌, ◌<◌, ◌≡◌, true, false, List}
use borrow.Author.Tests.{lt-ltb, le-ltb}
use Rattle.edition.specs.declared.Edition.{Edition}
use Rattle.slots.specs.LimitLaws.{Within, within}
use Rattle.literals.specs.Literals.{operation_of, takes}
use Rattle.literals.specs.Reports.{not_in_table, no_room_for, malformed_operand, too_big, report_of}

module _ (ed : Edition) (s : List ℕ) (d l : ℕ) where
  pub report_5 : Within s d → not_in_table (operation_of l) ≡ true → report_of ed s d l ≡ 5
  unfolding report_of
  report_5 w h = simp (within s d w, h)

  pub report_2 : Within s d → not_in_table (operation_of l) ≡ false → d < takes l → report_of ed s d l ≡ 2
  unfolding report_of
  report_2 w k h = simp (within s d w, k, lt-ltb _ _ h)

-- reports 1, 5 and 2 do not apply
pub record Reached (s : List ℕ) (d l : ℕ) : Type 0 where
  pub limits : Within s d
  pub known : not_in_table (operation_of l) ≡ false
  pub enough : takes l ≤ d

module _ (ed : Edition) (s : List ℕ) (d l : ℕ) (r : Reached s d l) where
  pub report_4 : no_room_for (operation_of l) s d ≡ true → report_of ed s d l ≡ 4
  unfolding report_of
  report_4 h = simp (within s d r.limits, r.known, le-ltb _ _ r.enough, h)

  pub report_3 : no_room_for (operation_of l) s d ≡ false → malformed_operand ed (operation_of l) s d ≡ true → report_of ed s d l ≡ 3
  unfolding report_of
  report_3 n h = simp (within s d r.limits, r.known, le-ltb _ _ r.enough, n, h)

  pub report_6 : no_room_for (operation_of l) s d ≡ false → malformed_operand ed (operation_of l) s d ≡ false → too_big ed (operation_of l) s d ≡ true → report_of ed s d l ≡ 6
  unfolding report_of
  report_6 n m h = simp (within s d r.limits, r.known, le-ltb _ _ r.enough, n, m, h)

  pub report_0 : no_room_for (operation_of l) s d ≡ false → malformed_operand ed (operation_of l) s d ≡ false → too_big ed (operation_of l) s d ≡ false → report_of ed s d l ≡ 0
  unfolding report_of
  report_0 n m h = simp (within s d r.limits, r.known, le-ltb _ _ r.enough, n, m, h)
