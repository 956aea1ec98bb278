-- `trenailer_cell` meets its contract: each case writes what it names.
use Rattle.display.specs.Cell.{report_in, carried_by}
use Rattle.trenailer.specs.Told.{kind_of, value_or, told_of}
use Rattle.trenailer.proofs.trenailer_cell.Goals as goal

pub returns-in-Refused : goal.returns-in-Refused
unfolding told_of kind_of report_in carried_by value_or
returns-in-Refused c = simp (← c.cell-shown.ensures, c.in-Refused.is)

pub returns-in-Blank : goal.returns-in-Blank
unfolding told_of kind_of carried_by value_or
returns-in-Blank c = simp (← c.cell-shown.ensures, c.in-Blank.is)

pub returns-in-Odd : goal.returns-in-Odd
unfolding told_of kind_of carried_by value_or
returns-in-Odd c = simp (← c.cell-shown.ensures, c.in-Odd.is)

pub returns-in-Value : goal.returns-in-Value
unfolding told_of kind_of carried_by value_or
returns-in-Value c = simp (← c.cell-shown.ensures, c.in-Value.is)
