-- The number of a report, as the C interface and the table of reports give it.
use Rattle.std.specs.Prelude.{ℕ}
use Rattle.slots.specs.declared.report.Report.{Report}
use Rattle.slots.specs.declared.report.Report.TheVariants.{Done, OverLimits, TooFew, Malformed, NoRoom, UnknownLiteral, TooBig}

abbrev pub number_of : Report → ℕ
number_of Done = 0
number_of OverLimits = 1
number_of TooFew = 2
number_of Malformed = 3
number_of NoRoom = 4
number_of UnknownLiteral = 5
number_of TooBig = 6
