-- `put_records` meets its contract: so many of the records have their lines.
use Rattle.text.specs.Page.{Puts}
use Rattle.printing.specs.Page.{record_lines}
use Rattle.printing.proofs.records.put_records.Given as goal

abbrev pub invariant-loop-i : goal.invariant-loop-i
invariant-loop-i l = Puts l.initial.page l.page (record_lines l.i 0 l.recording)
