-- `put_each` meets its contract: so many of the bytes are put.
use Rattle.std.proofs.Common.{take}
use Rattle.text.specs.Digits.{each_of}
use Rattle.text.specs.Page.{Puts}
use Rattle.text.proofs.page.Page.put_each.Given as goal

abbrev pub invariant-loop-byte : goal.invariant-loop-byte
invariant-loop-byte l = Puts l.initial.self l.self (each_of l.before (take l.byte-index l.bytes))
