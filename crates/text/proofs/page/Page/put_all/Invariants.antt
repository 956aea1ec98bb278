-- `put_all` meets its contract: so many of the bytes are put.
use Rattle.std.proofs.Common.{take}
use Rattle.text.specs.Page.{Puts}
use Rattle.text.proofs.page.Page.put_all.Given as goal

abbrev pub invariant-loop-byte : goal.invariant-loop-byte
invariant-loop-byte l = Puts l.initial.self l.self (take l.byte-index l.bytes)
