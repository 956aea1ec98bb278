-- `put_shown` meets its contract: so many of the bytes are put.
use Rattle.std.proofs.Common.{take}
use Rattle.text.specs.Page.{Puts}
use Rattle.wording.specs.Wording.{shown_of}
use Rattle.wording.proofs.places.put_shown.Given as goal

abbrev pub invariant-loop-byte : goal.invariant-loop-byte
invariant-loop-byte l = Puts l.initial.page l.page (shown_of (take l.byte-index l.bytes))
