-- An answer that is not odd. The ending's never is.
use Rattle.std.specs.Prelude.{◌≡◌, false, Some, None}
use Rattle.ending.specs.Ending.{Answer}
use Rattle.number.specs.Number.{odd}
use Rattle.number.specs.OddLaws.{odd_ended}
use Rattle.ending.specs.Ends.{ZeroOrFull}

abbrev pub NotOdd : Answer → Type 0
NotOdd (Some n) = odd n ≡ false
NotOdd None = Unit

pub ended_not_odd : (a : Answer) → ZeroOrFull a → NotOdd a
ended_not_odd (Some n) h = odd_ended n h
ended_not_odd None h = tt
