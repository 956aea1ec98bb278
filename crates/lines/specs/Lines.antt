-- A line ends in a carriage return (13), a line feed (10), or both: a line feed after a carriage return ends no line of its own.
use Rattle.std.specs.Prelude.{ℕ, Bool, true, false, cond, not, List, eqb}
use Rattle.text.specs.Put.{Text, put_of}

-- from the bytes held of a line, and whether a carriage return came last, to both after a byte, and whether the line ends there
unfoldable pub taken_of : List ℕ → ℕ → Bool → ℕ → Text × Bool × Bool
taken_of line held returned byte =
    cond (eqb byte 13) ((line, held), true, true)
    (cond (eqb byte 10) ((line, held), false, not returned)
    (put_of (line, held) byte, false, false))
