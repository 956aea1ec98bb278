-- Reports 1 and 2 of a literal that takes so many numbers, and the numbers that a stack has. A number is named by how many stand above it.
use Rattle.std.specs.Prelude.{ℕ, ◌+◌, ◌-◌, Bool, cond, ◌||◌, List, nat_lt}
use Rattle.number.specs.declared.Number.{Number}
use Rattle.number.specs.Number.{zeros}
use Rattle.slots.specs.Slots.{number_in, put_in}
use Rattle.slots.specs.Reports.{over_limits}

-- report 1, or report 2 of a literal that takes n
unfoldable pub lacking : List ℕ → ℕ → ℕ → Bool
lacking s d n = over_limits s d || nat_lt d n

-- which of them; where it is neither, and something is lacking, it is room
unfoldable pub refusal_of : List ℕ → ℕ → ℕ → ℕ
refusal_of s d n = cond (over_limits s d) 1 (cond (nat_lt d n) 2 4)

-- the number with k above it; zero where there is none
unfoldable pub number_at : List ℕ → ℕ → ℕ → Number
number_at s d k = cond (lacking s d (k + 1)) zeros (number_in s (d - (k + 1)))

-- the stack with that number replaced; as it was where there is none
unfoldable pub put_at : List ℕ → ℕ → ℕ → Number → List ℕ
put_at s d k n = cond (lacking s d (k + 1)) s (put_in s (d - (k + 1)) n)

-- the stack with its top once more above itself; as it was where there is none, or no room
unfoldable pub copied_of : List ℕ → ℕ → List ℕ
copied_of s d = cond (lacking s (d + 1) 2) s (put_at s (d + 1) 0 (number_at s (d + 1) 1))
