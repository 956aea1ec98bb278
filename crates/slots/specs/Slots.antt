-- "Slot i is bytes 5i to 5i+4." A number stands in a slot as its five bytes, b1 first.
-- The stack is a list of bytes; document 01 calls it, with its depth, the bench.
use Rattle.std.specs.Prelude.{ℕ, ◌+◌, ◌-◌, ◌*◌, List, [], ◌∷◌, ◌++◌, take, drop, slice_index}
use Rattle.number.specs.declared.Number.{Number}
use Rattle.number.specs.Number.{b2, b3, b4, b5, bytes}

-- the five bytes of slot i
unfoldable pub slot : List ℕ → ℕ → List ℕ
slot s i = take 5 (drop (5 * i) s)

-- the number in slot i
unfoldable pub number_in : List ℕ → ℕ → Number
number_in s i = bytes (slice_index s (5 * i)) (slice_index s (5 * i + 1)) (slice_index s (5 * i + 2)) (slice_index s (5 * i + 3)) (slice_index s (5 * i + 4))

-- "the top is slot depth - 1"; the one below it is the lower operand of a literal that takes two
abbrev pub top : List ℕ → ℕ → Number
top s d = number_in s (d - 1)

abbrev pub lower : List ℕ → ℕ → Number
lower s d = number_in s (d - 2)

-- a number's five bytes
unfoldable pub bytes_of : Number → List ℕ
bytes_of n = n.b1 ∷ b2 n ∷ b3 n ∷ b4 n ∷ b5 n ∷ []

-- the stack with five bytes in slot i, and every other byte as it was
unfoldable pub put_slot : List ℕ → ℕ → List ℕ → List ℕ
put_slot s i five = take (5 * i) s ++ five ++ drop (5 * i + 5) s

abbrev pub put_in : List ℕ → ℕ → Number → List ℕ
put_in s i n = put_slot s i (bytes_of n)
