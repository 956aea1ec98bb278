-- What the calculator's answers are through the C interface, where they go out as a number and through pointers.
use Rattle.std.specs.Prelude.{ℕ, ◌-◌, ◌*◌, ◌≡◌, cond, List, [], ◌∷◌, eqb, Float, length, take, drop}
use Rattle.display.specs.declared.shown.Cell.{Cell}
use Rattle.display.specs.declared.shown.Cell.TheVariants.{Refused, Blank, Odd, Value}
use Rattle.display.specs.Cell.{report_in, Carried, nothing, number, carried_by}
use Rattle.slots.specs.View.{view_of}
use Rattle.replaying.specs.Answer.{Verdict, Agree, Differ, Refused as Unread}
use Rattle.replaying.specs.Fields.{field_number}

-- where a view begins: at the top slot's first byte; an empty view leaves what the caller had
unfoldable pub start_of : List ℕ → ℕ → ℕ → ℕ
start_of [] d was = was
start_of (b ∷ bs) d was = 5 * (d - 1)

-- The view of the stack s at depth d, as n bytes from a start on, where the caller's start was `was`.
pub record Part (s : List ℕ) (d was n start : ℕ) : Type 0 where
  pub count : n ≡ length (view_of s d)
  pub begins : start ≡ start_of (view_of s d) d was
  pub bytes : take n (drop start s) ≡ view_of s d

-- the interface's number for each case of a cell
unfoldable pub kind_of : Cell → ℕ
kind_of (Refused n) = 0
kind_of Blank = 1
kind_of Odd = 2
kind_of (Value x) = 3

unfoldable pub value_or : Float → Carried → Float
value_or was nothing = was
value_or was (number x) = x

-- What is returned, and what then stands in *refused and *value: the report that a refusal names, and the number that the cell carries.
-- What a case does not name stays as it was.
unfoldable pub told_of : Cell → ℕ → Float → ℕ × ℕ × Float
told_of c refused value = (kind_of c, cond (eqb (kind_of c) 0) (report_in c) refused, value_or value (carried_by c))

-- What is returned of a replay, what then stands in *count, *field and *depth, and the stack.
unfoldable pub replay_told : Verdict → ℕ → List ℕ → ℕ × ℕ × ℕ × ℕ × List ℕ
replay_told (Agree n) depth s = (0, n, 0, depth, s)
replay_told (Differ n f) depth s = (0, n, field_number f, depth, s)
replay_told (Unread n) depth s = (n, 0, 0, depth, s)
