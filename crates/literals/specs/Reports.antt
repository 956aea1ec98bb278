-- Document 01, "Reports, and which comes first": the reports of a literal. (Those of a stack and of a push are in crate slots.)
-- "The order of checks is the order of the rows 1, 5, 2, 4, 3, 6. Each is given exactly then."
use Rattle.std.specs.Prelude.{ℕ, Bool, true, false, ◌||◌, List, [], ◌∷◌, ltb, length, Some, None}
use Rattle.ending.specs.Ending.{Answer}
use Rattle.edition.specs.declared.Edition.{Edition}
use Rattle.edition.specs.declared.Edition.TheVariants.{Shipped, Mended}
use Rattle.number.specs.declared.Number.{Number}
use Rattle.number.specs.Number.{malformed, odd}
use Rattle.slots.specs.Slots.{top, lower}
use Rattle.slots.specs.Reports.{over_limits, no_room, When, when, first}
use Rattle.literals.specs.Literals.{Operation, exchange, delete, duplicate, one, two, unknown, operation_of, takes}

-- 1: "or a literal list over 60,000"
unfoldable pub too_many_literals : List ℕ → Bool
too_many_literals ls = ltb 60000 (length ls)

-- 5: "literal not in the table"
unfoldable pub not_in_table : Operation → Bool
not_in_table unknown = true
not_in_table exchange = false
not_in_table delete = false
not_in_table duplicate = false
not_in_table (one f) = false
not_in_table (two f) = false

-- 4: "duplicate [..] with 5 x (depth + 1) over the length"
unfoldable pub no_room_for : Operation → List ℕ → ℕ → Bool
no_room_for duplicate s d = no_room s d
no_room_for exchange s d = false
no_room_for delete s d = false
no_room_for (one f) s d = false
no_room_for (two f) s d = false
no_room_for unknown s d = false

-- A3: "In this edition an odd operand is malformed (report 3)"
abbrev pub malformed_in : Edition → Number → Bool
malformed_in Shipped x = malformed x
malformed_in Mended x = malformed x || odd x

-- 3: "an operand of 3, 5, 15, 27, 39, 58, 61 is malformed" (A1: "4 joins its list")
unfoldable pub malformed_operand : Edition → Operation → List ℕ → ℕ → Bool
malformed_operand ed (one f) s d = malformed_in ed (top s d)
malformed_operand ed (two f) s d = malformed_in ed (lower s d) || malformed_in ed (top s d)
malformed_operand ed exchange s d = false
malformed_operand ed delete s d = false
malformed_operand ed duplicate s d = false
malformed_operand ed unknown s d = false

unfoldable pub is_too_big : Answer → Bool
is_too_big None = true
is_too_big (Some n) = false

-- 6: "number too big". The arithmetic says which: a divisor that counts as zero, or an exponent byte above 255.
unfoldable pub too_big : Edition → Operation → List ℕ → ℕ → Bool
too_big ed (one f) s d = is_too_big (f ed (top s d))
too_big ed (two f) s d = is_too_big (f ed (lower s d) (top s d))
too_big ed exchange s d = false
too_big ed delete s d = false
too_big ed duplicate s d = false
too_big ed unknown s d = false

-- the rows for a literal, in the order of the checks, and its report
abbrev pub rows : Edition → List ℕ → ℕ → ℕ → List When
rows ed s d l =
    when 1 (over_limits s d)
    ∷ when 5 (not_in_table (operation_of l))
    ∷ when 2 (ltb d (takes l))
    ∷ when 4 (no_room_for (operation_of l) s d)
    ∷ when 3 (malformed_operand ed (operation_of l) s d)
    ∷ when 6 (too_big ed (operation_of l) s d)
    ∷ []

unfoldable pub report_of : Edition → List ℕ → ℕ → ℕ → ℕ
report_of ed s d l = first (rows ed s d l)
