-- Document 01's sums, by computation: the starred rows, together, the other rows with the edges of the rules, multiplication's, those that keep a b5, and the worked
-- run, all of the shipped edition; then the mended edition's. Each row is an operation on a stack of its own.
use Rattle.std.specs.Prelude.{ℕ, ◌≡◌, refl, List, [], ◌∷◌, ◌++◌, map, Some}
use Rattle.std.specs.Int.Count.{count_leading_zeros}
use Rattle.edition.specs.declared.Edition.{Edition}
use Rattle.edition.specs.declared.Edition.TheVariants.{Shipped, Mended}
use Rattle.number.specs.declared.Number.{Number}
use Rattle.number.specs.Number.{bytes, zeros, form_of, malformed, odd, passes_zero_test}
use Rattle.number.specs.Value.{short_value}
use Rattle.number.specs.Restack.{restacked, full_of_short}
use Rattle.number.specs.Negate.{negated}
use Rattle.truncation.specs.Truncate.{truncated, truncated_full, taken65536}
use Rattle.ending.specs.Ending.{normal, closed, ended}
use Rattle.division.specs.Rounds.{tried, rounds}
use Rattle.division.specs.Division.{full_quotient, restacked_quotient, quotient_of}
use Rattle.multiplication.specs.Multiplication.{full_product, restacked_product, product_of}
use Rattle.addition.specs.Addition.{aligned, ended_sum, aligned_sum, full_route, short_route, sum_of, difference_of}
use Rattle.truncation.specs.Int.{int_of}
use Rattle.slots.specs.Outcome.{Outcome}
use Rattle.slots.specs.Slots.{slot, number_in, bytes_of, put_slot}
use Rattle.slots.specs.Reports.{over_limits, no_room, not_a_number, push_report}
use Rattle.slots.specs.Push.{settled, push_of}
use Rattle.literals.specs.Literals.{row_of, operation_of, takes, leaves}
use Rattle.literals.specs.Reports.{too_many_literals, not_in_table, no_room_for, malformed_operand, is_too_big, too_big, report_of}
use Rattle.literals.specs.Operate.{stored, bytes_after, operate_of}
use Rattle.calculator.specs.Run.{go_on, run_of}

-- a stack, its depth and a literal, with what the literal leaves
pub record Case : Type 0 where
  pub stack : List ℕ
  pub depth : ℕ
  pub literal : ℕ
  pub leaves : Outcome × List ℕ

-- of two numbers: the result stands in the first's slot, and the second's bytes stay above the top
abbrev gives : ℕ → Number → Number → Number → Case
gives l x y z =
    record { stack = bytes_of x ++ bytes_of y; depth = 2; literal = l; leaves = (record { report = 0; depth = 1 }, bytes_of z ++ bytes_of y) }

-- of two numbers, refused: nothing changes
abbrev refuses : ℕ → Number → Number → ℕ → Case
refuses l x y r =
    record { stack = bytes_of x ++ bytes_of y; depth = 2; literal = l; leaves = (record { report = r; depth = 2 }, bytes_of x ++ bytes_of y) }

-- of one number
abbrev turns : ℕ → Number → Number → Case
turns l x z = record { stack = bytes_of x; depth = 1; literal = l; leaves = (record { report = 0; depth = 1 }, bytes_of z) }

-- of one number, refused
abbrev turns_down : ℕ → Number → ℕ → Case
turns_down l x r = record { stack = bytes_of x; depth = 1; literal = l; leaves = (record { report = r; depth = 1 }, bytes_of x) }

-- of numbers that are moved as they are: from the depth d to the depth e
abbrev moves : ℕ → List ℕ → ℕ → ℕ → List ℕ → Case
moves l s d e t = record { stack = s; depth = d; literal = l; leaves = (record { report = 0; depth = e }, t) }

-- each literal leaves what the row says, in an edition
abbrev pub Hold : Edition → List Case → Type 0
Hold ed cs = map (λ (c : Case). operate_of ed c.stack c.depth c.literal) cs ≡ map (λ (c : Case). c.leaves) cs

-- 3 subtracts, 4 multiplies, 5 divides, 15 adds, 27 negates, 39 is int, 58 truncates, 61 re-stacks.
abbrev pub starred : List Case
starred =
    gives 5 (bytes 0x81 0 0 0 0) (bytes 0x84 0x20 0 0 0) (bytes 0x7D 0x4C 0xCC 0xCC 0xCC)
    ∷ gives 5 (bytes 0x84 0x70 0 0 0) (bytes 0x84 0x50 0 0 0) (bytes 0x81 0x13 0xB1 0x3B 0x14)
    ∷ gives 5 (bytes 0x83 0x20 0 0 0) (bytes 0x82 0x40 0 0 0) (bytes 0x81 0x55 0x55 0x55 0x55)
    ∷ gives 5 (bytes 0xFF 0 0 0 0) (bytes 0x80 0x40 0 0 0) (bytes 0xFF 0x2A 0xAA 0xAA 0xAA)
    ∷ refuses 5 (bytes 0xFF 0x7F 0xFF 0xFF 0xFF) (bytes 0x80 0 0 0 0) 6
    ∷ gives 5 (bytes 0x01 0x80 0 0 0) (bytes 0x82 0 0 0 0) (bytes 0x01 0x80 0 0 0)
    ∷ gives 15 (bytes 0 0xFF 0x18 0x02 0) (bytes 0 0xFF 0xE8 0xFD 0) (bytes 0 0xFF 0 0 0)
    ∷ gives 15 (bytes 0 0xFF 0 0 0) (bytes 0 0xFF 0xFF 0xFF 0) (bytes 0x81 0x80 0 0 0)
    ∷ gives 15 (bytes 0x81 0x80 0 0 0) (bytes 0x80 0x7F 0xFF 0xFF 0xFF) zeros
    ∷ gives 15 (bytes 0x81 0xFF 0xFF 0xFF 0xFF) (bytes 0x81 0xFF 0xFF 0xFF 0xFE) (bytes 0x82 0xFF 0xFF 0xFF 0xFE)
    ∷ turns 58 (bytes 0x91 0x80 0 0x80 0) (bytes 0x91 0x80 0 0x80 0)
    ∷ turns 39 (bytes 0x90 0xFF 0xFF 0x80 0) (bytes 0 0xFF 0 0 0)
    ∷ []

-- document 01's rows without a star
abbrev pub unstarred : List Case
unstarred =
    gives 5 (bytes 0x82 0 0 0 0) (bytes 0x82 0x40 0 0 0) (bytes 0x80 0x2A 0xAA 0xAA 0xAA)
    ∷ gives 5 (bytes 0x01 0 0 0 0) (bytes 0x83 0 0 0 0) zeros
    ∷ refuses 5 zeros (bytes 0 0xFF 0 0 0) 6
    ∷ gives 15 (bytes 0x81 0 0 0 0) (bytes 0x61 0x80 0 0 0) (bytes 0x81 0 0 0 0)
    ∷ turns 39 (bytes 0x91 0x80 0 0 0) (bytes 0x81 0x80 0 0 0)
    ∷ []

-- Edges of the rules: a carry at exponent byte 255, shifts by 32 and by 33 places; the exponent bytes 128, 129, 144, 145, 159 and 160 of a
-- truncation; the forms under re-stacking and negation.
abbrev pub edges : List Case
edges =
    refuses 15 (bytes 0xFF 0x7F 0xFF 0xFF 0xFF) (bytes 0xFF 0x7F 0xFF 0xFF 0xFF) 6
    ∷ gives 15 (bytes 0x81 0 0 0 0) (bytes 0x61 0 0 0 0) (bytes 0x81 0 0 0 0x01)
    ∷ gives 15 (bytes 0x81 0 0 0 0) (bytes 0x60 0x7F 0xFF 0xFF 0xFF) (bytes 0x81 0 0 0 0)
    ∷ turns 58 (bytes 0x80 0x7F 0xFF 0xFF 0xFF) zeros
    ∷ turns 58 (bytes 0x81 0x80 0 0 0x01) (bytes 0 0xFF 0xFF 0xFF 0)
    ∷ turns 58 (bytes 0x90 0x7F 0xFF 0xFF 0xFF) (bytes 0 0 0xFF 0xFF 0)
    ∷ turns 58 (bytes 0x90 0xFF 0xFF 0x80 0) (bytes 0 0xFF 0x01 0 0)
    ∷ turns 58 (bytes 0x91 0x80 0 0x7F 0xFF) (bytes 0 0xFF 0 0 0)
    ∷ turns 58 (bytes 0x91 0 0 0x7F 0xFF) (bytes 0x91 0 0 0 0)
    ∷ turns 58 (bytes 0x9F 0 0 0 0x03) (bytes 0x9F 0 0 0 0x02)
    ∷ turns 58 (bytes 0xA0 0 0 0 0x03) (bytes 0xA0 0 0 0 0x03)
    ∷ turns 58 (bytes 0 0xFF 0 0 0x07) (bytes 0 0xFF 0 0 0x07)
    ∷ turns 61 (bytes 0 0 0x06 0 0x09) (bytes 0x83 0x40 0 0 0)
    ∷ turns 61 (bytes 0 0xFF 0xFF 0xFF 0) (bytes 0x81 0x80 0 0 0)
    ∷ turns 61 (bytes 0 0 0xFF 0xFF 0) (bytes 0x90 0x7F 0xFF 0 0)
    ∷ turns 61 (bytes 0 0xFF 0x01 0 0) (bytes 0x90 0xFF 0xFF 0 0)
    ∷ turns 61 (bytes 0 0 0 0 0x05) zeros
    ∷ turns 61 (bytes 0 0xFF 0 0 0x05) zeros
    ∷ turns 27 (bytes 0 0 0 0 0x05) (bytes 0 0 0 0 0x05)
    ∷ turns 27 (bytes 0x81 0 0 0 0x01) (bytes 0x81 0x80 0 0 0x01)
    ∷ turns 27 (bytes 0x81 0x80 0 0 0x01) (bytes 0x81 0 0 0 0x01)
    ∷ turns 27 (bytes 0 0xFF 0 0 0x05) zeros
    ∷ turns 27 (bytes 0 0 0x01 0 0x05) (bytes 0 0xFF 0xFF 0xFF 0)
    ∷ turns 27 (bytes 0 0xFF 0x01 0 0x05) (bytes 0 0 0xFF 0xFF 0)
    ∷ []

-- Document 02, A1: 256 times 255 and 256 times 256, and the edges: 65,536 is not short; odd and zero; halves up in both cases of P, and up to a carry; E of 1, 0 and below,
-- with a carry that comes too late; the exponent bytes' sums 383, 384 and 385, and P at and just below 2^63 - 2^30.
abbrev pub multiplied : List Case
multiplied =
    gives 4 (bytes 0 0 0 0x01 0) (bytes 0 0 0xFF 0 0) (bytes 0 0 0 0xFF 0)
    ∷ gives 4 (bytes 0 0 0 0x01 0) (bytes 0 0 0 0x01 0) (bytes 0x91 0 0 0 0)
    ∷ gives 4 (bytes 0 0xFF 0 0xFF 0) (bytes 0 0 0 0x01 0) (bytes 0x91 0x80 0 0 0)
    ∷ gives 4 (bytes 0 0xFF 0x01 0xFF 0) (bytes 0 0xFF 0xFF 0xFE 0) (bytes 0 0 0xFF 0xFF 0)
    ∷ gives 4 (bytes 0 0 0xFF 0xFF 0) (bytes 0 0xFF 0xFF 0xFF 0) (bytes 0 0xFF 0x01 0 0)
    ∷ gives 4 (bytes 0 0xFF 0xFD 0xFF 0) (bytes 0 0 0x05 0 0x07) (bytes 0 0xFF 0xF1 0xFF 0)
    ∷ gives 4 (bytes 0 0xFF 0 0 0x09) (bytes 0 0 0x05 0 0) zeros
    ∷ gives 4 (bytes 0 0xFF 0 0 0) (bytes 0x81 0 0 0 0) zeros
    ∷ gives 4 zeros (bytes 0 0xFF 0xFB 0xFF 0) zeros
    ∷ gives 4 (bytes 0 0 0 0 0x05) (bytes 0xFF 0x7F 0xFF 0xFF 0xFF) zeros
    ∷ gives 4 (bytes 0 0 0x01 0 0) (bytes 0x81 0 0 0 0) (bytes 0x81 0 0 0 0)
    ∷ gives 4 (bytes 0 0 0xFF 0xFF 0) (bytes 0 0 0xFF 0xFF 0) (bytes 0xA0 0x7F 0xFE 0 0x01)
    ∷ gives 4 (bytes 0x81 0 0 0 0x01) (bytes 0x81 0x40 0 0 0) (bytes 0x81 0x40 0 0 0x02)
    ∷ gives 4 (bytes 0x81 0x40 0 0 0x02) (bytes 0x81 0x40 0 0 0) (bytes 0x82 0x10 0 0 0x02)
    ∷ gives 4 (bytes 0x80 0 0x10 0x02 0) (bytes 0x80 0x7F 0xE0 0 0) (bytes 0x80 0 0 0 0)
    ∷ gives 4 (bytes 0x41 0 0 0 0) (bytes 0x41 0x80 0 0 0) (bytes 0x01 0x80 0 0 0)
    ∷ gives 4 (bytes 0x41 0 0 0 0) (bytes 0x40 0x80 0 0 0) (bytes 0x01 0x80 0 0 0)
    ∷ gives 4 (bytes 0x41 0 0x10 0x02 0) (bytes 0x40 0x7F 0xE0 0 0) (bytes 0x01 0 0 0 0)
    ∷ gives 4 (bytes 0x40 0 0x10 0x02 0) (bytes 0x40 0x7F 0xE0 0 0) zeros
    ∷ gives 4 (bytes 0xC0 0x7F 0xFF 0xFF 0xFF) (bytes 0xBF 0x7F 0xFF 0xFF 0xFF) (bytes 0xFF 0x7F 0xFF 0xFF 0xFE)
    ∷ gives 4 (bytes 0xC0 0 0x0D 0x46 0x1E) (bytes 0xC0 0x7F 0xE5 0x76 0x84) (bytes 0xFF 0x7F 0xFF 0xFF 0xFF)
    ∷ refuses 4 (bytes 0xC0 0 0x10 0x02 0) (bytes 0xC0 0x7F 0xE0 0 0) 6
    ∷ refuses 4 (bytes 0xC0 0xC0 0 0 0) (bytes 0xC0 0x40 0 0 0) 6
    ∷ refuses 4 (bytes 0xC1 0 0 0 0) (bytes 0xC0 0 0 0 0) 6
    ∷ []

-- its two products, on the definition alone
abbrev pub Worked : Type 0
Worked =
    (product_of (bytes 0 0 0 0x01 0) (bytes 0 0 0xFF 0 0) ≡ Some (bytes 0 0 0 0xFF 0))
    × (product_of (bytes 0 0 0 0x01 0) (bytes 0 0 0 0x01 0) ≡ Some (bytes 0x91 0 0 0 0))

-- Document 02, A2: the first number's b5 stays in a short sum, also where it is zero or odd, and where a zero is subtracted; beyond the short route nothing of it is left.
-- Int of a short number leaves it, and of a full one less the short 1 keeps the 0 that truncation wrote.
abbrev pub fifth : List Case
fifth =
    gives 15 (bytes 0 0 0x01 0 0x9B) (bytes 0 0 0x02 0 0x11) (bytes 0 0 0x03 0 0x9B)
    ∷ gives 3 (bytes 0 0xFF 0xFF 0xFF 0x9B) (bytes 0 0 0x01 0 0) (bytes 0 0xFF 0xFE 0xFF 0x9B)
    ∷ gives 15 (bytes 0 0 0x05 0 0x01) (bytes 0 0xFF 0xFB 0xFF 0x02) (bytes 0 0 0 0 0x01)
    ∷ gives 15 (bytes 0 0xFF 0x18 0x02 0x07) (bytes 0 0xFF 0xE8 0xFD 0) (bytes 0 0xFF 0 0 0x07)
    ∷ gives 3 (bytes 0 0 0x01 0 0x05) (bytes 0 0 0 0 0x09) (bytes 0 0 0x01 0 0x05)
    ∷ gives 15 (bytes 0 0 0xFF 0xFF 0x7F) (bytes 0 0 0x01 0 0x7F) (bytes 0x91 0 0 0 0)
    ∷ gives 15 (bytes 0 0xFF 0 0 0x07) (bytes 0 0xFF 0xFF 0xFF 0) (bytes 0x81 0x80 0 0 0)
    ∷ turns 39 (bytes 0 0xFF 0xFE 0xFF 0x07) (bytes 0 0xFF 0xFE 0xFF 0x07)
    ∷ turns 39 (bytes 0 0xFF 0 0 0x07) (bytes 0x81 0x80 0 0 0)
    ∷ turns 39 (bytes 0x81 0xC0 0 0 0x01) (bytes 0 0xFF 0xFE 0xFF 0)
    ∷ []

-- "A run whole: bench of 10 bytes holding 00 00 06 00 00 00 00 02 00 00, depth 2, literals 5, 49, 49. [..] Answer: report 4, position 2, depth 2,
-- bench 82 40 00 00 00 twice."
abbrev pub WorkedRun : Type 0
WorkedRun =
    run_of Shipped (0 ∷ 0 ∷ 6 ∷ 0 ∷ 0 ∷ 0 ∷ 0 ∷ 2 ∷ 0 ∷ 0 ∷ []) 2 (5 ∷ 49 ∷ 49 ∷ [])
    ≡ (record { report = 4; position = 2; depth = 2 }, 0x82 ∷ 0x40 ∷ 0 ∷ 0 ∷ 0 ∷ 0x82 ∷ 0x40 ∷ 0 ∷ 0 ∷ 0 ∷ [])

-- Document 02, A3, the mended edition. The 34th digit: a tenth, two thirds and an exponent byte of 255 round up, five thirds and an E of 0 do not move.
-- -65,536: as a sum of any b5, as a difference and as int's last step; its neighbour -65,535 stays short, and keeps the first number's b5.
-- Exponent byte 145: bits are cleared like its neighbours'; int of -65,536 is itself, and of what is below it one less.
abbrev pub mended : List Case
mended =
    gives 5 (bytes 0x81 0 0 0 0) (bytes 0x84 0x20 0 0 0) (bytes 0x7D 0x4C 0xCC 0xCC 0xCD)
    ∷ gives 5 (bytes 0x82 0 0 0 0) (bytes 0x82 0x40 0 0 0) (bytes 0x80 0x2A 0xAA 0xAA 0xAB)
    ∷ gives 5 (bytes 0x83 0x20 0 0 0) (bytes 0x82 0x40 0 0 0) (bytes 0x81 0x55 0x55 0x55 0x55)
    ∷ gives 5 (bytes 0xFF 0 0 0 0) (bytes 0x80 0x40 0 0 0) (bytes 0xFF 0x2A 0xAA 0xAA 0xAB)
    ∷ refuses 5 (bytes 0xFF 0x7F 0xFF 0xFF 0xFF) (bytes 0x80 0 0 0 0) 6
    ∷ gives 5 (bytes 0x01 0x80 0 0 0) (bytes 0x82 0 0 0 0) (bytes 0x01 0x80 0 0 0)
    ∷ gives 15 (bytes 0 0xFF 0x18 0x02 0) (bytes 0 0xFF 0xE8 0xFD 0) (bytes 0x91 0x80 0 0 0)
    ∷ gives 15 (bytes 0 0xFF 0x18 0x02 0x9B) (bytes 0 0xFF 0xE8 0xFD 0x11) (bytes 0x91 0x80 0 0 0)
    ∷ gives 15 (bytes 0 0xFF 0x18 0x02 0x9B) (bytes 0 0xFF 0xE9 0xFD 0) (bytes 0 0xFF 0x01 0 0x9B)
    ∷ gives 3 (bytes 0 0xFF 0x18 0x02 0x9B) (bytes 0 0 0x18 0x02 0) (bytes 0x91 0x80 0 0 0)
    ∷ turns 58 (bytes 0x91 0x80 0 0x7F 0xFF) (bytes 0x91 0x80 0 0 0)
    ∷ turns 58 (bytes 0x91 0x80 0 0 0) (bytes 0x91 0x80 0 0 0)
    ∷ turns 58 (bytes 0x91 0x80 0 0x80 0) (bytes 0x91 0x80 0 0x80 0)
    ∷ turns 39 (bytes 0x91 0x80 0 0 0) (bytes 0x91 0x80 0 0 0)
    ∷ turns 39 (bytes 0x91 0x80 0 0x7F 0xFF) (bytes 0x91 0x80 0 0x80 0)
    ∷ turns 39 (bytes 0x90 0xFF 0xFF 0x80 0) (bytes 0x91 0x80 0 0 0)
    ∷ turns 39 (bytes 0x90 0xFF 0xFE 0x80 0) (bytes 0 0xFF 0x01 0 0)
    ∷ turns 39 (bytes 0x90 0xFF 0xFE 0 0) (bytes 0 0xFF 0x02 0 0)
    ∷ []

-- "In this edition an odd operand is malformed (report 3)", the first or the second, before report 6; "literals 1, 2 and 49 [..] treat odd as before",
-- and they do not look at a malformed one either.
abbrev odd7 : Number
odd7 = bytes 0 0xFF 0 0 0x07

abbrev formless : Number
formless = bytes 0 0x01 0 0 0

abbrev pub mended_odd : List Case
mended_odd =
    refuses 15 (bytes 0 0xFF 0 0 0) (bytes 0 0xFF 0xFF 0xFF 0) 3
    ∷ refuses 15 (bytes 0 0xFF 0xFF 0xFF 0) odd7 3
    ∷ refuses 3 odd7 odd7 3
    ∷ refuses 4 odd7 (bytes 0 0 0x05 0 0) 3
    ∷ refuses 5 zeros odd7 3
    ∷ turns_down 27 odd7 3
    ∷ turns_down 39 odd7 3
    ∷ turns_down 58 odd7 3
    ∷ turns_down 61 odd7 3
    ∷ moves 1 (bytes_of odd7 ++ bytes_of formless) 2 2 (bytes_of formless ++ bytes_of odd7)
    ∷ moves 2 (bytes_of odd7) 1 0 (bytes_of odd7)
    ∷ moves 49 (bytes_of odd7 ++ bytes_of zeros) 1 2 (bytes_of odd7 ++ bytes_of odd7)
    ∷ moves 49 (bytes_of formless ++ bytes_of zeros) 1 2 (bytes_of formless ++ bytes_of formless)
    ∷ []

-- A push has no edition: odd is a number to it.
abbrev pub PushedOdd : Type 0
PushedOdd = push_of (bytes_of zeros) 0 (bytes_of odd7) ≡ (record { report = 0; depth = 1 }, bytes_of odd7)

computed : Hold Shipped starred × Hold Shipped unstarred × Hold Shipped edges × Hold Shipped multiplied × Worked × WorkedRun × Hold Shipped fifth
    × Hold Mended mended × Hold Mended mended_odd × PushedOdd
unfolding
    run_of go_on operate_of settled report_of bytes_after stored slot put_slot bytes_of number_in over_limits too_many_literals not_in_table no_room no_room_for
    malformed odd malformed_operand is_too_big too_big operation_of takes leaves row_of quotient_of restacked_quotient full_quotient tried rounds normal closed ended
    restacked full_of_short form_of count_leading_zeros sum_of short_route full_route aligned_sum ended_sum aligned short_value truncated truncated_full taken65536
    int_of difference_of negated passes_zero_test product_of restacked_product full_product
    push_of push_report not_a_number
computed = (refl, refl, refl, refl, (refl, refl), refl, refl, refl, refl, refl)

pub starred_hold : Hold Shipped starred
starred_hold = computed.0

pub unstarred_hold : Hold Shipped unstarred
unstarred_hold = computed.1

pub edges_hold : Hold Shipped edges
edges_hold = computed.2

pub multiplied_hold : Hold Shipped multiplied
multiplied_hold = computed.3

pub products_worked : Worked
products_worked = computed.4

pub worked_run : WorkedRun
worked_run = computed.5

pub fifth_hold : Hold Shipped fifth
fifth_hold = computed.6

pub mended_hold : Hold Mended mended
mended_hold = computed.7

pub mended_odd_hold : Hold Mended mended_odd
mended_odd_hold = computed.8

pub odd_pushed : PushedOdd
odd_pushed = computed.9
