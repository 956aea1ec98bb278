-- Document 01: "Re-stacking: full stays. Short zero and odd become 00 00 00 00 00. Any other short number becomes the full number of equal value."
use Rattle.std.specs.Prelude.{◌≡◌, ℕ, ◌-◌, ◌*◌, ◌^◌, cond, ◌==◌}
use Rattle.std.specs.Int.Count.{count_leading_zeros}
use Rattle.number.specs.declared.Number.{Number}
use Rattle.number.specs.declared.form.Form.{Form}
use Rattle.number.specs.declared.form.Form.TheVariants.{Full, Short, Odd, Malformed}
use Rattle.number.specs.Number.{zeros, sign, short_magnitude, form_of, full_of}

-- The full number of sign s that is worth v, a number from 1 to 65,535. With z zeros above v's top bit of 32, v times 2^z has its top bit at 2^31,
-- and times 2^((160 - z) - 160) is v again.
unfoldable pub full_of_short : ℕ → ℕ → Number
full_of_short s v = full_of s (160 - count_leading_zeros 32 v) (v * 2 ^ count_leading_zeros 32 v)

abbrev pub short_restacked : Number → Number
short_restacked x = cond (short_magnitude x == 0) zeros (full_of_short (sign x) (short_magnitude x))

-- Malformed, which report 3 refuses before, is taken as short here.
abbrev pub restacked_as : Form → Number → Number
restacked_as Full x = x
restacked_as Short x = short_restacked x
restacked_as Odd x = zeros
restacked_as Malformed x = short_restacked x

unfoldable pub restacked : Number → Number
restacked x = restacked_as (form_of x) x

-- "'Counts as zero' means re-stacked to five zero bytes."
abbrev pub CountsAsZero : Number → Type 0
CountsAsZero x = restacked x ≡ zeros
