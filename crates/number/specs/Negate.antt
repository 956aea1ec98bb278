-- Document 01: "Negation: a number that passes the zero test stays as it is; full has its sign bit flipped; odd becomes five zero bytes; other
-- shorts change sign."
use Rattle.std.specs.Prelude.{◌+◌, ◌-◌, ◌%◌, ◌^◌, cond}
use Rattle.number.specs.declared.Number.{Number}
use Rattle.number.specs.declared.form.Form.{Form}
use Rattle.number.specs.declared.form.Form.TheVariants.{Full, Short, Odd, Malformed}
use Rattle.number.specs.Number.{zeros, sign, short_magnitude, short_of, form_of, passes_zero_test}

-- Malformed, which report 3 refuses before, is taken as short here.
abbrev pub negated_as : Form → Number → Number
negated_as Full x = record { b1 = x.b1; word = (x.word + 2 ^ 31) % 2 ^ 32 }
negated_as Short x = short_of (1 - sign x) (short_magnitude x)
negated_as Odd x = zeros
negated_as Malformed x = short_of (1 - sign x) (short_magnitude x)

unfoldable pub negated : Number → Number
negated x = cond (passes_zero_test x) x (negated_as (form_of x) x)
