-- "A cell is made from a run's report and the bench after it. Its cases, first match: a refusal that names the report and holds no
-- value (report not 0; else 1 if the bench is so now); blank at depth 0; a refusal naming 3 for a malformed top; odd; or the top's
-- value as a 64-bit double."
use Rattle.std.specs.Prelude.{ℕ, cond, not, List, eqb, Float}
use Rattle.number.specs.declared.Number.{Number}
use Rattle.number.specs.declared.form.Form.{Form}
use Rattle.number.specs.declared.form.Form.TheVariants.{Full, Short, Odd as OddForm, Malformed}
use Rattle.number.specs.Number.{form_of}
use Rattle.value.specs.Double.{double_of}
use Rattle.display.specs.declared.shown.Cell.{Cell}
use Rattle.display.specs.declared.shown.Cell.TheVariants.{Refused, Blank, Odd, Value}
use Rattle.slots.specs.Reports.{over_limits}
use Rattle.slots.specs.Slots.{top}

-- a number on display, by its form
unfoldable pub shown : Form → Number → Cell
shown Malformed x = Refused 3
shown OddForm x = Odd
shown Full x = Value (double_of x)
shown Short x = Value (double_of x)

abbrev pub number_shown : Number → Cell
number_shown x = shown (form_of x) x

unfoldable pub cell_of : ℕ → List ℕ → ℕ → Cell
cell_of r s d =
    cond (not (eqb r 0)) (Refused r)
    (cond (over_limits s d) (Refused 1)
    (cond (eqb d 0) Blank
    (number_shown (top s d))))

-- the report that a cell names; 0 where it names none
unfoldable pub report_in : Cell → ℕ
report_in (Refused n) = n
report_in Blank = 0
report_in Odd = 0
report_in (Value x) = 0

-- the number that a cell carries
pub data Carried : Type 0 where
  nothing : Carried
  number : Float → Carried

unfoldable pub carried_by : Cell → Carried
carried_by (Refused n) = nothing
carried_by Blank = nothing
carried_by Odd = nothing
carried_by (Value x) = number x
