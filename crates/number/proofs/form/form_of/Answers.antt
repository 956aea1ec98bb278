-- `form_of` meets its contract: the word, in the range of each arm, gives the premises of a case law of `form_of`.
use Rattle.std.proofs.Common.{arith, sym}
use Rattle.number.specs.FormLaws.{form_full, form_short, form_malformed, form_odd, form_negative}
use Rattle.number.proofs.form.form_of.Goals as goal

pub returns-then-x-ne0 : goal.returns-then-x-ne0
returns-then-x-ne0 c = sym (form_full _ (omega arith))

pub returns-in-0-to-16777215 : goal.returns-in-0-to-16777215
returns-in-0-to-16777215 c = sym (form_short _ (omega arith) (omega arith))

pub returns-in-16777216-to-4278190079 : goal.returns-in-16777216-to-4278190079
returns-in-16777216-to-4278190079 c = sym (form_malformed _ (omega arith) (omega arith) (omega arith))

pub returns-in-4278190080-to-4278190335 : goal.returns-in-4278190080-to-4278190335
returns-in-4278190080-to-4278190335 c = sym (form_odd _ (omega arith) (omega arith) (omega arith))

pub returns-in_default : goal.returns-in_default
returns-in_default c = sym (form_negative _ (omega arith) (omega arith) (omega arith) (omega arith))
