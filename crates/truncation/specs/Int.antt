-- Document 01, "Truncation and int (002)", its second paragraph.
use Rattle.std.specs.Prelude.{cond, eqb, Some, None}
use Rattle.ending.specs.Ending.{Answer}
use Rattle.edition.specs.declared.Edition.{Edition}
use Rattle.number.specs.declared.Number.{Number}
use Rattle.number.specs.Number.{sign, halves, passes_zero_test}
use Rattle.addition.specs.Addition.{difference_of}
use Rattle.truncation.specs.Truncate.{truncated}

-- "the short 1"
abbrev pub short_one : Number
short_one = halves 0 1

-- "if d passes the zero test the result is t, else t subtract the short 1". Report 6 in finding d would stand; no number gives it.
abbrev pub step_down : Edition → Number → Answer → Answer
step_down ed t (Some d) = cond (passes_zero_test d) (Some t) (difference_of ed t short_one)
step_down ed t None = None

-- "Int: if the top bit of b2 is clear, truncate. Otherwise t is x truncated; d is x subtract t"
unfoldable pub int_of : Edition → Number → Answer
int_of ed x = cond (eqb (sign x) 0) (Some (truncated ed x)) (step_down ed (truncated ed x) (difference_of ed x (truncated ed x)))
