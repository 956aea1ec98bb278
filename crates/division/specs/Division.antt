-- Document 01, "Division (001, 000)". Which edition it is decides the 34th digit alone.
use Rattle.std.specs.Prelude.{cond, ℕ, ◌+◌, ◌*◌, ◌-◌, ◌/◌, ◌%◌, eqb, Some, None}
use Rattle.edition.specs.declared.Edition.{Edition}
use Rattle.number.specs.declared.Number.{Number}
use Rattle.number.specs.Number.{zeros, sign, mantissa}
use Rattle.number.specs.Restack.{restacked}
use Rattle.ending.specs.Ending.{ended, Answer}
use Rattle.division.specs.Rounds.{Trial, rounds33, digit34}

-- "The first 32 digits are T; digit 33 is the first rounding digit. The 34th" is the second. "Then the ending."
abbrev pub ended_rounds : Edition → ℕ → ℕ → ℕ → Trial → Answer
ended_rounds ed s e n r = ended s (r.digits / 2) e (r.digits % 2 + 2 * digit34 ed n r)

-- Of two full numbers: "e is the dividend's exponent byte less the divisor's, plus 129", with the ending's 256 added. "The result is negative exactly
-- when the signs differ."
unfoldable pub full_quotient : Edition → Number → Number → Answer
full_quotient ed x y =
    ended_rounds ed ((sign x + sign y) % 2) (x.b1 + 129 + 256 - y.b1) (mantissa y) (rounds33 (mantissa x) (mantissa y))

-- "A divisor of zero is report 6, before the dividend is looked at; a zero dividend then gives five zero bytes." Of re-stacked numbers the zero is the
-- one whose exponent byte is 0.
unfoldable pub restacked_quotient : Edition → Number → Number → Answer
restacked_quotient ed x y = cond (eqb y.b1 0) None (cond (eqb x.b1 0) (Some zeros) (full_quotient ed x y))

-- "Re-stack both."
unfoldable pub quotient_of : Edition → Number → Number → Answer
quotient_of ed x y = restacked_quotient ed (restacked x) (restacked y)
