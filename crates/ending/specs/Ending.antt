-- Document 01, "The ending": "An operation hands over a sign, a magnitude T below 2^32, an exponent e, and rounding digits (none for addition)."
-- The exponent is kept as e + 256 here, which is never below 0, and the rounding digits as a number whose lowest binary digit is the next one: so
-- it is 0 when there is none.
use Rattle.std.specs.Prelude.{cond, ℕ, zero, suc, ◌+◌, ◌*◌, ◌-◌, ◌^◌, ◌/◌, ◌%◌, ltb, eqb, Some, None, Option}
use Rattle.number.specs.declared.Number.{Number}
use Rattle.number.specs.Number.{zeros, full_of}

-- what an operation gives: a number, or none, which is report 6, "number too big"
abbrev pub Answer : Type 0
Answer = Option Number

-- a magnitude whose top bit may be clear, its exponent + 256, and the rounding digits
pub record Loose : Type 0 where
  pub t : ℕ
  pub e : ℕ
  pub digits : ℕ

abbrev pub loose : ℕ → ℕ → ℕ → Loose
loose t e digits = record { t = t; e = e; digits = digits }

-- "T is doubled [one place], each time taking in the next digit (0 when there is none) and lowering e by one"
abbrev pub doubled : Loose → Loose
doubled l = loose (2 * l.t + l.digits % 2) (l.e - 1) (l.digits / 2)

-- ".. one place at a time until its top bit is set", at most so many places
unfoldable pub normal : ℕ → Loose → Loose
normal zero l = l
normal (suc places) l = cond (ltb l.t (2 ^ 31)) (normal places (doubled l)) l

-- "the next digit is added to T (this never reaches 2^32 here)": `rounded_below` is the law for addition's use and division's.
abbrev pub rounded : Loose → ℕ
rounded l = l.t + l.digits % 2

-- "Then e above 255 is report 6; e below 0 gives five zero bytes; e = 0 gives 01, b2 = 00 or 80 by the sign, 00 00 00; otherwise the next digit
-- is added to T and the number stored with its sign." 01 00 00 00 00 and 01 80 00 00 00 have the mantissa 2^31.
unfoldable pub closed : ℕ → Loose → Answer
closed s l =
    cond (ltb (255 + 256) l.e) None
    (cond (ltb l.e 256) (Some zeros)
    (cond (eqb l.e 256) (Some (full_of s 1 (2 ^ 31)))
    (Some (full_of s (l.e - 256) (rounded l)))))

-- "If T is zero, the result is five zero bytes. Otherwise": a T of 1 or more has its top bit set after 31 places at most.
unfoldable pub ended : ℕ → ℕ → ℕ → ℕ → Answer
ended s t e digits = cond (eqb t 0) (Some zeros) (closed s (normal 31 (loose t e digits)))
