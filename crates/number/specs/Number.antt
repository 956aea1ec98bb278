-- Document 01, "The bench and its numbers": the forms of a number, its sign and mantissa, and the ways to write one.
use Rattle.std.specs.Prelude.{ℕ, ◌+◌, ◌-◌, ◌*◌, ◌/◌, ◌%◌, ◌^◌, Bool, true, false, cond, ◌&&◌, ◌==◌, nat_lt}
use Rattle.number.specs.declared.Number.{Number}
use Rattle.number.specs.declared.form.Form.{Form}
use Rattle.number.specs.declared.form.Form.TheVariants.{Full, Short, Odd, Malformed}

-- "A number is five bytes b1 to b5." A `Number` has b1, and b2 to b5 as one word, high byte first.
abbrev pub b2 : Number → ℕ
b2 x = x.word / 2 ^ 24

abbrev pub b3 : Number → ℕ
b3 x = x.word / 2 ^ 16 % 256

abbrev pub b4 : Number → ℕ
b4 x = x.word / 2 ^ 8 % 256

abbrev pub b5 : Number → ℕ
b5 x = x.word % 256

abbrev pub word_of : ℕ → ℕ → ℕ → ℕ → ℕ
word_of b c d e = b * 2 ^ 24 + c * 2 ^ 16 + d * 2 ^ 8 + e

-- a word's bytes in the other order
abbrev pub swapped_of : ℕ → ℕ
swapped_of w = word_of (w % 256) (w / 2 ^ 8 % 256) (w / 2 ^ 16 % 256) (w / 2 ^ 24)

abbrev pub number : ℕ → ℕ → Number
number b w = record { b1 = b; word = w }

abbrev pub bytes : ℕ → ℕ → ℕ → ℕ → ℕ → Number
bytes a b c d e = number a (word_of b c d e)

abbrev pub zeros : Number
zeros = bytes 0 0 0 0 0

-- "Full: b1 is 1 to 255." "Short: b1 is 0, b2 is 00 or FF." Odd is document 01's term: 00 FF 00 00 with any b5. "Anything else is malformed."
unfoldable pub form_of : Number → Form
form_of x =
    cond (nat_lt 0 x.b1) Full (cond (b2 x == 0) Short
    (cond (b2 x == 255) (cond (b3 x == 0) (cond (b4 x == 0) Odd Short) Short) Malformed))

abbrev pub is_malformed : Form → Bool
is_malformed Malformed = true
is_malformed Full = false
is_malformed Short = false
is_malformed Odd = false

unfoldable pub malformed : Number → Bool
malformed x = is_malformed (form_of x)

abbrev pub is_odd : Form → Bool
is_odd Odd = true
is_odd Full = false
is_odd Short = false
is_odd Malformed = false

unfoldable pub odd : Number → Bool
odd x = is_odd (form_of x)

-- The sign, 1 for negative: "the top bit of b2 is the sign". It is a short number's sign too, whose b2 is 00 or FF.
abbrev pub sign : Number → ℕ
sign x = x.word / 2 ^ 31

-- "The mantissa is b2 to b5, high byte first, with the top bit set in place of the sign."
abbrev pub mantissa : Number → ℕ
mantissa x = x.word % 2 ^ 31 + 2 ^ 31

-- The full number with sign s, 0 or 1, exponent byte e and mantissa m.
abbrev pub full_of : ℕ → ℕ → ℕ → Number
full_of s e m = number e (m % 2 ^ 31 + 2 ^ 31 * (s % 2))

-- A short number's low half: "b3 low and b4 high".
abbrev pub low : Number → ℕ
low x = 256 * b4 x + b3 x

-- Negation in two's complement on sixteen bits.
abbrev pub complement_of : ℕ → ℕ
complement_of h = (2 ^ 16 - h) % 2 ^ 16

-- How far a short number is from zero: its low half, or 65,536 less that where it is negative.
abbrev pub short_magnitude : Number → ℕ
short_magnitude x = cond (sign x == 0) (low x) (complement_of (low x))

-- The short number with sign byte b and low half h. "b5 = 0."
abbrev pub halves : ℕ → ℕ → Number
halves b h = bytes 0 b (h % 256) (h / 256) 0

-- x with b2, b3 and b4 of n stored over its own; b1 and b5 stay.
abbrev pub stored_over : Number → Number → Number
stored_over x n = bytes x.b1 (b2 n) (b3 n) (b4 n) (b5 x)

-- The short number with sign s that is v away from zero. (With sign 1, 65,536 makes odd.)
abbrev pub short_of : ℕ → ℕ → Number
short_of s v = number 0 (cond (s == 0) (halves 0 v).word (halves 255 (complement_of v)).word)

-- "Zero test (004): the first four bytes are zero."
unfoldable pub passes_zero_test : Number → Bool
passes_zero_test x = x.b1 == 0 && (b2 x == 0 && (b3 x == 0 && b4 x == 0))
