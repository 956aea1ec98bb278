-- A number of five bytes in hexadecimal, two digits each, with blanks between them.
use Rattle.std.specs.Prelude.{ℕ, ◌+◌, ◌*◌, ◌/◌, ◌%◌, ◌^◌, cond, List, [], ◌∷◌, Option, Some, None, eqb, ltb}
use Rattle.number.specs.declared.Number.{Number}
use Rattle.text.specs.Digits.{value_of}
use Rattle.words.specs.Blanks.{blank}

-- b1 is the first two of ten digits that come to v
abbrev pub number : ℕ → Number
number v = record { b1 = v / 2 ^ 32; word = v % 2 ^ 32 }

-- Three steps a byte: its two digits, and a blank after them. Further blanks are no step.
abbrev pub after_blank : ℕ → ℕ
after_blank k = 3 * ((k + 1) / 3)

-- the number from here on, after k steps, with digits of which the last ten come to v: the fifth byte has no blank after it
unfoldable pub number_from : ℕ → ℕ → List ℕ → Option Number
number_from k v [] = cond (eqb k 14) (Some (number v)) None
number_from k v (c ∷ cs) =
    cond (ltb (value_of c) 16)
    (cond (eqb (k % 3) 2) None (number_from (k + 1) (16 * (v % 2 ^ 36) + value_of c) cs))
    (cond (eqb (k % 3) 1) None (cond (blank c) (number_from (after_blank k) v cs) None))
