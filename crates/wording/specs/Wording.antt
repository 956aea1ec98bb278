-- What a step gave, as a person reads it, and which line of a sheet it is that can't be taken.
use Rattle.std.specs.Prelude.{ℕ, cond, ◌&&◌, List, [], ◌∷◌, ◌++◌, eqb, leb, ltb, length, take}
use Rattle.text.specs.Ascii.{ascii}
use Rattle.text.specs.Digits.{decimal_of, each_of}
use Rattle.sheet.specs.declared.meaning.Fault.{Fault}
use Rattle.sheet.specs.declared.meaning.Fault.TheVariants.{LongLine, BareNumber, BadPush, BadLiteral, BadEdition, NoStep}

-- the top's bytes, a space before each
unfoldable pub top_of : List ℕ → List ℕ
top_of bs = cond (eqb (length bs) 0) (ascii " -") (each_of (32 ∷ []) bs)

-- 10 is the line feed, 32 the space
abbrev pub step_answer : ℕ → ℕ → List ℕ → List ℕ
step_answer report depth top = decimal_of report ++ (32 ∷ []) ++ decimal_of depth ++ top_of top ++ (10 ∷ [])

-- what is wrong with a line
unfoldable pub fault_of : Fault → List ℕ
fault_of LongLine = ascii "it is longer than 65535 bytes"
fault_of BareNumber = ascii "a number alone is not read: write push N to enter it, or literal N for a literal"
fault_of BadPush = ascii "push takes a whole number from -65535 to 65535"
fault_of BadLiteral = ascii "literal takes a whole number from 0 to 255"
fault_of BadEdition = ascii "edition takes shipped or mended"
fault_of NoStep = ascii "a line is five bytes in hex as 00 00 04 00 00, push N, literal N, a literal's name, or edition NAME"

-- the first 60 bytes of a text, with `?` (63) for what is not printed as it is
abbrev pub shown_byte : ℕ → ℕ
shown_byte c = cond (leb 32 c && ltb c 127) c 63

unfoldable pub shown_of : List ℕ → List ℕ
shown_of [] = []
shown_of (c ∷ cs) = shown_byte c ∷ shown_of cs

-- the line's number, after a text, and what it says
abbrev pub place_of : List ℕ → ℕ → List ℕ → List ℕ
place_of before number text = before ++ decimal_of number ++ ascii ": " ++ shown_of (take 60 text) ++ ascii ": "
