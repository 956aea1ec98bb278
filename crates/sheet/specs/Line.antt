-- What a line says, by what stands before its comment.
use Rattle.std.specs.Prelude.{ℕ, Result, Ok, Err, Bool, cond, ◌&&◌, List, eqb, ltb, leb, length, drop, get_or}
use Rattle.std.specs.List.{list_all}
use Rattle.std.specs.Option.{ok_or, option_map, option_map_or}
use Rattle.number.specs.Number.{short_of}
use Rattle.text.specs.Ascii.{ascii}
use Rattle.sheet.specs.declared.meaning.Step.{Step}
use Rattle.sheet.specs.declared.meaning.Step.TheVariants.{Nothing, Push, Literal, Named}
use Rattle.sheet.specs.declared.meaning.Fault.{Fault}
use Rattle.sheet.specs.declared.meaning.Fault.TheVariants.{LongLine, BareNumber, BadPush, BadLiteral, BadEdition, NoStep}
use Rattle.words.specs.Blanks.{trimmed}
use Rattle.words.specs.After.{after}
use Rattle.sheet.specs.Decimal.{decimal_in}
use Rattle.naming.specs.Names.{literal_of, edition_of}
use Rattle.sheet.specs.Numbers.{number_from}

-- the step that a line says, or why it can't be read
abbrev pub Line : Type 0
Line = Result Step Fault

-- a whole number from -65,535 to 65,535, as the short number with b5 = 0; `-` is 45 in ASCII
abbrev pub short_step : ℕ → ℕ → Step
short_step sign v = Push (short_of (cond (eqb v 0) 0 sign) v)

unfoldable pub short_pushed : ℕ → List ℕ → Line
short_pushed sign s = ok_or (option_map (short_step sign) (decimal_in 65535 s)) BadPush

unfoldable pub pushed : List ℕ → Line
pushed s = cond (eqb (get_or s 0 0) 45) (short_pushed 1 (drop 1 s)) (short_pushed 0 s)

-- a literal by its number
unfoldable pub numbered : List ℕ → Line
numbered s = ok_or (option_map Literal (decimal_in 255 s)) BadLiteral

-- an edition by its name
unfoldable pub named : List ℕ → Line
named s = ok_or (option_map Named (edition_of s)) BadEdition

-- a number alone: digits and + , - . / are 43 to 57 in ASCII
unfoldable pub bare : List ℕ → Bool
bare s = list_all (λ c. leb 43 c && ltb c 58) s

-- one word, or five bytes
unfoldable pub plain : List ℕ → Line
plain s = option_map_or (λ l. Ok (Literal l)) (literal_of s) (cond (bare s) (Err BareNumber) (ok_or (option_map Push (number_from 0 0 s)) NoStep))

unfoldable pub said : List ℕ → Line
said s =
    cond (eqb (length s) 0) (Ok Nothing)
    (option_map_or pushed (after (ascii "push") s)
    (option_map_or numbered (after (ascii "literal") s)
    (option_map_or named (after (ascii "edition") s)
    (plain s))))

-- what stands before the comment has at most 65,535 bytes
unfoldable pub line_of : List ℕ → Line
line_of told = cond (ltb 65535 (length told)) (Err LongLine) (said (trimmed told))
