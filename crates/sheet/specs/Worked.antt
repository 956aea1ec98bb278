-- Lines, each with what it says, by computation.
use Prim.Native.String.{String}
use Rattle.std.specs.Prelude.{◌≡◌, refl, Ok, Err, List, [], ◌∷◌, ◌++◌, map}
use Rattle.edition.specs.declared.Edition.TheVariants.{Shipped, Mended}
use Rattle.number.specs.Number.{bytes}
use Rattle.text.specs.Ascii.{ascii}
use Rattle.text.specs.Digits.{value_of}
use Rattle.sheet.specs.declared.meaning.Step.TheVariants.{Nothing, Push, Literal, Named}
use Rattle.sheet.specs.declared.meaning.Fault.TheVariants.{BareNumber, BadPush, BadLiteral, BadEdition, NoStep}
use Rattle.words.specs.Begins.{begins}
use Rattle.words.specs.Blanks.{byte_order_mark, told_of, unmarked, comment_from, blank, started, end_of}
use Rattle.sheet.specs.Decimal.{decimal_from, decimal_in}
use Rattle.words.specs.After.{any_of, after}
use Rattle.naming.specs.Names.{by_name, literal_of, edition_of}
use Rattle.sheet.specs.Numbers.{number_from}
use Rattle.sheet.specs.Line.{Line, line_of, said, pushed, short_pushed, numbered, named, bare, plain}

pub record Case : Type 0 where
  pub line : String
  pub says : Line

-- each line but the first says what stands beside it
abbrev pub Hold : List Case → Type 0
Hold cs = map (λ (c : Case). line_of (told_of 2 (ascii c.line))) cs ≡ map (λ (c : Case). c.says) cs

abbrev row : String → Line → Case
row s l = record { line = s; says = l }

abbrev pub lines : List Case
lines =
    row "" (Ok Nothing)
    ∷ row "  # a comment" (Ok Nothing)
    ∷ row "7d 4c CC CC\tCC  # a tenth" (Ok (Push (bytes 0x7D 0x4C 0xCC 0xCC 0xCC)))
    ∷ row "00 00 O4 00 00" (Err NoStep)
    ∷ row "00 00 4 00 00" (Err NoStep)
    ∷ row "00 00 0400 00" (Err NoStep)
    ∷ row "84 50 00 00" (Err NoStep)
    ∷ row "84 50 00 00 00 00" (Err NoStep)
    ∷ row "8450000000" (Err BareNumber)
    ∷ row "2" (Err BareNumber)
    ∷ row "-2.5" (Err BareNumber)
    ∷ row "push 1000" (Ok (Push (bytes 0 0 0xE8 0x03 0)))
    ∷ row "push  065535" (Ok (Push (bytes 0 0 0xFF 0xFF 0)))
    ∷ row "push -65535" (Ok (Push (bytes 0 0xFF 0x01 0 0)))
    ∷ row "push -0" (Ok (Push (bytes 0 0 0 0 0)))
    ∷ row "push 65536" (Err BadPush)
    ∷ row "push -65536" (Err BadPush)
    ∷ row "push 1,000" (Err BadPush)
    ∷ row "push -" (Err BadPush)
    ∷ row "push" (Err NoStep)
    ∷ row "push1" (Err NoStep)
    ∷ row "literal 61" (Ok (Literal 61))
    ∷ row "literal 255" (Ok (Literal 255))
    ∷ row "literal 256" (Err BadLiteral)
    ∷ row "multiply" (Ok (Literal 4))
    ∷ row "re-stack" (Ok (Literal 61))
    ∷ row "edition mended" (Ok (Named Mended))
    ∷ row " edition  shipped\t# as it was sold" (Ok (Named Shipped))
    ∷ row "edition mendet" (Err BadEdition)
    ∷ row "edition Mended" (Err BadEdition)
    ∷ row "edition mended 2" (Err BadEdition)
    ∷ row "edition" (Err NoStep)
    ∷ row "mended" (Err NoStep)
    ∷ row "add 5" (Err NoStep)
    ∷ row "Add" (Err NoStep)
    ∷ []

-- a byte-order mark is passed over before the first line, and nowhere else
abbrev pub Marked : Type 0
Marked = (line_of (told_of 1 (byte_order_mark ++ ascii "add")) ≡ Ok (Literal 15)) × (line_of (told_of 2 (byte_order_mark ++ ascii "add")) ≡ Err NoStep)

computed : Hold lines × Marked
unfolding
    line_of said any_of after pushed short_pushed numbered named bare plain number_from literal_of edition_of by_name decimal_in decimal_from begins unmarked comment_from
    blank started end_of value_of
computed = (refl, (refl, refl))

pub lines_hold : Hold lines
lines_hold = computed.0

pub marked : Marked
marked = computed.1
