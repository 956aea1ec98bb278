-- A literal by its name in the ROM's listing, and an edition by its name.
use Rattle.std.specs.Prelude.{ℕ, cond, List, [], ◌∷◌, Option, Some, None, map}
use Rattle.std.specs.Str.{bytes_eq}
use denote.Ref.{Bor}
use Rattle.text.specs.Ascii.{ascii}
use Rattle.edition.specs.declared.Edition.{Edition}
use Rattle.edition.specs.declared.Edition.TheVariants.{Shipped, Mended}

-- what the first row has of which the text is the name
unfoldable pub by_name : {A : Type 0} → List (List ℕ × A) → List ℕ → Option A
by_name [] s = None
by_name (r ∷ rs) s = cond (bytes_eq r.0 s) (Some r.1) (by_name rs s)

-- a table's rows, by the names that they lend
abbrev pub rows_of : {A : Type 0} → List (Bor (List ℕ) × A) → List (List ℕ × A)
rows_of rows = map (λ r. (r.0.now, r.1)) rows

abbrev pub literals : List (List ℕ × ℕ)
literals =
    (ascii "exchange", 1)
    ∷ (ascii "delete", 2)
    ∷ (ascii "subtract", 3)
    ∷ (ascii "multiply", 4)
    ∷ (ascii "divide", 5)
    ∷ (ascii "add", 15)
    ∷ (ascii "negate", 27)
    ∷ (ascii "int", 39)
    ∷ (ascii "duplicate", 49)
    ∷ (ascii "truncate", 58)
    ∷ (ascii "re-stack", 61)
    ∷ []

unfoldable pub literal_of : List ℕ → Option ℕ
literal_of s = by_name literals s

unfoldable pub edition_of : List ℕ → Option Edition
edition_of s = by_name ((ascii "shipped", Shipped) ∷ (ascii "mended", Mended) ∷ []) s
