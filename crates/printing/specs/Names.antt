-- A literal's name in the ROM's listing, as a sheet has it; 0 is a push in a recording.
use Rattle.std.specs.Prelude.{ℕ, ◌≡◌, refl, Some, cond, List, ◌++◌, eqb}
use Rattle.text.specs.Ascii.{ascii}
use Rattle.text.specs.Digits.{decimal_of}
use Rattle.naming.specs.Names.{by_name, literal_of}

-- one that is in no row, as a sheet asks for it
abbrev pub number_name : ℕ → List ℕ
number_name l = ascii "literal " ++ decimal_of l

unfoldable pub name_of : ℕ → List ℕ
name_of l =
    cond (eqb l 0) (ascii "push")
    (cond (eqb l 1) (ascii "exchange")
    (cond (eqb l 2) (ascii "delete")
    (cond (eqb l 3) (ascii "subtract")
    (cond (eqb l 4) (ascii "multiply")
    (cond (eqb l 5) (ascii "divide")
    (cond (eqb l 15) (ascii "add")
    (cond (eqb l 27) (ascii "negate")
    (cond (eqb l 39) (ascii "int")
    (cond (eqb l 49) (ascii "duplicate")
    (cond (eqb l 58) (ascii "truncate")
    (cond (eqb l 61) (ascii "re-stack")
    (number_name l))))))))))))

-- a sheet reads each name as its literal
pub names_read : (literal_of (name_of 1) ≡ Some 1)
    × (literal_of (name_of 2) ≡ Some 2)
    × (literal_of (name_of 3) ≡ Some 3)
    × (literal_of (name_of 4) ≡ Some 4)
    × (literal_of (name_of 5) ≡ Some 5)
    × (literal_of (name_of 15) ≡ Some 15)
    × (literal_of (name_of 27) ≡ Some 27)
    × (literal_of (name_of 39) ≡ Some 39)
    × (literal_of (name_of 49) ≡ Some 49)
    × (literal_of (name_of 58) ≡ Some 58)
    × (literal_of (name_of 61) ≡ Some 61)
unfolding name_of literal_of by_name
names_read = (refl, refl, refl, refl, refl, refl, refl, refl, refl, refl, refl)
