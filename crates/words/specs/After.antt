-- What follows a word of a line.
use Rattle.std.specs.Prelude.{ℕ, cond, ◌&&◌, List, [], ◌∷◌, Option, Some, None, length, drop, get_or}
use Rattle.words.specs.Begins.{begins}
use Rattle.words.specs.Blanks.{blank, started}

-- a text, if there is any
unfoldable pub any_of : List ℕ → Option (List ℕ)
any_of [] = None
any_of (c ∷ cs) = Some (c ∷ cs)

-- what follows a word and a blank, if anything does
unfoldable pub after : List ℕ → List ℕ → Option (List ℕ)
after word s = cond (begins word s && blank (get_or s (length word) 0)) (any_of (started (drop (length word) s))) None
