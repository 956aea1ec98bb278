-- The text of a line: what stands before its comment, without the blanks around it.
use Rattle.std.specs.Prelude.{ℕ, zero, suc, ◌+◌, Bool, cond, ◌||◌, List, [], ◌∷◌, eqb, length, take, drop, get_or}
use Rattle.words.specs.Begins.{begins}

-- a space or a tab
unfoldable pub blank : ℕ → Bool
blank c = eqb c 32 || eqb c 9

-- a byte-order mark before the first line is no part of it
abbrev pub byte_order_mark : List ℕ
byte_order_mark = 0xEF ∷ 0xBB ∷ 0xBF ∷ []

unfoldable pub unmarked : ℕ → List ℕ → List ℕ
unmarked number s = cond (eqb number 1) (cond (begins byte_order_mark s) (drop 3 s) s) s

-- a comment begins with `#`, 35 in ASCII, and goes to the line's end: its place, looked for from place n on
unfoldable pub comment_from : ℕ → List ℕ → ℕ
comment_from n [] = n
comment_from n (c ∷ cs) = cond (eqb c 35) n (comment_from (n + 1) cs)

-- what stands before it
abbrev pub told_of : ℕ → List ℕ → List ℕ
told_of number s = take (comment_from 0 (unmarked number s)) (unmarked number s)

-- a list without the blanks before it
unfoldable pub started : List ℕ → List ℕ
started [] = []
started (c ∷ cs) = cond (blank c) (started cs) (c ∷ cs)

-- where the first n bytes of a list end without the blanks after them
unfoldable pub end_of : List ℕ → ℕ → ℕ
end_of s zero = 0
end_of s (suc n) = cond (blank (get_or s n 0)) (end_of s n) (suc n)

abbrev pub trimmed : List ℕ → List ℕ
trimmed s = started (take (end_of s (length s)) s)
