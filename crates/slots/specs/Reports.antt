-- Document 01, "Reports, and which comes first": the reports of a stack and of a push.
-- "The order of checks is the order of the rows 1, 5, 2, 4, 3, 6. Each is given exactly then."
use Rattle.std.specs.Prelude.{ℕ, ◌+◌, ◌*◌, Bool, true, cond, ◌||◌, List, [], ◌∷◌, length, ◌==◌, nat_lt}
use Rattle.number.specs.Number.{malformed}
use Rattle.slots.specs.Slots.{number_in}

-- 1: "bench over 16,000 bytes, 5 x depth over its length"
unfoldable pub over_limits : List ℕ → ℕ → Bool
over_limits s d = nat_lt 16000 (length s) || nat_lt (length s) (5 * d)

-- 4: "duplicate or push with 5 x (depth + 1) over the length"
unfoldable pub no_room : List ℕ → ℕ → Bool
no_room s d = nat_lt (length s) (5 * (d + 1))

-- 3: "pushed bytes are not exactly five or are malformed"
unfoldable pub not_a_number : List ℕ → Bool
not_a_number p = cond (length p == 5) (malformed (number_in p 0)) true

-- a row of the table of reports: its number, and whether what it names is so
pub record When : Type 0 where
  pub number : ℕ
  pub holds : Bool

abbrev pub when : ℕ → Bool → When
when n b = record { number = n; holds = b }

-- the first row that holds; 0, done, where none does
abbrev pub first : List When → ℕ
first [] = 0
first (w ∷ ws) = cond w.holds w.number (first ws)

-- the rows for a push of the bytes p, and its report
abbrev pub push_rows : List ℕ → ℕ → List ℕ → List When
push_rows s d p =
    when 1 (over_limits s d)
    ∷ when 4 (no_room s d)
    ∷ when 3 (not_a_number p)
    ∷ []

unfoldable pub push_report : List ℕ → ℕ → List ℕ → ℕ
push_report s d p = first (push_rows s d p)
