-- What holds of each row of the table, and of a literal that is in none, holds of every literal's row.
use Rattle.std.specs.Prelude.{ℕ, Bool, true, false, cond, List, [], ◌∷◌, eqb}
use Rattle.literals.specs.Literals.{unknown, Row, row, table, find, row_of}

abbrev pub Each : (Row → Type 0) → List Row → Type 0
Each P [] = Unit
Each P (r ∷ rs) = P r × Each P rs

-- a row's proof and those of the rows after it
infixr 5 ◌and◌
pub ◌and◌ : {A B : Type 0} → A → B → A × B
◌and◌ a b = (a, b)

module _ (P : Row → Type 0) (none : (l : ℕ) → P (row l unknown 0 0)) where
  picked : (b : Bool) (r q : Row) → P r → P q → P (cond b r q)
  picked true r q h k = h
  picked false r q h k = k

  found : (l : ℕ) (rs : List Row) → Each P rs → P (find l rs)
  found l [] e = none l
  found l (r ∷ rs) e = picked (eqb l r.literal) r (find l rs) e.0 (found l rs e.1)

  pub each_row : Each P table → (l : ℕ) → P (row_of l)
  unfolding row_of
  each_row e l = found l table e
