-- What `find` over a table gives.
use Rattle.std.specs.Prelude.{◌≡◌, ℕ, Bool, true, false, cond, List, [], ◌∷◌, Option, Some}
use Rattle.std.specs.Str.{bytes_eq}
use Rattle.std.specs.List.{find}
use Rattle.std.specs.Option.{option_map}
use Rattle.std.proofs.Math.Path.{refl}
use denote.Ref.{Bor}
use Rattle.naming.specs.Names.{by_name, rows_of}

find_by_name : {A : Type 0} (s : List ℕ) (rows : List (Bor (List ℕ) × A)) → option_map (λ (r : Bor (List ℕ) × A). r.1) (find (λ r. bytes_eq r.0.now s) rows) ≡ by_name (rows_of rows) s
unfolding by_name
find_by_name s [] = refl
find_by_name {A} s (r ∷ rs) = go (bytes_eq r.0.now s) (find_by_name s rs)
  where
    go : (t : Bool) → option_map (λ (r : Bor (List ℕ) × A). r.1) (find (λ r. bytes_eq r.0.now s) rs) ≡ by_name (rows_of rs) s
        → option_map (λ (r : Bor (List ℕ) × A). r.1) (cond t (Some r) (find (λ r. bytes_eq r.0.now s) rs)) ≡ cond t (Some r.1) (by_name (rows_of rs) s)
    go true h = refl
    go false h = h

pub found_by_name : {A : Type 0} (s : List ℕ) (rows : List (Bor (List ℕ) × A)) {o : Option (Bor (List ℕ) × A)} → o ≡ find (λ r. bytes_eq r.0.now s) rows
    → option_map (λ (r : Bor (List ℕ) × A). r.1) o ≡ by_name (rows_of rows) s
found_by_name s rows e = rw e (find_by_name s rows)
