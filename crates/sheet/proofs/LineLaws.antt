-- A sign before a number, as `strip_prefix` tests it.
use Rattle.std.specs.Prelude.{◌≡◌, ℕ, Bool, true, false, ◌&&◌, List, [], ◌∷◌, eqb, take, get_or}
use Rattle.std.specs.Cmp.Lexicographic.{pointwise}
use Rattle.std.proofs.Math.Path.{refl}

pub signed : (s : List ℕ) → pointwise eqb (take 1 s) (45 ∷ []) ≡ eqb (get_or s 0 0) 45
signed [] = refl
signed (c ∷ cs) = go (eqb c 45)
  where
    go : (t : Bool) → t && true ≡ t
    go true = refl
    go false = refl
