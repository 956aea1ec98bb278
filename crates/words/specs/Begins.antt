-- Whether a text begins with another.
use Rattle.std.specs.Prelude.{ℕ, Bool, true, false, cond, List, [], ◌∷◌, eqb}

unfoldable pub begins : List ℕ → List ℕ → Bool
begins [] s = true
begins (w ∷ ws) [] = false
begins (w ∷ ws) (c ∷ cs) = cond (eqb c w) (begins ws cs) false
