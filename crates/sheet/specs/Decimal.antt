-- A whole number in decimal, of one digit at least, up to a limit.
use Rattle.std.specs.Prelude.{ℕ, ◌+◌, ◌*◌, cond, List, [], ◌∷◌, Option, Some, None, eqb, ltb, length}
use Rattle.text.specs.Digits.{value_of}

-- the number with the digits from here on, after some that come to v: none where one is no digit, or it comes to more than the limit
unfoldable pub decimal_from : ℕ → ℕ → List ℕ → Option ℕ
decimal_from most v [] = Some v
decimal_from most v (c ∷ cs) =
    let w = 10 * v + value_of c in
    cond (ltb 9 (value_of c)) None (cond (ltb most w) None (decimal_from most w cs))

unfoldable pub decimal_in : ℕ → List ℕ → Option ℕ
decimal_in most s = cond (eqb (length s) 0) None (decimal_from most 0 s)
