-- Numbers as text: decimal, and hexadecimal in upper case. ASCII has `0` at 48, `A` at 65 and `a` at 97.
use Rattle.std.specs.Prelude.{ℕ, zero, suc, ◌+◌, ◌-◌, ◌*◌, ◌/◌, ◌%◌, ◌≤◌, ◌≡◌, Bool, true, false, cond, List, [], ◌∷◌, ◌++◌, ltb, length}
use Rattle.std.proofs.Common.{arith, length-append}

-- the digit of d below 16
unfoldable pub digit_of : ℕ → ℕ
digit_of d = cond (ltb d 10) (48 + d) (55 + d)

-- n in decimal, of at most k + 1 digits
unfoldable pub digits_of : ℕ → ℕ → List ℕ
digits_of zero n = digit_of (n % 10) ∷ []
digits_of (suc k) n = cond (ltb n 10) (digit_of n ∷ []) (digits_of k (n / 10) ++ (digit_of (n % 10) ∷ []))

-- a number below 10^20, as every u64 is
abbrev pub decimal_of : ℕ → List ℕ
decimal_of n = digits_of 19 n

-- so many digits it has at most
pub digits_length : (k n : ℕ) → length (digits_of k n) ≤ k + 1
unfolding digits_of
digits_length zero n = omega arith
digits_length (suc k) n = go (ltb n 10) (digits_length k (n / 10))
  where
    go : (t : Bool) → length (digits_of k (n / 10)) ≤ k + 1 → length (cond t (digit_of n ∷ []) (digits_of k (n / 10) ++ (digit_of (n % 10) ∷ []))) ≤ suc k + 1
    go true h = omega arith
    go false h = omega (arith, length-append (digits_of k (n / 10)) (digit_of (n % 10) ∷ []))

-- a byte as two digits
abbrev pub hex_of : ℕ → List ℕ
hex_of b = digit_of (b / 16) ∷ digit_of (b % 16) ∷ []

-- the bytes of a list in hexadecimal, with a text before each
unfoldable pub each_of : List ℕ → List ℕ → List ℕ
each_of before [] = []
each_of before (b ∷ bs) = before ++ hex_of b ++ each_of before bs

pub each_length : (before bs : List ℕ) → length (each_of before bs) ≡ (length before + 2) * length bs
unfolding each_of
each_length before [] = omega arith
each_length before (b ∷ bs) =
    let rest = each_length before bs in
    omega (arith, length-append (before ++ hex_of b) (each_of before bs), length-append before (hex_of b), rest)

-- with nothing between them
abbrev pub hexes_of : List ℕ → List ℕ
hexes_of bs = each_of [] bs

-- the value of a hexadecimal digit of either case; 16 where the byte is none
unfoldable pub value_of : ℕ → ℕ
value_of c =
    cond (ltb c 48) 16
    (cond (ltb c 58) (c - 48)
    (cond (ltb c 65) 16
    (cond (ltb c 71) (c - 55)
    (cond (ltb c 97) 16
    (cond (ltb c 103) (c - 87) 16)))))
