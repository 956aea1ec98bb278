-- Laws of what is put, as the code puts it.
use Rattle.std.specs.Prelude.{ℕ, zero, suc, ◌+◌, ◌*◌, ◌/◌, ◌%◌, ◌<◌, ◌≤◌, ◌^◌, ◌≡◌, refl, Bool, true, false, List, [], ◌∷◌, ◌++◌, length, take, get_or, ltb}
use Rattle.std.proofs.Common.{sym, ◌∙◌, ap, arith, append_assoc, append-nil, pow-suc, ltb-true, ltb-false, lt-ltb, le-ltb}
use Rattle.std.proofs.lemmas.List.{take_more}
use Rattle.text.specs.Put.{Text, puts_of, puts_join}
use Rattle.text.specs.Digits.{digit_of, digits_of, decimal_of, hex_of, each_of}

-- one text after another
pub puts_append : (t : Text) (xs ys : List ℕ) → puts_of t (xs ++ ys) ≡ puts_of (puts_of t xs) ys
puts_append t xs ys = sym (puts_join t xs ys)

-- one byte more of a list
pub puts_take : (t : Text) (bs : List ℕ) (i : ℕ) → i < length bs → puts_of t (take (i + 1) bs) ≡ puts_of (puts_of t (take i bs)) (get_or bs i 0 ∷ [])
puts_take t bs i h = rw (take_more bs i 0 h) (puts_append t (take i bs) (get_or bs i 0 ∷ []))

each_append : (before xs ys : List ℕ) → each_of before (xs ++ ys) ≡ each_of before xs ++ each_of before ys
unfolding each_of
each_append before [] ys = refl
each_append before (x ∷ xs) ys = simp (each_append before xs ys, append_assoc)

each_single : (before : List ℕ) (b : ℕ) → each_of before (b ∷ []) ≡ before ++ hex_of b
unfolding each_of
each_single before b = append-nil (before ++ hex_of b)

pub each_take : (t : Text) (before bs : List ℕ) (i : ℕ) → i < length bs
    → puts_of t (each_of before (take (i + 1) bs)) ≡ puts_of (puts_of (puts_of t (each_of before (take i bs))) before) (hex_of (get_or bs i 0))
each_take t before bs i h =
    rw (
      take_more bs i 0 h,
      each_append before (take i bs) (get_or bs i 0 ∷ []),
      each_single,
      puts_append t (each_of before (take i bs)) (before ++ hex_of (get_or bs i 0)),
      puts_append (puts_of t (each_of before (take i bs))) before (hex_of (get_or bs i 0)),
    )

digits_below_ten : (k n : ℕ) → n < 10 → digits_of k n ≡ digit_of (n % 10) ∷ []
unfolding digits_of
digits_below_ten zero n h = refl
digits_below_ten (suc k) n h = let e : n % 10 ≡ n = omega arith in rw e (simp (lt-ltb _ _ h))

digits_from_ten : (k n : ℕ) → 10 ≤ n → digits_of (suc k) n ≡ digits_of k (n / 10) ++ (digit_of (n % 10) ∷ [])
unfolding digits_of
digits_from_ten k n h = simp (le-ltb _ _ h)

-- a number below 10^(k + 1) needs no more than k + 1 digits
digits_enough : (k n : ℕ) → n < 10 ^ suc k → digits_of (suc k) n ≡ digits_of k n
digits_enough zero n h = let small : n < 10 = omega arith in digits_below_ten 1 n small ∙ sym (digits_below_ten 0 n small)
digits_enough (suc k) n h = go (ltb n 10) refl (digits_enough k (n / 10))
  where
    go : (b : Bool) → ltb n 10 ≡ b → (n / 10 < 10 ^ suc k → digits_of (suc k) (n / 10) ≡ digits_of k (n / 10))
        → digits_of (suc (suc k)) n ≡ digits_of (suc k) n
    go true e ih = let small : n < 10 = ltb-true n 10 e in digits_below_ten (suc (suc k)) n small ∙ sym (digits_below_ten (suc k) n small)
    go false e ih =
        let large : 10 ≤ n = ltb-false n 10 e in
        let tenfold : 10 ^ suc (suc k) ≡ 10 ^ suc k * 10 = pow-suc 10 (suc k) in
        let fewer = ih (omega (arith, tenfold)) in
        digits_from_ten (suc k) n large ∙ ap (λ (xs : List ℕ). xs ++ (digit_of (n % 10) ∷ [])) fewer ∙ sym (digits_from_ten k n large)

pub decimal_one : (n : ℕ) → n < 10 → decimal_of n ≡ digit_of (n % 10) ∷ []
decimal_one n h = digits_below_ten 19 n h

pub decimal_more : (n : ℕ) → 10 ≤ n → n < 10 ^ 20 → decimal_of n ≡ decimal_of (n / 10) ++ (digit_of (n % 10) ∷ [])
decimal_more n g h =
    let rest : n / 10 < 10 ^ 19 = omega arith in
    digits_from_ten 18 n g ∙ ap (λ (xs : List ℕ). xs ++ (digit_of (n % 10) ∷ [])) (sym (digits_enough 18 (n / 10) rest))
