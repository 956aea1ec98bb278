-- Texts, numbers and lists put byte by byte: one step of a loop, and its end.
use Rattle.std.specs.Prelude.{ℕ, suc, ◌+◌, ◌-◌, ◌/◌, ◌%◌, ◌<◌, ◌≤◌, ◌≡◌, List, length, drop, get_or}
use Rattle.std.proofs.Common.{arith, add-one, drop_of_length-le, lt-ltb, le-ltb}
use Rattle.std.proofs.Math.Seq.{drop-cons}
use Rattle.text.specs.Put.{Text, put_of, puts_of, puts_join, puts_then, put_last}
use Rattle.text.specs.Digits.{digit_of, digits_of, hex_of, each_of}

-- a list of which i bytes are put
pub puts_done : (t : Text) (bs : List ℕ) (i : ℕ) → length bs ≤ i → puts_of t (drop i bs) ≡ t
unfolding puts_of
puts_done t bs i h = rw (drop_of_length-le bs h)

pub puts_next : (t u : Text) (bs : List ℕ) (i : ℕ) → i < length bs → u ≡ put_of t (get_or bs i 0) → puts_of t (drop i bs) ≡ puts_of u (drop (i + 1) bs)
unfolding puts_of
puts_next t u bs i h e = rw (add-one, drop-cons bs i 0, e)

nonzero : (k : ℕ) → (k ≡ 0 → ⊥) → k ≡ suc (k - 1)
nonzero k h = omega arith

-- the digit in each case, put after those before it
module _ (t : Text) {u : Text} (k n : ℕ) where
  pub digits_last : k ≡ 0 → u ≡ put_of t (digit_of (n % 10)) → u ≡ puts_of t (digits_of k n)
  unfolding digits_of
  digits_last h e = rw h (put_last t _ e)

  pub digits_one : (k ≡ 0 → ⊥) → n < 10 → u ≡ put_of t (digit_of n) → u ≡ puts_of t (digits_of k n)
  unfolding digits_of
  digits_one h g e = rw (nonzero k h) (simp (lt-ltb _ _ g) (put_last t _ e))

  pub digits_more : {v : Text} → (k ≡ 0 → ⊥) → 10 ≤ n → v ≡ puts_of t (digits_of (k - 1) (n / 10)) → u ≡ put_of v (digit_of (n % 10)) → u ≡ puts_of t (digits_of k n)
  unfolding digits_of
  digits_more h g e f = rw (nonzero k h) (simp (le-ltb _ _ g) (puts_then t _ _ e (put_last _ _ f)))

-- a list of which i bytes are put in hexadecimal
module _ (t : Text) (before bs : List ℕ) (i : ℕ) where
  pub each_done : length bs ≤ i → puts_of t (each_of before (drop i bs)) ≡ t
  unfolding each_of puts_of
  each_done h = rw (drop_of_length-le bs h)

  pub each_next : {u v : Text} → i < length bs → u ≡ puts_of t before → v ≡ puts_of u (hex_of (get_or bs i 0))
      → puts_of t (each_of before (drop i bs)) ≡ puts_of v (each_of before (drop (i + 1) bs))
  unfolding each_of
  each_next h e f = rw (add-one, drop-cons bs i 0, f, e) (simp (← puts_join))
