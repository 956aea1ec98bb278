-- A number of five bytes, a law a case.
use Rattle.std.specs.Prelude.{◌≡◌, ℕ, ◌+◌, ◌*◌, ◌%◌, ◌^◌, ◌<◌, ◌≤◌, true, false, List, Some, None, length, drop, get_or}
use Rattle.std.proofs.Math.Numerals.{add-one}
use Rattle.std.proofs.Common.{drop_of_length-le, drop-cons}
use borrow.Author.Tests.{lt-ltb, le-ltb, eq-eqb, ne_eqb}
use Rattle.text.specs.Digits.{value_of}
use Rattle.words.specs.Blanks.{blank}
use Rattle.sheet.specs.Numbers.{number, after_blank, number_from}

-- for a text of which i bytes are read
module _ (s : List ℕ) (i k v : ℕ) where
  pub number_done : length s ≤ i → k ≡ 14 → number_from k v (drop i s) ≡ Some (number v)
  unfolding number_from
  number_done h g = rw (drop_of_length-le s h, g)

  pub number_short : length s ≤ i → (k ≡ 14 → ⊥) → number_from k v (drop i s) ≡ None
  unfolding number_from
  number_short h g = rw (drop_of_length-le s h) (simp (ne_eqb _ _ g))

  module _ (h : i < length s) (d : ℕ) (e : d ≡ value_of (get_or s i 0)) where
    pub number_digit : d < 16 → (k % 3 ≡ 2 → ⊥) → number_from k v (drop i s) ≡ number_from (k + 1) (16 * (v % 2 ^ 36) + d) (drop (i + 1) s)
    unfolding number_from
    number_digit l g = rw (drop-cons s i 0 h, ← e, add-one i) (simp (lt-ltb _ _ l, ne_eqb _ _ g))

    pub number_third : d < 16 → k % 3 ≡ 2 → number_from k v (drop i s) ≡ None
    unfolding number_from
    number_third l g = rw (drop-cons s i 0 h, ← e) (simp (lt-ltb _ _ l, eq-eqb _ _ g))

    pub number_half : 16 ≤ d → k % 3 ≡ 1 → number_from k v (drop i s) ≡ None
    unfolding number_from
    number_half l g = rw (drop-cons s i 0 h, ← e) (simp (le-ltb _ _ l, eq-eqb _ _ g))

    pub number_blank : 16 ≤ d → (k % 3 ≡ 1 → ⊥) → blank (get_or s i 0) ≡ true → number_from k v (drop i s) ≡ number_from (after_blank k) v (drop (i + 1) s)
    unfolding number_from
    number_blank l g b = rw (drop-cons s i 0 h, ← e, add-one i) (simp (le-ltb _ _ l, ne_eqb _ _ g, b))

    pub number_other : 16 ≤ d → (k % 3 ≡ 1 → ⊥) → blank (get_or s i 0) ≡ false → number_from k v (drop i s) ≡ None
    unfolding number_from
    number_other l g b = rw (drop-cons s i 0 h, ← e) (simp (le-ltb _ _ l, ne_eqb _ _ g, b))
