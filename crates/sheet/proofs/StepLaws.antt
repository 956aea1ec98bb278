-- A whole number in decimal, and a number alone, byte by byte: a law a case.
use Rattle.std.specs.Prelude.{◌≡◌, ℕ, ◌+◌, ◌*◌, ◌<◌, ◌≤◌, true, false, cond, List, None, ltb, length, drop, get_or}
use Rattle.std.proofs.Math.Numerals.{add-one}
use Rattle.std.proofs.Common.{arith, drop_of_length-le, drop-cons}
use borrow.Author.Tests.{lt-ltb, le-ltb, lt-leb, le-leb}
use Rattle.text.specs.Digits.{value_of}
use Rattle.sheet.specs.Decimal.{decimal_from}
use Rattle.sheet.specs.Line.{bare}

-- the digit after i of them: none from there on where the number comes to more than the limit
pub decimal_next : (most : ℕ) (s : List ℕ) (i v : ℕ) {d : ℕ} → i < length s → d ≡ value_of (get_or s i 0) → d ≤ 9
    → decimal_from most v (drop i s) ≡ cond (ltb most (10 * v + d)) None (decimal_from most (10 * v + d) (drop (i + 1) s))
unfolding decimal_from
decimal_next most s i v h e g = rw (drop-cons s i 0 h, ← e, add-one i) (simp (le-ltb _ _ g))

-- a text of which i bytes are passed
module _ (s : List ℕ) (i : ℕ) where
  pub bare_done : length s ≤ i → bare (drop i s) ≡ true
  unfolding bare
  bare_done h = rw (drop_of_length-le s h)

  module _ (h : i < length s) where
    pub bare_below : get_or s i 0 < 43 → bare (drop i s) ≡ false
    unfolding bare
    bare_below g = rw (drop-cons s i 0 h) (simp (lt-leb _ _ g))

    pub bare_above : 57 < get_or s i 0 → bare (drop i s) ≡ false
    unfolding bare
    bare_above g = rw (drop-cons s i 0 h) (simp (le-leb 43 (get_or s i 0) (omega arith), le-ltb (get_or s i 0) 58 (omega arith)))

    pub bare_next : 43 ≤ get_or s i 0 → get_or s i 0 ≤ 57 → bare (drop i s) ≡ bare (drop (i + 1) s)
    unfolding bare
    bare_next g k = rw (drop-cons s i 0 h, add-one i) (simp (le-leb _ _ g, lt-ltb (get_or s i 0) 58 (omega arith)))
