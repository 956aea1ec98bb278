-- A whole number in decimal, a law a case, for a text of which i digits are read.
use Rattle.std.specs.Prelude.{◌≡◌, ℕ, ◌+◌, ◌*◌, ◌<◌, ◌≤◌, List, Some, None, length, drop, get_or}
use Rattle.std.proofs.Math.Numerals.{add-one}
use Rattle.std.proofs.Common.{drop_of_length-le, drop-cons, lt-ltb, le-ltb, eq-eqb, ne_eqb}
use Rattle.text.specs.Digits.{value_of}
use Rattle.sheet.specs.Decimal.{decimal_from, decimal_in}

module _ (most : ℕ) (s : List ℕ) where
  pub decimal_empty : length s ≡ 0 → decimal_in most s ≡ None
  unfolding decimal_in
  decimal_empty h = simp (eq-eqb _ _ h)

  pub decimal_any : (length s ≡ 0 → ⊥) → decimal_from most 0 s ≡ decimal_in most s
  unfolding decimal_in
  decimal_any h = simp (ne_eqb _ _ h)

  module _ (i v : ℕ) where
    pub decimal_done : length s ≤ i → decimal_from most v (drop i s) ≡ Some v
    unfolding decimal_from
    decimal_done h = rw (drop_of_length-le s h)

    module _ {d : ℕ} (h : i < length s) (e : d ≡ value_of (get_or s i 0)) where
      pub decimal_none : 9 < d → decimal_from most v (drop i s) ≡ None
      unfolding decimal_from
      decimal_none g = rw (drop-cons s i 0 h, ← e) (simp (lt-ltb _ _ g))

      pub decimal_over : d ≤ 9 → most < 10 * v + d → decimal_from most v (drop i s) ≡ None
      unfolding decimal_from
      decimal_over g k = rw (drop-cons s i 0 h, ← e) (simp (le-ltb _ _ g, lt-ltb _ _ k))

      pub decimal_within : d ≤ 9 → 10 * v + d ≤ most → decimal_from most v (drop i s) ≡ decimal_from most (10 * v + d) (drop (i + 1) s)
      unfolding decimal_from
      decimal_within g k = rw (drop-cons s i 0 h, ← e, add-one i) (simp (le-ltb _ _ g, le-ltb _ _ k))
