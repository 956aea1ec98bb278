-- The short route by the wrapped sum, its carry and the signs.
use Rattle.std.specs.Prelude.{◌≡◌, ℕ, suc, ◌+◌, ◌-◌, ◌*◌, ◌%◌, ◌^◌, ◌<◌, ◌≤◌, Bool, true, false, cond, ℤ, pos, negsuc, ◌+ℤ◌, ◌-ℤ◌, neg_ℤ, ◌≢◌, nat_lt, refl, Some}
use Rattle.std.proofs.Common.{sym, ◌∙◌}
use Rattle.std.proofs.Math.Path.{ap}
use borrow.Author.Tests.{lt-ltb, le-leb, lt-leb, eq-eqb, ne_eqb, ltb-true, ltb-false}
use native.Mathlib.Omega.{arith}
use Rattle.std.proofs.Math.IntN.{+ℤ_comm, +ℤ_assoc}
use Rattle.edition.specs.declared.Edition.{Edition}
use Rattle.edition.specs.declared.Edition.TheVariants.{Shipped, Mended}
use Rattle.number.specs.declared.Number.{Number}
use Rattle.number.specs.Number.{sign, low, complement_of, halves, stored_over}
use Rattle.number.specs.Value.{short_value}
use Rattle.addition.specs.Addition.{stored_short, short_sum, written_short, full_route, short_route, sum_of}
use Rattle.addition.specs.SignedLaws.{same_sign, above, below}
use Rattle.addition.specs.ShortRouteLaws.{carry_of, negatives, wrapped}

wraps : (a b : ℕ) → a < 2 ^ 16 → b < 2 ^ 16 → a + b ≡ (a + b) % 2 ^ 16 + 2 ^ 16 * carry_of ((a + b) % 2 ^ 16) a
wraps a b h g = go (nat_lt ((a + b) % 2 ^ 16) a) refl
  where
    go : (t : Bool) → nat_lt ((a + b) % 2 ^ 16) a ≡ t → a + b ≡ (a + b) % 2 ^ 16 + 2 ^ 16 * cond t 1 0
    go true e = omega (arith, ltb-true)
    go false e = omega (arith, ltb-false)

pub carries : (a b : ℕ) → a < 2 ^ 16 → b < 2 ^ 16 → 2 ^ 16 ≤ a + b → carry_of ((a + b) % 2 ^ 16) a ≡ 1
carries a b h g k = simp (lt-ltb ((a + b) % 2 ^ 16) a (omega arith))

differences : (a b d e : ℕ) → (pos a -ℤ pos d) +ℤ (pos b -ℤ pos e) ≡ pos (a + b) -ℤ pos (d + e)
differences a b d e =
    let m = neg_ℤ (pos d) in
    let n = neg_ℤ (pos e) in
    +ℤ_assoc (pos a) m (pos b +ℤ n)
    ∙ ap (λ (z : ℤ). pos a +ℤ z) (sym (+ℤ_assoc m (pos b) n) ∙ ap (λ (z : ℤ). z +ℤ n) (+ℤ_comm m (pos b)) ∙ +ℤ_assoc (pos b) m n)
    ∙ sym (+ℤ_assoc (pos a) (pos b) (m +ℤ n))
    ∙ ap (λ (z : ℤ). pos (a + b) +ℤ z) (same_sign 1 d e)

-- a sum a of low halves, wrapped to w with the carry c, less n times 65,536: the seventeenth bit is c - n
module _ (a w c n : ℕ) (t : a ≡ w + 2 ^ 16 * c) (f : w < 2 ^ 16) where
  abbrev rest : ℤ
  rest = pos a -ℤ pos (2 ^ 16 * n)

  bit_0 : c ≡ n → rest ≡ pos w
  bit_0 h = let e : a - 2 ^ 16 * n ≡ w = omega arith in above a (2 ^ 16 * n) (omega arith) ∙ ap pos e

  under : (k : ℕ) → 2 ^ 16 * n ≡ a + suc k → rest ≡ negsuc k
  under k h = let e : 2 ^ 16 * n - a ≡ suc k = omega arith in below a (2 ^ 16 * n) (omega arith) ∙ ap (λ (i : ℕ). neg_ℤ (pos i)) e

  bit_1 : c + 1 ≡ n → rest ≡ negsuc (65535 - w)
  bit_1 h = under (65535 - w) (omega arith)

  -- it is 1 or -2
  beyond_bits : (c ≢ n) → (c + 1 ≢ n) → stored_short rest ≡ false
  beyond_bits h g = go (nat_lt c n) refl
    where
      go : (b : Bool) → nat_lt c n ≡ b → stored_short rest ≡ false
      go true e =
          let less : c < n = ltb-true _ _ e in
          let k = 2 ^ 16 * n - a - 1 in
          ap stored_short (under k (omega arith)) ∙ simp (lt-leb k 65535 (omega arith))
      go false e =
          let more : n ≤ c = ltb-false _ _ e in
          ap stored_short (above a (2 ^ 16 * n) (omega arith)) ∙ lt-leb (a - 2 ^ 16 * n) 65535 (omega arith)

-- two's complement of what is below zero, with 65,535 less w to go
pub again : (w : ℕ) → w < 2 ^ 16 → complement_of (suc (65535 - w)) ≡ w
again w l = omega arith

-- ---- how a sum is written, by what it comes to
module _ (x : Number) where
  written_0 : (ed : Edition) (w : ℕ) → written_short ed x (pos w) ≡ stored_over x (halves 0 w)
  written_0 Shipped w = refl
  written_0 Mended w = refl

  over_again : (w : ℕ) → w < 2 ^ 16 → stored_over x (halves 255 (complement_of (suc (65535 - w)))) ≡ stored_over x (halves 255 w)
  over_again w l = ap (λ (n : ℕ). stored_over x (halves 255 n)) (again w l)

  -- one below zero; -65,536 itself is apart
  written_1 : (ed : Edition) (w : ℕ) → 0 < w → w < 2 ^ 16 → written_short ed x (negsuc (65535 - w)) ≡ stored_over x (halves 255 w)
  written_1 Shipped w p l = over_again w l
  written_1 Mended w p l = simp (lt-leb 65535 (65535 - w) (omega arith)) (over_again w l)

module _ (x y : Number) where
  abbrev carry : ℕ
  carry = carry_of (wrapped x y) (low x)

  pub total : low x + low y ≡ wrapped x y + 2 ^ 16 * carry
  total = wraps (low x) (low y) (omega arith) (omega arith)

  sum_as : short_sum x y ≡ pos (low x + low y) -ℤ pos (2 ^ 16 * negatives x y)
  unfolding short_value
  sum_as =
      let both : 65536 * sign x + 65536 * sign y ≡ 2 ^ 16 * negatives x y = omega arith in
      differences (low x) (low y) (65536 * sign x) (65536 * sign y) ∙ ap (λ (n : ℕ). pos (low x + low y) -ℤ pos n) both

  -- ---- what the sum of the values comes to, by the carry and the signs
  pub sum_0 : carry ≡ negatives x y → short_sum x y ≡ pos (wrapped x y)
  sum_0 h = sum_as ∙ bit_0 (low x + low y) (wrapped x y) carry (negatives x y) total (omega arith) h

  pub sum_1 : carry + 1 ≡ negatives x y → short_sum x y ≡ negsuc (65535 - wrapped x y)
  sum_1 h = sum_as ∙ bit_1 (low x + low y) (wrapped x y) carry (negatives x y) total (omega arith) h

  pub sum_2 : (carry ≢ negatives x y) → (carry + 1 ≢ negatives x y) → stored_short (short_sum x y) ≡ false
  sum_2 h k = ap stored_short sum_as ∙ beyond_bits (low x + low y) (wrapped x y) carry (negatives x y) total (omega arith) h k

module _ (ed : Edition) (x y : Number) where
  -- the short route, by what the sum comes to
  routed : {z : ℤ} → short_sum x y ≡ z → short_route ed x y ≡ cond (stored_short z) (Some (written_short ed x z)) (full_route x y)
  unfolding short_route
  routed e = ap (λ (w : ℤ). cond (stored_short w) (Some (written_short ed x w)) (full_route x y)) e

  -- ---- how a sum goes
  pub first_full : (x.b1 ≢ 0) → sum_of ed x y ≡ full_route x y
  unfolding sum_of
  first_full h = simp (ne_eqb x.b1 0 h)

  module _ (f : x.b1 ≡ 0) where
    pub second_full : (y.b1 ≢ 0) → sum_of ed x y ≡ full_route x y
    unfolding sum_of
    second_full h = simp (eq-eqb x.b1 0 f, ne_eqb y.b1 0 h)

    module _ (g : y.b1 ≡ 0) where
      short : sum_of ed x y ≡ short_route ed x y
      unfolding sum_of
      short = simp (eq-eqb x.b1 0 f, eq-eqb y.b1 0 g)

      pub short_stored_lem : stored_short (short_sum x y) ≡ true → sum_of ed x y ≡ Some (written_short ed x (short_sum x y))
      unfolding short_route
      short_stored_lem h = short ∙ simp h

      pub short_beyond : stored_short (short_sum x y) ≡ false → sum_of ed x y ≡ full_route x y
      unfolding short_route
      short_beyond h = short ∙ simp h

      pub sum_positive : carry_of (wrapped x y) (low x) ≡ negatives x y → sum_of ed x y ≡ Some (stored_over x (halves 0 (wrapped x y)))
      sum_positive h =
          short ∙ routed (sum_0 x y h) ∙ simp (le-leb (wrapped x y) 65535 (omega arith)) (ap Some (written_0 x ed (wrapped x y)))

      sum_written : carry_of (wrapped x y) (low x) + 1 ≡ negatives x y → sum_of ed x y ≡ Some (written_short ed x (negsuc (65535 - wrapped x y)))
      sum_written h = short ∙ routed (sum_1 x y h) ∙ simp (le-leb (65535 - wrapped x y) 65535 (omega arith))

      pub sum_negative : 0 < wrapped x y → carry_of (wrapped x y) (low x) + 1 ≡ negatives x y → sum_of ed x y ≡ Some (stored_over x (halves 255 (wrapped x y)))
      sum_negative p h = sum_written h ∙ ap Some (written_1 x ed (wrapped x y) p (omega arith))

      -- -65,536, in either edition's way
      pub sum_least : wrapped x y ≡ 0 → carry_of (wrapped x y) (low x) + 1 ≡ negatives x y → sum_of ed x y ≡ Some (written_short ed x (negsuc 65535))
      sum_least z h = sum_written h ∙ ap (λ (w : ℕ). Some (written_short ed x (negsuc (65535 - w)))) z

      pub sum_beyond : (carry_of (wrapped x y) (low x) ≢ negatives x y) → (carry_of (wrapped x y) (low x) + 1 ≢ negatives x y) → sum_of ed x y ≡ full_route x y
      sum_beyond h k = short_beyond (sum_2 x y h k)

-- the shipped edition writes -65,536 as any other
pub sum_shipped : (x y : Number) → x.b1 ≡ 0 → y.b1 ≡ 0 → carry_of (wrapped x y) (low x) + 1 ≡ negatives x y → sum_of Shipped x y ≡ Some (stored_over x (halves 255 (wrapped x y)))
sum_shipped x y f g h = sum_written Shipped x y f g h ∙ ap Some (over_again x (wrapped x y) (omega arith))
