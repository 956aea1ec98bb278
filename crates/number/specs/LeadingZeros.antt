-- Document 02, A4: "Work out the number of leading zero bits first and shift once. Offer that number as a call of its own: for any 32-bit T, 32 if T is zero, else
-- the one z for which T times 2^z is at least 2^31 and below 2^32."
use Rattle.std.specs.Prelude.{◌≡◌, ℕ, suc, ◌+◌, ◌*◌, ◌^◌, ◌<◌, ◌≤◌, ◌⊎◌, ◌≢◌}
use Rattle.std.proofs.Common.{sym, ◌∙◌, ap, subst, inl, inr, le_trans, le_of_eq, mul_assoc, mul-le-mul_left, mul-le-mul_right, pow-suc, eq-zero-or-pos, arith, pow-add, pow_mono, shl_lt}
use Rattle.std.specs.Int.Count.{count_leading_zeros, leading_of_zero}
use Rattle.std.proofs.lemmas.Nat.{leading_top, leading_le}

abbrev pub SetsTop : ℕ → ℕ → Type 0
SetsTop t z = (2 ^ 31 ≤ t * 2 ^ z) × (t * 2 ^ z < 2 ^ 32)

pub record LeadingZeros (t z : ℕ) : Type 0 where
  pub all : t ≡ 0 → z ≡ 32
  pub sets : (t ≢ 0) → SetsTop t z
  pub alone : (y : ℕ) → SetsTop t y → y ≡ z

-- ---- the places to the top bit, of k + 1

-- the zeros above it set it
pub top_set : (k v : ℕ) → 0 < v → v < 2 ^ suc k → (2 ^ k ≤ v * 2 ^ count_leading_zeros (suc k) v) × (v * 2 ^ count_leading_zeros (suc k) v < 2 ^ suc k) × (count_leading_zeros (suc k) v ≤ k)
top_set k v h g =
    let z = count_leading_zeros (suc k) v in
    let t = leading_top (suc k) v h g in
    let j = t.0 in
    let top : k ≡ j + z = omega (arith, t.1) in
    let past : suc j + z ≡ suc k = omega (arith, t.1) in (
      le_trans (le_of_eq (ap (λ (i : ℕ). 2 ^ i) top ∙ pow-add 2 j z)) (mul-le-mul_right (2 ^ z) t.2),
      subst (λ (i : ℕ). v * 2 ^ z < 2 ^ i) past (shl_lt {a = v} (suc j) z t.3),
      omega (arith, t.1),
    )

-- and no other number of places does
fewer : (k p a b : ℕ) → 2 ^ k ≤ p * 2 ^ a → p * 2 ^ b < 2 ^ suc k → ¬ (a < b)
fewer k p a b l h g =
    omega (arith, mul-le-mul_left p (pow_mono {i = suc a} {j = b} g), ap (λ (i : ℕ). p * i) (pow-suc 2 a), mul_assoc p (2 ^ a) 2, pow-suc 2 k)

pub places_are : (k p a : ℕ) → 0 < p → p < 2 ^ suc k → 2 ^ k ≤ p * 2 ^ a → p * 2 ^ a < 2 ^ suc k → a ≡ count_leading_zeros (suc k) p
places_are k p a h l lo hi =
    let t = top_set k p h l in
    let not_less = fewer k p a (count_leading_zeros (suc k) p) lo t.1 in
    let not_more = fewer k p (count_leading_zeros (suc k) p) a t.0 hi in
    omega arith

-- what comes in behind so many places stays below 2^(k + 1) too
pub top_room : (k v : ℕ) → 0 < v → v < 2 ^ suc k → (v + 1) * 2 ^ count_leading_zeros (suc k) v ≤ 2 ^ suc k
top_room k v h g =
    let z = count_leading_zeros (suc k) v in
    let t = leading_top (suc k) v h g in
    let j = t.0 in
    let past : suc j + z ≡ suc k = omega (arith, t.1) in
    le_trans (mul-le-mul_right (2 ^ z) (omega (arith, t.3))) (le_of_eq (sym (pow-add 2 (suc j) z) ∙ ap (λ (i : ℕ). 2 ^ i) past))

-- ---- of a 32-bit T

-- the machine's count is that number
pub zeros_counted : (t : ℕ) → t < 2 ^ 32 → LeadingZeros t (count_leading_zeros 32 t)
zeros_counted t h =
    record {
      all = λ e. ap (count_leading_zeros 32) e ∙ leading_of_zero 32;
      sets = λ n. let s = top_set 31 t (omega arith) h in (s.0, s.1);
      alone = λ y s. places_are 31 t y (some y s.0) h s.0 s.1;
    }
  where
    some : (y : ℕ) → 2 ^ 31 ≤ t * 2 ^ y → 0 < t
    some y s = go (eq-zero-or-pos t)
      where
        go : (t ≡ 0) ⊎ (0 < t) → 0 < t
        go (inl e) = absurd (omega (arith, ap (λ (k : ℕ). k * 2 ^ y) e))
        go (inr p) = p

module _ (t z : ℕ) (h : t < 2 ^ 32) (c : LeadingZeros t z) where
  -- and that number is the machine's count
  pub zeros_are : z ≡ count_leading_zeros 32 t
  zeros_are = go (eq-zero-or-pos t)
    where
      go : (t ≡ 0) ⊎ (0 < t) → z ≡ count_leading_zeros 32 t
      go (inl e) = c.all e ∙ sym ((zeros_counted t h).all e)
      go (inr p) = (zeros_counted t h).alone z (c.sets (omega arith))

  pub zeros_below : (t ≢ 0) → z < 32
  zeros_below n = omega (arith, zeros_are, top_set 31 t (omega arith) h)

  pub zeros_most : z ≤ 32
  zeros_most = omega (arith, zeros_are, leading_le 32 t)

  pub zeros_room : (t ≢ 0) → (t + 1) * 2 ^ z ≤ 2 ^ 32
  zeros_room n = subst (λ (k : ℕ). (t + 1) * 2 ^ k ≤ 2 ^ 32) (sym zeros_are) (top_room 31 t (omega arith) h)

-- a short number has at least 16 zeros above it
pub zeros_of : (n : ℕ) → 0 < n → n < 2 ^ 16 → (16 ≤ count_leading_zeros 32 n) × (count_leading_zeros 32 n < 32)
zeros_of n p l =
    let top = leading_top 32 n p (omega arith) in
    let small : ¬ (16 ≤ top.0) = λ f. omega (arith, le_trans (pow_mono {i = 16} {j = top.0} f) top.2) in
    omega (arith, top.1)
