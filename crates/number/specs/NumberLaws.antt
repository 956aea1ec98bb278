-- What a number's parts are, for bytes that are bytes.
use Rattle.std.specs.Prelude.{◌≡◌, ℕ, ◌+◌, ◌*◌, ◌/◌, ◌%◌, ◌^◌, ◌<◌, ◌≤◌, Bool, true, false, cond, ◌&&◌, ◌⊎◌, ◌==◌, ◌≢◌, refl}
use Rattle.std.proofs.Common.{sym, ◌∙◌, ap, ap₂, inl, inr, arith}
use Rattle.std.proofs.Math.Bool.{and-eq-true_iff}
use Rattle.std.proofs.Math.Nat.{div-div-eq-div-mul}
use borrow.Author.Tests.{eqb-true, eqb-false, eq-eqb, ne_eqb}
use Rattle.number.specs.declared.Number.{Number}
use Rattle.number.specs.Number.{b2, b3, b4, b5, word_of, swapped_of, number, bytes, sign, mantissa, full_of, low, complement_of, short_magnitude, halves, stored_over, passes_zero_test}

pub record Bytes (x : Number) : Type 0 where
  pub b1_below : x.b1 < 256
  pub word_below : x.word < 2 ^ 32

pub mantissa_full : (s e m : ℕ) → 2 ^ 31 ≤ m → m < 2 ^ 32 → mantissa (full_of s e m) ≡ m
mantissa_full s e m h g = omega arith

pub sign_full : (s e m : ℕ) → s < 2 → sign (full_of s e m) ≡ s
sign_full s e m h = omega arith

-- the next byte up
pub places : (w : ℕ) → (w / 2 ^ 16 ≡ w / 2 ^ 8 / 2 ^ 8) × (w / 2 ^ 24 ≡ w / 2 ^ 16 / 2 ^ 8)
places w = (sym (div-div-eq-div-mul w (2 ^ 8) (2 ^ 8)), sym (div-div-eq-div-mul w (2 ^ 16) (2 ^ 8)))

-- a word is made of its bytes
pub word_of_lem : (n : Number) → word_of (b2 n) (b3 n) (b4 n) (b5 n) ≡ n.word
word_of_lem n = omega (arith, places n.word)

-- a word without its last byte
pub upper : (b c d e : ℕ) → e < 256 → word_of b c d e / 2 ^ 8 ≡ b * 2 ^ 16 + c * 2 ^ 8 + d
upper b c d e h = omega arith

-- the bytes that a word is made of
pub word_bytes : (b c d e : ℕ) → c < 256 → d < 256 → e < 256
    → (word_of b c d e / 2 ^ 24 ≡ b) × (word_of b c d e / 2 ^ 16 % 256 ≡ c) × (word_of b c d e / 2 ^ 8 % 256 ≡ d) × (word_of b c d e % 256 ≡ e)
word_bytes b c d e q r s =
    let w = word_of b c d e in
    let one = upper b c d e s in
    let two : w / 2 ^ 16 ≡ b * 2 ^ 8 + c = (places w).0 ∙ ap (λ (k : ℕ). k / 2 ^ 8) one ∙ omega arith in (
      (places w).1 ∙ ap (λ (k : ℕ). k / 2 ^ 8) two ∙ omega arith,
      ap (λ (k : ℕ). k % 256) two ∙ omega arith,
      ap (λ (k : ℕ). k % 256) one ∙ omega arith,
      omega arith,
    )

-- four bytes in the other order, swapped
pub swapped_word : (b c d e : ℕ) → b < 256 → c < 256 → d < 256 → e < 256 → swapped_of (word_of e d c b) ≡ word_of b c d e
swapped_word b c d e p q r s =
    let w = word_of e d c b in
    let are = word_bytes e d c b r q p in
    ap₂ (λ (i j : ℕ). word_of i j (w / 2 ^ 16 % 256) (w / 2 ^ 24)) are.3 are.2 ∙ ap₂ (word_of b c) are.1 are.0

-- the word of a sign byte and a low half, the other way round
pub swapped_halves : (b h : ℕ) → b < 256 → h < 2 ^ 16 → swapped_of (b + h * 256) ≡ (halves b h).word
swapped_halves b h p q =
    let is : b + h * 256 ≡ word_of 0 (h / 256) (h % 256) b = omega arith in
    ap swapped_of is ∙ swapped_word b (h % 256) (h / 256) 0 p (omega arith) (omega arith) (omega arith)

-- what is written as a sign byte and a low half is read as them
pub halves_bytes : (b h : ℕ) → h < 2 ^ 16 → (b2 (halves b h) ≡ b) × (b3 (halves b h) ≡ h % 256) × (b4 (halves b h) ≡ h / 256)
halves_bytes b h g = let are = word_bytes b (h % 256) (h / 256) 0 (omega arith) (omega arith) (omega arith) in (are.0, are.1, are.2)

pub low_halves : (b h : ℕ) → h < 2 ^ 16 → low (halves b h) ≡ h
low_halves b h g = let are = halves_bytes b h g in ap₂ (λ (i j : ℕ). 256 * i + j) are.2 are.1 ∙ omega arith

-- stored over x, which may have the same b1 and b5 already
pub over_halves : (x : Number) (b h : ℕ) → h < 2 ^ 16 → stored_over x (halves b h) ≡ bytes x.b1 b (h % 256) (h / 256) (b5 x)
over_halves x b h g =
    let are = halves_bytes b h g in
    ap (number x.b1) (ap₂ (λ (i j : ℕ). word_of i j (b4 (halves b h)) (b5 x)) are.0 are.1 ∙ ap (λ (k : ℕ). word_of b (h % 256) k (b5 x)) are.2)

pub over_parts : (x n : Number) → stored_over x (halves (b2 n) (low n)) ≡ stored_over x n
over_parts x n =
    let third : low n % 256 ≡ b3 n = omega arith in
    let fourth : low n / 256 ≡ b4 n = omega arith in
    over_halves x (b2 n) (low n) (omega arith) ∙ ap₂ (λ (i j : ℕ). bytes x.b1 (b2 n) i j (b5 x)) third fourth

pub over_same : (x n : Number) → x.b1 ≡ n.b1 → b5 x ≡ b5 n → stored_over x n ≡ n
over_same x n e f = ap₂ (λ (b k : ℕ). bytes b (b2 n) (b3 n) (b4 n) k) e f ∙ ap (number n.b1) (word_of_lem n)

-- how far a short number is from zero, by its sign
pub magnitude_cases : (x : Number) → Bytes x → ((sign x ≡ 0) × (short_magnitude x ≡ low x)) ⊎ ((sign x ≡ 1) × (short_magnitude x ≡ complement_of (low x)))
magnitude_cases x b = go (sign x == 0) refl
  where
    go : (z : Bool) → (sign x == 0) ≡ z
        → ((sign x ≡ 0) × (cond z (low x) (complement_of (low x)) ≡ low x)) ⊎ ((sign x ≡ 1) × (cond z (low x) (complement_of (low x)) ≡ complement_of (low x)))
    go true e = inl (eqb-true _ _ e, refl)
    go false e = inr (omega (arith, eqb-false (sign x) 0 e), refl)

pub magnitude_lt : (x : Number) → short_magnitude x < 2 ^ 16
magnitude_lt x = go (sign x == 0)
  where
    go : (z : Bool) → cond z (low x) (complement_of (low x)) < 2 ^ 16
    go true = omega arith
    go false = omega arith

pub not_true : (b : Bool) → ¬ (b ≡ true) → b ≡ false
not_true true h = absurd (h refl)
not_true false h = refl

-- the zero test, by the word
module _ (x : Number) where
  pub zero_passes : x.b1 ≡ 0 → x.word < 256 → passes_zero_test x ≡ true
  unfolding passes_zero_test
  zero_passes h g = simp (eq-eqb x.b1 0 h, eq-eqb (b2 x) 0 (omega arith), eq-eqb (b3 x) 0 (omega arith), eq-eqb (b4 x) 0 (omega arith))

  pub full_fails : (x.b1 ≢ 0) → passes_zero_test x ≡ false
  unfolding passes_zero_test
  full_fails h = simp (ne_eqb x.b1 0 h)

  pub some_fails : x.b1 ≡ 0 → 256 ≤ x.word → passes_zero_test x ≡ false
  unfolding passes_zero_test
  some_fails h g = not_true _ (λ z.
      let q = (and-eq-true_iff (b2 x == 0) (b3 x == 0 && b4 x == 0)).0 ((and-eq-true_iff (x.b1 == 0) _).0 z).1 in
      let r = (and-eq-true_iff (b3 x == 0) (b4 x == 0)).0 q.1 in
      let p = places x.word in
      let two : x.word / 2 ^ 16 ≡ 0 = omega (arith, p.1, eqb-true (b2 x) 0 q.0, eqb-true (b3 x) 0 r.0) in
      omega (arith, p.0, eqb-true (b4 x) 0 r.1))
