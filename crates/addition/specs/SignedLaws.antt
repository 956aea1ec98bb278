-- Whole numbers as a sign and a magnitude: sums, and the floor of document 01's shifts, for any number of places.
use Rattle.std.specs.Prelude.{◌≡◌, ℕ, zero, suc, ◌+◌, ◌-◌, ◌*◌, ◌/◌, ◌%◌, ◌^◌, ◌<◌, ◌≤◌, Bool, true, false, cond, ℤ, pos, negsuc, ◌+ℤ◌, ◌-ℤ◌, ◌*ℤ◌, neg_ℤ, FitsSigned, int_div, int_lt, int_rem, nat_le, nat_lt, unsigned_abs, refl}
use Rattle.std.proofs.Common.{sym, ◌∙◌, ap, subst, true≢false, lt-ltb, le-ltb, ltb-true, leb-true, leb-false, mod-eq_of_lt, mod-lt, div-le_self, add-one, arith, pow_pos, of_z, to_z, to_z-of_z}
use Rattle.std.proofs.Math.Nat.{div-eq_of_lt, add-div_right, two-pow-succ}
use Rattle.std.proofs.Math.IntN.{sub_ℕ, +ℤ_comm, neg_ℤ-neg_ℤ, neg_ℤ-+ℤ}
use Rattle.std.specs.Int.Signed.{shr_z}
use Rattle.std.specs.Int.{w64}
use Rattle.number.specs.Value.{signed}
use Rattle.addition.specs.Addition.{negative}

-- ---- magnitude and sign

nat_abs_sub : (a b : ℕ) → unsigned_abs (sub_ℕ a b) ≤ a + b
nat_abs_sub a b = go (nat_lt a b) refl
  where
    go : (t : Bool) → nat_lt a b ≡ t → unsigned_abs (cond t (negsuc (b - suc a)) (pos (a - b))) ≤ a + b
    go true e = omega (arith, ltb-true a b e)
    go false e = omega arith

pub nat_abs_signed : (s m : ℕ) → unsigned_abs (signed s m) ≡ m
nat_abs_signed zero m = refl
nat_abs_signed (suc s) zero = refl
nat_abs_signed (suc s) (suc m) = refl

pub negative_signed : (s m : ℕ) → s < 2 → 0 < m → negative (signed s m) ≡ s
negative_signed zero m h p = refl
negative_signed (suc s) zero h p = absurd (omega arith)
negative_signed (suc zero) (suc m) h p = refl
negative_signed (suc (suc s)) (suc m) h p = absurd (omega arith)

pub signed_parts : (z : ℤ) → signed (negative z) (unsigned_abs z) ≡ z
signed_parts (pos n) = refl
signed_parts (negsuc n) = refl

pub negative_lt : (z : ℤ) → negative z < 2
negative_lt (pos n) = omega arith
negative_lt (negsuc n) = omega arith

-- ---- sums

-- a sum is no farther from zero than both together
pub nat_abs_sum : (y z : ℤ) → unsigned_abs (y +ℤ z) ≤ unsigned_abs y + unsigned_abs z
nat_abs_sum (pos a) (pos b) = omega arith
nat_abs_sum (pos a) (negsuc b) = nat_abs_sub a (suc b)
nat_abs_sum (negsuc a) (pos b) = omega (arith, nat_abs_sub b (suc a))
nat_abs_sum (negsuc a) (negsuc b) = omega arith

pub nat_abs_twice : (x : ℤ) → unsigned_abs (pos 2 *ℤ x) ≡ 2 * unsigned_abs x
nat_abs_twice (pos n) = refl
nat_abs_twice (negsuc n) = nat_abs_signed 1 (2 * suc n)

pub nat_abs_moved : (z : ℤ) (m : ℕ) → unsigned_abs (shr_z z m) ≤ unsigned_abs z
nat_abs_moved (pos a) m = div-le_self a m
nat_abs_moved (negsuc a) m = omega (arith, div-le_self a m)

-- the test of a sign
pub below_zero : (z : ℤ) → int_lt z (pos 0) ≡ true → (negative z ≡ 1) × (pos 0 -ℤ z ≡ pos (unsigned_abs z))
below_zero (pos n) h = absurd (omega (arith, ltb-true n 0 h))
below_zero (negsuc n) h = (refl, ap pos {x = 0 + suc n} {y = suc n} (omega arith))

pub from_zero : (z : ℤ) → int_lt z (pos 0) ≡ false → (negative z ≡ 0) × (z ≡ pos (unsigned_abs z))
from_zero (pos n) h = (refl, refl)
from_zero (negsuc n) h = absurd (true≢false h)

-- what a machine word of 64 bits holds, of an integer a that is b, and reads back
fits : (z : ℤ) → unsigned_abs z < 2 ^ 63 → FitsSigned w64 z
fits (pos n) h = record { sfits = h }
fits (negsuc n) h = record { sfits = omega arith }

pub holds : (a b : ℤ) → a ≡ b → unsigned_abs b < 2 ^ 63 → FitsSigned w64 a
holds a b e h = subst (FitsSigned w64) (sym e) (fits b h)

pub held : (a b : ℤ) → a ≡ b → unsigned_abs b < 2 ^ 63 → to_z w64 (of_z w64 a) ≡ b
held a b e h = to_z-of_z (holds a b e h) ∙ e

-- an integer's low bits are its own where it has no more
pub low_bits : (z : ℤ) (n : ℕ) → unsigned_abs z < n → int_rem z (pos n) ≡ z
low_bits (pos a) n h = ap pos (mod-eq_of_lt h)
low_bits (negsuc a) n h = ap (λ (i : ℕ). neg_ℤ (pos i)) (mod-eq_of_lt h)

opposite_fits : (i : ℕ) → i ≤ 2 ^ 63 → FitsSigned w64 (neg_ℤ (pos i))
opposite_fits zero l = record { sfits = omega arith }
opposite_fits (suc i) l = record { sfits = l }

pub quotient_fits : (z : ℤ) (n : ℕ) → FitsSigned w64 z → FitsSigned w64 (int_div z (pos n))
quotient_fits (pos a) n h = record { sfits = omega (arith, h.sfits, div-le_self a n) }
quotient_fits (negsuc a) n h = opposite_fits (suc a / n) (omega (arith, h.sfits, div-le_self (suc a) n))

pub low_bits_lt : (z : ℤ) (n : ℕ) → 0 < n → unsigned_abs (int_rem z (pos n)) < n
low_bits_lt (pos a) n h = mod-lt a h
low_bits_lt (negsuc a) n h = rw (nat_abs_signed 1 (suc a % n)) (mod-lt (suc a) h)

minus : (n k : ℕ) → n ≡ suc k → neg_ℤ (pos n) ≡ negsuc k
minus n k h = ap (λ (i : ℕ). neg_ℤ (pos i)) h

sub_below : (a b k : ℕ) → a + suc k ≡ b → sub_ℕ a b ≡ negsuc k
sub_below a b k h = let e : b - suc a ≡ k = omega arith in simp (lt-ltb a b (omega arith)) (ap negsuc e)

pub same_sign : (s m n : ℕ) → signed s m +ℤ signed s n ≡ signed s (m + n)
same_sign zero m n = refl
same_sign (suc s) m n = sym (neg_ℤ-+ℤ (pos m) (pos n))

-- a - b, where b is no more
pub above : (a b : ℕ) → b ≤ a → pos a +ℤ neg_ℤ (pos b) ≡ pos (a - b)
above a zero h = let e : a + 0 ≡ a - 0 = omega arith in ap pos e
above a (suc b) h = simp (le-ltb a (suc b) h)

-- a - b, where a is no more
pub below : (a b : ℕ) → a ≤ b → pos a +ℤ neg_ℤ (pos b) ≡ neg_ℤ (pos (b - a))
below a b h =
    +ℤ_comm (pos a) (neg_ℤ (pos b))
    ∙ ap (λ (z : ℤ). neg_ℤ (pos b) +ℤ z) (sym (neg_ℤ-neg_ℤ (pos a)))
    ∙ sym (neg_ℤ-+ℤ (pos b) (neg_ℤ (pos a)))
    ∙ ap neg_ℤ (above b a h)

-- ---- the shift

-- The floor of (x + p) / 2p of a whole number with sign s and magnitude m: its magnitude is (m + p - s) / 2p, so halves go towards plus infinity.
floor_half : (s m p : ℕ) → s < 2 → 0 < p → shr_z (signed s m +ℤ pos p) (p + p) ≡ signed s ((m + p - s) / (p + p))
floor_half zero m p h g = let e : m + p ≡ m + p - 0 = omega arith in ap (λ (i : ℕ). pos (i / (p + p))) e
floor_half (suc zero) zero p h g =
    ap pos (div-eq_of_lt (omega arith)) ∙ sym (ap (λ (i : ℕ). neg_ℤ (pos i)) (div-eq_of_lt {n = 0 + p - 1} {m = p + p} (omega arith)))
floor_half (suc zero) (suc m) p h g = go (nat_le p m) refl
  where
    go : (t : Bool) → nat_le p m ≡ t → shr_z (negsuc m +ℤ pos p) (p + p) ≡ neg_ℤ (pos ((suc m + p - 1) / (p + p)))
    go true e =
        let l : p ≤ m = leb-true p m e in
        let more : suc m + p - 1 ≡ (m - p) + (p + p) = omega arith in
        ap (λ (z : ℤ). shr_z z (p + p)) (sub_below p (suc m) (m - p) (omega arith))
        ∙ sym (minus ((suc m + p - 1) / (p + p)) ((m - p) / (p + p)) (ap (λ (i : ℕ). i / (p + p)) more ∙ add-div_right (m - p) (omega arith) ∙ add-one _))
    go false e =
        let l : m < p = leb-false p m e in
        let up : negsuc m +ℤ pos p ≡ pos (p - suc m) = simp (le-ltb p (suc m) l) in
        ap (λ (z : ℤ). shr_z z (p + p)) up
        ∙ ap pos (div-eq_of_lt (omega arith))
        ∙ sym (ap (λ (i : ℕ). neg_ℤ (pos i)) (div-eq_of_lt {n = suc m + p - 1} {m = p + p} (omega arith)))
floor_half (suc (suc s)) m p h g = absurd (omega arith)

-- Document 01's floor of (x + 2^(k-1)) / 2^k, for any number of places k from 1 on.
pub floor_signed : (s m k : ℕ) → s < 2 → 0 < k → shr_z (signed s m +ℤ pos (2 ^ (k - 1))) (2 ^ k) ≡ signed s ((m + 2 ^ (k - 1) - s) / 2 ^ k)
floor_signed s m zero h g = absurd (omega arith)
floor_signed s m (suc k) h g = let e : suc k - 1 ≡ k = omega arith in rw (e, two-pow-succ k) (floor_half s m (2 ^ k) h (pow_pos k))
