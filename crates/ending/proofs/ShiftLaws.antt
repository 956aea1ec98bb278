-- Normalising in one go: so many doublings at once are one shift.
use Prim.Native.Nat.{ℕ, zero, suc, ◌+◌, ◌*◌, ◌-◌, ◌^◌, ◌/◌, ◌%◌, ◌≤◌, ◌<◌}
use Rattle.std.specs.Prelude.{◌≡◌, refl}
use Rattle.std.proofs.Common.{sym, ◌∙◌, le_trans, add-mul, mul_assoc, mul-le-mul_left, mul-le-mul_right, pow-suc, div-one, sub-one, pow_pos, shr-shr}
use Rattle.std.proofs.Math.Path.{ap}
use native.Mathlib.Omega.{arith}
use Rattle.number.specs.LeadingZeros.{LeadingZeros, zeros_below, zeros_room}
use Rattle.ending.specs.Ending.{Loose, loose, doubled, normal, closed, ended}
use Rattle.ending.proofs.EndingLaws.{normal_set, normal_again, ended_other}
use Rattle.ending.specs.Shift.{shifted, taken_in}

pub taken_in_below : (z digits : ℕ) → taken_in z digits < 2 ^ z
unfolding taken_in
taken_in_below zero digits = omega arith
taken_in_below (suc k) digits = omega (arith, taken_in_below k (digits / 2), mul-le-mul_right {m = digits % 2} {n = 1} (2 ^ k) (omega arith), pow-suc 2 k)

-- no digit is left
pub taken_in_none : (z digits : ℕ) → digits ≡ 0 → taken_in z digits ≡ 0
unfolding taken_in
taken_in_none zero digits h = refl
taken_in_none (suc k) digits h = omega (arith, taken_in_none k (digits / 2) (omega arith), ap (λ (i : ℕ). i % 2 * 2 ^ k) h)

-- no place is left
pub taken_in_all : (z digits : ℕ) → z ≡ 0 → taken_in z digits ≡ 0
unfolding taken_in
taken_in_all zero digits h = refl
taken_in_all (suc k) digits h = absurd (omega arith)

pub taken_in_next : (z digits : ℕ) → (z ≡ 0 → ⊥) → taken_in z digits ≡ digits % 2 * 2 ^ (z - 1) + taken_in (z - 1) (digits / 2)
unfolding taken_in
taken_in_next zero digits f = absurd (f refl)
taken_in_next (suc k) digits f = simp (sub-one)

-- part by part
same : {t u e f d g : ℕ} → t ≡ u → e ≡ f → d ≡ g → loose t e d ≡ loose u f g
same {u = u} {e = e} {f = f} {d = d} p q r = ap (λ (k : ℕ). loose k e d) p ∙ ap (λ (k : ℕ). loose u k d) q ∙ ap (loose u f) r

-- one doubling of k + 1: what it leaves to the others
module _ (k : ℕ) (l : Loose) where
  abbrev p : ℕ
  p = 2 ^ k

  once : (2 * l.t + l.digits % 2) * p ≡ l.t * 2 ^ suc k + l.digits % 2 * p
  once = omega (arith, add-mul (2 * l.t) (l.digits % 2) p, mul_assoc 2 l.t p, ap (λ (i : ℕ). l.t * i) (pow-suc 2 k), mul_assoc l.t p 2)

  -- after it, the others at once
  shifted_once : shifted k (doubled l) ≡ shifted (suc k) l
  unfolding taken_in
  shifted_once =
      let next : suc k ≡ 1 + k = omega arith in
      same (omega (arith, once)) (omega arith) (shr-shr l.digits 1 k ∙ ap (λ (i : ℕ). l.digits / 2 ^ i) (sym next))

  twice : (l.t + 1) * 2 ^ suc k ≡ 2 * (l.t + 1) * p
  twice = omega (arith, ap (λ (i : ℕ). (l.t + 1) * i) (pow-suc 2 k), mul_assoc (l.t + 1) p 2, mul_assoc 2 (l.t + 1) p)

  still_low : (l.t + 1) * 2 ^ suc k ≤ 2 ^ 32 → l.t < 2 ^ 31
  still_low h = omega (arith, twice, mul-le-mul_left (2 * (l.t + 1)) (pow_pos k))

  still_room : (l.t + 1) * 2 ^ suc k ≤ 2 ^ 32 → (2 * l.t + l.digits % 2 + 1) * p ≤ 2 ^ 32
  still_room h = le_trans (mul-le-mul_right {m = 2 * l.t + l.digits % 2 + 1} {n = 2 * (l.t + 1)} p (omega arith)) (omega (arith, twice))

-- So many doublings at once are one shift. There are as many as it takes to set the top bit of T, and what comes in behind T carries nowhere.
pub doublings : (places z : ℕ) (l : Loose) → z ≤ places → 2 ^ 31 ≤ l.t * 2 ^ z → (l.t + 1) * 2 ^ z ≤ 2 ^ 32 → normal places l ≡ shifted z l
unfolding taken_in
doublings places zero l h lo hi = normal_set places l (omega arith) ∙ same (omega arith) (omega arith) (sym (div-one l.digits))
doublings places (suc k) l h lo hi =
    normal_again places l (omega arith) (still_low k l hi)
    ∙ doublings (places - 1) k (doubled l) (omega arith) (omega (arith, once k l)) (still_room k l hi)
    ∙ shifted_once k l

-- the ending, by the zeros above T's top bit
pub ended_shifted : (s t e digits z : ℕ) → t < 2 ^ 32 → (t ≡ 0 → ⊥) → LeadingZeros t z → ended s t e digits ≡ closed s (shifted z (loose t e digits))
ended_shifted s t e digits z h n c =
    ended_other s t e digits n
    ∙ ap (closed s) (doublings 31 z (loose t e digits) (omega (arith, zeros_below t z h c n)) (c.sets n).0 (zeros_room t z h c n))

-- what is shifted fits 32 bits, with what is taken in
pub shift_fits : (t z digits r : ℕ) → t < 2 ^ 32 → (t ≡ 0 → ⊥) → LeadingZeros t z → r ≡ taken_in z digits
    → (t * 2 ^ z % 2 ^ 32 + r ≡ t * 2 ^ z + taken_in z digits) × (t * 2 ^ z + taken_in z digits < 2 ^ 32)
shift_fits t z digits r h n c e = (
  omega (arith, (c.sets n).1),
  omega (arith, taken_in_below z digits, zeros_room t z h c n, add-mul t 1 (2 ^ z)),
)
