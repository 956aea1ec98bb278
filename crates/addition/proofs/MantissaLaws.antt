-- Signed mantissas as the code adds them: moved by one shift of twice the mantissa, the larger exponent byte first, a zero at the exponent byte 1.
use Rattle.std.specs.Prelude.{◌≡◌, ℕ, suc, ◌+◌, ◌-◌, ◌*◌, ◌/◌, ◌^◌, ◌<◌, ◌≤◌, max, Bool, true, false, cond, ◌⊎◌, ℤ, pos, negsuc, ◌+ℤ◌, ◌*ℤ◌, neg_ℤ, nat_lt, unsigned_abs, refl}
use Rattle.std.proofs.Common.{sym, ◌∙◌, ap, ap₂, subst, inl, inr, eq-zero-or-pos, arith, ltb-true, ltb-false, pow_pos, pow-add}
use Rattle.std.proofs.Math.Nat.{max_comm, div-div-eq-div-mul, add-div_right}
use Rattle.std.proofs.Math.IntN.{+ℤ_comm}
use Rattle.std.specs.Int.Signed.{shr_z}
use Rattle.ending.specs.Ending.{ended, Answer}
use Rattle.ending.proofs.EndingLaws.{ended_zero}
use Rattle.addition.specs.Addition.{negative, aligned, ended_sum, signed_sum}
use Rattle.addition.specs.SignedLaws.{nat_abs_signed, signed_parts, negative_lt, floor_signed}
use Rattle.addition.specs.AdditionLaws.{shifted_by}
use Rattle.addition.proofs.AdditionLaws.{shifted_lt, none_shifted, aligned_signed, moved_within, first_larger, sum_ended}

-- t and 2^k more, over twice 2^k, is half of one more than t over 2^k
one_more : (t k : ℕ) → (t + 2 ^ k) / 2 ^ (k + 1) ≡ (t / 2 ^ k + 1) / 2
one_more t k =
    ap (λ (d : ℕ). (t + 2 ^ k) / d) (pow-add 2 k 1)
    ∙ sym (div-div-eq-div-mul (t + 2 ^ k) (2 ^ k) 2)
    ∙ ap (λ (i : ℕ). i / 2) (add-div_right t (pow_pos k))

-- twice a mantissa moved, and half of one more than that
pub twice_moved : (x : ℤ) (k : ℕ) → k ≤ 32 → shr_z (shr_z (pos 2 *ℤ x) (2 ^ k) +ℤ pos 1) 2 ≡ aligned k x
twice_moved (pos m) k h =
    let t : 2 * m + 2 ^ k - 0 ≡ 2 * m + 2 ^ k = omega arith in
    ap pos (sym (ap (λ (i : ℕ). i / 2 ^ (k + 1)) t ∙ one_more (2 * m) k))
    ∙ sym (moved_within 0 m k (omega arith) h)
twice_moved (negsuc n) k h =
    let a = (2 * n + 1) / 2 ^ k in
    let t : 2 * suc n + 2 ^ k - 1 ≡ 2 * n + 1 + 2 ^ k = omega arith in
    ap (λ (z : ℤ). shr_z (shr_z z (2 ^ k) +ℤ pos 1) 2) (ap (λ (i : ℕ). neg_ℤ (pos i)) {x = 2 * suc n} {y = suc (2 * n + 1)} (omega arith))
    ∙ floor_signed 1 (suc a) 1 (omega arith) (omega arith)
    ∙ ap (λ (i : ℕ). neg_ℤ (pos (i / 2))) {x = suc a + 1 - 1} {y = a + 1} (omega arith)
    ∙ ap (λ (i : ℕ). neg_ℤ (pos i)) (sym (ap (λ (i : ℕ). i / 2 ^ (k + 1)) t ∙ one_more (2 * n + 1) k))
    ∙ sym (moved_within 1 (suc n) k (omega arith) h)

pub aligned_lt : (k : ℕ) (x : ℤ) → unsigned_abs x < 2 ^ 32 → unsigned_abs (aligned k x) < 2 ^ 32
aligned_lt k x h =
    let s = negative x in
    let m = unsigned_abs x in
    let is = ap (λ (z : ℤ). unsigned_abs (aligned k z)) (sym (signed_parts x)) ∙ ap unsigned_abs (aligned_signed s m k (negative_lt x)) ∙ nat_abs_signed s (shifted_by s m k) in
    subst (λ (n : ℕ). n < 2 ^ 32) (sym is) (go (nat_lt 32 k))
  where
    go : (b : Bool) → cond b 0 ((2 * unsigned_abs x + 2 ^ k - negative x) / 2 ^ (k + 1)) < 2 ^ 32
    go true = omega arith
    go false = shifted_lt (negative x) (unsigned_abs x) k h

second_larger : (x y : ℤ) (e f : ℕ) → e ≤ f → signed_sum x e y f ≡ ended_sum (y +ℤ aligned (f - e) x) f
second_larger x y e f h =
    ap (λ (g : ℕ). ended_sum (aligned (g - e) x +ℤ aligned (g - f) y) g) (max_comm e f)
    ∙ ap (λ (z : ℤ). ended_sum z (max f e)) (+ℤ_comm (aligned (max f e - e) x) (aligned (max f e - f) y))
    ∙ first_larger y x f e h

-- The larger first, by a choice. Twice its exponent byte less both is how far they are apart.
pub larger_chosen : (x y : ℤ) (e f : ℕ) → signed_sum x e y f ≡ ended_sum (cond (nat_lt e f) y x +ℤ aligned (2 * max e f - (e + f)) (cond (nat_lt e f) x y)) (max e f)
larger_chosen x y e f = go (nat_lt e f) refl
  where
    go : (b : Bool) → nat_lt e f ≡ b → signed_sum x e y f ≡ ended_sum (cond b y x +ℤ aligned (2 * max e f - (e + f)) (cond b x y)) (max e f)
    go true h =
        let l = ltb-true e f h in
        second_larger x y e f (omega arith) ∙ ap₂ (λ (k m : ℕ). ended_sum (y +ℤ aligned k x) m) {x = f - e} {y = 2 * max e f - (e + f)} (omega arith) (omega arith)
    go false h =
        let l = ltb-false e f h in
        first_larger x y e f l ∙ ap₂ (λ (k m : ℕ). ended_sum (x +ℤ aligned k y) m) {x = e - f} {y = 2 * max e f - (e + f)} (omega arith) (omega arith)

-- A zero moves nothing, and may as well have the exponent byte 1.
none_moved : (k : ℕ) → aligned k (pos 0) ≡ pos 0
none_moved k = aligned_signed 0 0 k (omega arith) ∙ ap pos (none_shifted k)

none_first : (y : ℤ) (e f : ℕ) → e ≤ f → signed_sum (pos 0) e y f ≡ ended_sum (y +ℤ pos 0) f
none_first y e f h = second_larger (pos 0) y e f h ∙ ap (λ (z : ℤ). ended_sum (y +ℤ z) f) (none_moved (f - e))

none_second : (x : ℤ) (e f : ℕ) → f ≤ e → signed_sum x e (pos 0) f ≡ ended_sum (x +ℤ pos 0) e
none_second x e f h = first_larger x (pos 0) e f h ∙ ap (λ (z : ℤ). ended_sum (x +ℤ z) e) (none_moved (e - f))

pub zero_at_1 : (x y : ℤ) (e f : ℕ) → (e ≡ 0 → x ≡ pos 0) → (f ≡ 0 → y ≡ pos 0) → signed_sum x (max 1 e) y (max 1 f) ≡ signed_sum x e y f
zero_at_1 x y e f h g = go (eq-zero-or-pos e) (eq-zero-or-pos f)
  where
    at : ℕ → ℕ → Answer
    at i j = signed_sum x i y j

    none : (i : ℕ) → x ≡ pos 0 → y ≡ pos 0 → signed_sum x i y i ≡ ended 0 0 (i + 256) 0
    none i p q = ap₂ (λ (a b : ℤ). signed_sum a i b i) p q ∙ none_first (pos 0) i i (omega arith) ∙ sum_ended 0 0 i (omega arith) (omega arith)

    at_least : (k : ℕ) → k ≡ 0 → max 1 k ≡ 1
    at_least k l = omega arith

    go : (e ≡ 0) ⊎ (0 < e) → (f ≡ 0) ⊎ (0 < f) → at (max 1 e) (max 1 f) ≡ at e f
    go (inl p) (inl q) =
        ap₂ at (at_least e p) (at_least f q)
        ∙ none 1 (h p) (g q) ∙ ended_zero 0 0 257 0 refl ∙ sym (ended_zero 0 0 256 0 refl) ∙ sym (none 0 (h p) (g q)) ∙ ap₂ at (sym p) (sym q)
    go (inl p) (inr q) =
        ap (λ (a : ℤ). signed_sum a (max 1 e) y (max 1 f)) (h p)
        ∙ none_first y (max 1 e) (max 1 f) (omega arith)
        ∙ ap (λ (k : ℕ). ended_sum (y +ℤ pos 0) k) {x = max 1 f} {y = f} (omega arith)
        ∙ sym (none_first y e f (omega arith))
        ∙ ap (λ (a : ℤ). signed_sum a e y f) (sym (h p))
    go (inr p) (inl q) =
        ap (λ (b : ℤ). signed_sum x (max 1 e) b (max 1 f)) (g q)
        ∙ none_second x (max 1 e) (max 1 f) (omega arith)
        ∙ ap (λ (k : ℕ). ended_sum (x +ℤ pos 0) k) {x = max 1 e} {y = e} (omega arith)
        ∙ sym (none_second x e f (omega arith))
        ∙ ap (λ (b : ℤ). signed_sum x e b f) (sym (g q))
    go (inr p) (inr q) = ap₂ at (le_max e p) (le_max f q)
      where
        le_max : (k : ℕ) → 0 < k → max 1 k ≡ k
        le_max k l = omega arith
