-- The two editions' sums beside each other: the mended one's is the shipped one's, with -65,536 as a full number where that is odd. So it is never odd.
use Rattle.std.specs.Prelude.{◌≡◌, ℕ, suc, ◌+◌, ◌*◌, ◌/◌, ◌%◌, ◌^◌, ◌<◌, ◌≤◌, Bool, true, false, cond, ℤ, pos, negsuc, ◌+ℤ◌, ◌==◌, nat_le, unsigned_abs, refl, Some, None}
use Rattle.ending.specs.Ending.{Answer}
use Rattle.std.proofs.Common.{sym, ◌∙◌, ap, arith, leb-true, leb-false, eqb-true}
use Rattle.std.proofs.Math.Bool.{and-eq-true_iff}
use Rattle.std.specs.Int.Signed.{shr_z}
use Rattle.edition.specs.declared.Edition.TheVariants.{Shipped, Mended}
use Rattle.number.specs.declared.Number.{Number}
use Rattle.number.specs.Number.{odd, b5, complement_of, halves, stored_over}
use Rattle.number.specs.NumberLaws.{upper, over_halves}
use Rattle.number.specs.OddLaws.{odd_full, odd_positive, odd_word, odd_other, odd_ended}
use Rattle.number.specs.Negate.{negated}
use Rattle.ending.specs.Ends.{ZeroOrFull}
use Rattle.ending.proofs.EndsLaws.{ended_zero_or_full}
use Rattle.addition.specs.Addition.{stored_short, short_sum, minus65536, written_short, ended_whole, ended_sum, aligned_sum, full_route, short_route, sum_of, difference_of}
use Rattle.addition.specs.MendedLaws.{mended, mended_answer}

pub mended_same : (n : Number) → odd n ≡ false → mended n ≡ n
mended_same n h = simp h

pub mended_odd_lem : (n : Number) → odd n ≡ true → mended n ≡ minus65536
mended_odd_lem n h = simp h

-- and is never odd itself
pub mended_never : (n : Number) → odd (mended n) ≡ false
mended_never n = go (odd n) refl
  where
    go : (b : Bool) → odd n ≡ b → odd (cond b minus65536 n) ≡ false
    go true h = odd_full minus65536 (omega arith)
    go false h = h

pub ended_mended : (a : Answer) → ZeroOrFull a → a ≡ mended_answer a
ended_mended (Some n) h = ap Some (sym (mended_same n (odd_ended n h)))
ended_mended None h = refl

-- ---- a sum that is stored short
-- one of zero or more has the sign byte 0; of one below it, -65,536 alone has the low half 0
over_positive : (x : Number) (w : ℕ) → w ≤ 65535 → (stored_over x (halves 0 w)).word < 2 ^ 24
over_positive x w h = omega arith

over_negative : (x : Number) (c : ℕ) → c < 2 ^ 16 → (stored_over x (halves 255 c)).word / 2 ^ 8 ≡ 255 * 2 ^ 16 + c % 256 * 2 ^ 8 + c / 256
over_negative x c h = ap (λ (n : Number). n.word / 2 ^ 8) (over_halves x 255 c h) ∙ upper 255 (c % 256) (c / 256) (b5 x) (omega arith)

written_mended : (x : Number) → x.b1 ≡ 0 → (z : ℤ) → stored_short z ≡ true → written_short Mended x z ≡ mended (written_short Shipped x z)
written_mended x h (pos w) s = sym (mended_same _ (odd_positive _ h (over_positive x w (leb-true w 65535 s))))
written_mended x h (negsuc k) s = go (nat_le 65535 k) refl
  where
    most : k ≤ 65535
    most = leb-true k 65535 ((and-eq-true_iff (nat_le k 65535) true).0 s).0

    here : (stored_over x (halves 255 (complement_of (suc k)))).word / 2 ^ 8 ≡ 255 * 2 ^ 16 + complement_of (suc k) % 256 * 2 ^ 8 + complement_of (suc k) / 256
    here = over_negative x (complement_of (suc k)) (omega arith)

    go : (a : Bool) → nat_le 65535 k ≡ a → cond a minus65536 (written_short Shipped x (negsuc k)) ≡ mended (written_short Shipped x (negsuc k))
    go true e =
        let none : complement_of (suc k) ≡ 0 = omega (arith, most, leb-true 65535 k e) in
        sym (mended_odd_lem _ (odd_word _ h (omega (arith, here, none))))
    go false e =
        let some : 0 < complement_of (suc k) = omega (arith, most, leb-false 65535 k e) in
        sym (mended_same _ (odd_other _ (λ f. omega (arith, here, some, f))))

-- ---- the full route
sum_zero_or_full : (z : ℤ) (e : ℕ) → ZeroOrFull (ended_sum z e)
unfolding ended_sum
sum_zero_or_full z e = go (nat_le (2 ^ 32) (unsigned_abs z)) (e + 1 == 256)
  where
    go : (a b : Bool) → ZeroOrFull (cond a (cond b None (ended_whole (shr_z (z +ℤ pos 1) 2) (e + 1))) (ended_whole z e))
    go true true = tt
    go true false = ended_zero_or_full _ _ _ _
    go false b = ended_zero_or_full _ _ _ _

full_mended : (x y : Number) → full_route x y ≡ mended_answer (full_route x y)
unfolding full_route aligned_sum
full_mended x y = ended_mended _ (sum_zero_or_full _ _)

-- ---- sums and differences
pub sum_mended : (x y : Number) → sum_of Mended x y ≡ mended_answer (sum_of Shipped x y)
unfolding sum_of short_route
sum_mended x y = go (x.b1 == 0) (y.b1 == 0) (stored_short (short_sum x y)) refl refl
  where
    go : (a b c : Bool) → (x.b1 == 0) ≡ a → stored_short (short_sum x y) ≡ c
        → cond a (cond b (cond c (Some (written_short Mended x (short_sum x y))) (full_route x y)) (full_route x y)) (full_route x y)
        ≡ mended_answer (cond a (cond b (cond c (Some (written_short Shipped x (short_sum x y))) (full_route x y)) (full_route x y)) (full_route x y))
    go true true true p q = ap Some (written_mended x (eqb-true _ _ p) (short_sum x y) q)
    go true true false p q = full_mended x y
    go true false c p q = full_mended x y
    go false b c p q = full_mended x y

pub difference_mended : (x y : Number) → difference_of Mended x y ≡ mended_answer (difference_of Shipped x y)
unfolding difference_of
difference_mended x y = sum_mended x (negated y)
