-- Which numbers are not odd: what negation makes of a well-formed number that is not, and what re-stacking makes of any.
use Rattle.std.specs.Prelude.{◌≡◌, ℕ, ◌-◌, ◌/◌, ◌%◌, ◌^◌, ◌<◌, Bool, true, false, cond, ◌⊎◌, ◌==◌, refl}
use Rattle.std.proofs.Common.{sym, ◌∙◌, ap, inl, inr, true≢false, eq-zero-or-pos, arith, ne_eqb, eq-eqb}
use Rattle.number.specs.declared.Number.{Number}
use Rattle.number.specs.declared.form.Form.{Form}
use Rattle.number.specs.declared.form.Form.TheVariants.{Full, Short, Odd, Malformed}
use Rattle.number.specs.Number.{zeros, number, sign, low, complement_of, halves, short_magnitude, short_of, form_of, is_malformed, malformed, odd, passes_zero_test}
use Rattle.number.specs.NumberLaws.{upper, places, magnitude_lt, zero_passes}
use Rattle.number.specs.FormLaws.{FormBytes, form_bytes}
use Rattle.number.specs.OddLaws.{odd_full, odd_positive, odd_other, odd_ended}
use Rattle.number.specs.Restack.{full_of_short, restacked}
use Rattle.number.proofs.RestackLaws.{restack_full, restack_zero, restack_some}
use Rattle.number.specs.LeadingZeros.{top_set}
use Rattle.number.specs.Negate.{negated_as, negated}

-- a short number from 1 to 65,535 away from zero
pub short_not_odd : (s v : ℕ) → 0 < v → v < 2 ^ 16 → odd (short_of s v) ≡ false
short_not_odd s v p l = go (s == 0)
  where
    go : (a : Bool) → odd (number 0 (cond a (halves 0 v).word (halves 255 (complement_of v)).word)) ≡ false
    go true = odd_positive _ refl (omega arith)
    go false = let c = complement_of v in odd_other _ (λ e. omega (arith, upper 255 (c % 256) (c / 256) 0 (omega arith), e))

-- "other shorts change sign": a well-formed one that is not zero is some way from it
short_magnitude_lem : (x : Number) → FormBytes x Short → passes_zero_test x ≡ false → 0 < short_magnitude x
short_magnitude_lem x f z = go f (eq-zero-or-pos (low x))
  where
    go : FormBytes x Short → (low x ≡ 0) ⊎ (0 < low x) → 0 < short_magnitude x
    go (h, inr (n, p)) l = simp (ne_eqb (sign x) 0 (omega arith)) (omega arith)
    go (h, inl n) (inr p) = simp (eq-eqb (sign x) 0 (omega arith)) p
    go (h, inl n) (inl o) = absurd (true≢false (sym (zero_passes x h (let q = places x.word in omega arith)) ∙ z))

pub negated_not_odd : (x : Number) → malformed x ≡ false → odd x ≡ false → odd (negated x) ≡ false
unfolding negated malformed
negated_not_odd x m o = go (passes_zero_test x) (form_of x) refl refl m
  where
    go : (z : Bool) (f : Form) → passes_zero_test x ≡ z → form_of x ≡ f → is_malformed f ≡ false → odd (cond z x (negated_as f x)) ≡ false
    go true f z e n = o
    go false Full z e n = odd_full _ (let p = form_bytes x Full e in omega arith)
    go false Short z e n = short_not_odd (1 - sign x) (short_magnitude x) (short_magnitude_lem x (form_bytes x Short e) z) (magnitude_lt x)
    go false Odd z e n = odd_ended zeros (inl refl)
    go false Malformed z e n = absurd (true≢false n)

pub restacked_not_odd : (x : Number) → odd (restacked x) ≡ false
unfolding full_of_short
restacked_not_odd x = go (eq-zero-or-pos x.b1) (eq-zero-or-pos (short_magnitude x))
  where
    go : (x.b1 ≡ 0) ⊎ (0 < x.b1) → (short_magnitude x ≡ 0) ⊎ (0 < short_magnitude x) → odd (restacked x) ≡ false
    go (inr p) q = ap odd (restack_full x (omega arith)) ∙ odd_full x (omega arith)
    go (inl p) (inl q) = ap odd (restack_zero x p q) ∙ odd_ended zeros (inl refl)
    go (inl p) (inr q) =
        let t = top_set 31 (short_magnitude x) q (omega (arith, magnitude_lt x)) in
        ap odd (restack_some x p (omega arith)) ∙ odd_full _ (omega (arith, t.2))
