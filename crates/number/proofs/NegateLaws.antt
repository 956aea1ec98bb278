-- A law for each case of negation.
use Rattle.std.specs.Prelude.{◌≡◌, ℕ, ◌+◌, ◌-◌, ◌*◌, ◌/◌, ◌%◌, ◌^◌, ◌<◌, ◌≤◌, Bool, true, false, cond, neg_ℤ, ◌≢◌, nat_lt, refl}
use Rattle.std.proofs.Common.{sym, ◌∙◌, ap, ap₂, inr, arith, ltb-true, ltb-false}
use Rattle.number.specs.declared.Number.{Number}
use Rattle.number.specs.declared.form.Form.{Form}
use Rattle.number.specs.declared.form.Form.TheVariants.{Full, Short, Odd, Malformed}
use Rattle.number.specs.Number.{number, word_of, swapped_of, form_of, malformed, sign, low, complement_of, short_magnitude, halves, short_of, passes_zero_test}
use Rattle.number.specs.NumberLaws.{Bytes, places, swapped_halves, magnitude_lt, zero_passes, full_fails, some_fails}
use Rattle.number.specs.FormLaws.{form_full, malformed_between, form_bytes, odd_none}
use Rattle.number.specs.Value.{short_value}
use Rattle.number.specs.ValueLaws.{short_value_lem, short_of_value, signed_other}
use Rattle.number.specs.Negate.{negated_as, negated}

module _ (x : Number) where
  negate_as : passes_zero_test x ≡ false → (f : Form) → form_of x ≡ f → negated x ≡ negated_as f x
  unfolding negated
  negate_as z f h = simp z (ap (λ (g : Form). negated_as g x) h)

  pub negate_full : (x.b1 ≢ 0) → negated x ≡ negated_as Full x
  negate_full h = negate_as (full_fails x h) Full (form_full x h)

  module _ (h : x.b1 ≡ 0) where
    pub negate_zero : x.word < 256 → negated x ≡ x
    unfolding negated
    negate_zero g = simp (zero_passes x h g)

    pub negate_short : 256 ≤ x.word → negated x ≡ short_of (1 - sign x) (short_magnitude x)
    negate_short g = go (form_of x) refl
      where
        z : passes_zero_test x ≡ false
        z = some_fails x h g

        go : (f : Form) → form_of x ≡ f → negated x ≡ short_of (1 - sign x) (short_magnitude x)
        go Full e = absurd (omega (arith, form_bytes x Full e))
        go Short e = negate_as z Short e
        go Odd e =
            let o = odd_none x e in
            negate_as z Odd e ∙ sym (ap₂ short_of {x = 1 - sign x} {y = 0} (omega arith) o.1)
        go Malformed e = negate_as z Malformed e

three : (b c d e : ℕ) → c < 256 → d < 256 → e < 256 → word_of b c d e % 2 ^ 24 ≡ e + (256 * c + d) * 256
three b c d e p q r = omega arith

-- the first three bytes, b2 lowest
lowest : (w t : ℕ) → w < 2 ^ 32 → t ≡ swapped_of w → t % 2 ^ 24 ≡ w / 2 ^ 24 + low (number 0 w) * 256
lowest w t l e = ap (λ (k : ℕ). k % 2 ^ 24) e ∙ three (w % 256) (w / 2 ^ 8 % 256) (w / 2 ^ 16 % 256) (w / 2 ^ 24) (omega arith) (omega arith) (omega arith)

none_below : (w : ℕ) → w / 2 ^ 24 + low (number 0 w) * 256 ≡ 0 → w < 256
none_below w e =
    let p = places w in
    let two : w / 2 ^ 16 ≡ 0 = omega (arith, p.1) in
    omega (arith, p.0)

low_none : (w : ℕ) → w < 256 → low (number 0 w) ≡ 0
low_none w h = let a : w / 2 ^ 8 ≡ 0 = omega arith in let b : w / 2 ^ 16 ≡ 0 = omega arith in omega arith

fit : (w : ℕ) → (low (number 0 w) < 2 ^ 16) × (complement_of (low (number 0 w)) < 2 ^ 16)
fit w = (omega arith, omega arith)

positive : (w : ℕ) → w < 2 ^ 24 → (w / 2 ^ 24 ≡ 0) × (w / 2 ^ 31 ≡ 0)
positive w h = (omega arith, omega arith)

negative : (w : ℕ) → 255 * 2 ^ 24 ≤ w → w < 2 ^ 32 → (w / 2 ^ 24 ≡ 255) × (w / 2 ^ 31 ≡ 1) × (256 ≤ w)
negative w h l = (omega arith, omega arith, omega arith)

less_255 : (r h : ℕ) → (0 + h * 256 ≢ 0) → h < 2 ^ 16 → r < 2 ^ 32 → (r + (0 + h * 256)) % 2 ^ 32 ≡ 255 → r % 2 ^ 24 ≡ 255 + complement_of h * 256
less_255 r h p l g e =
    let c : complement_of h ≡ 2 ^ 16 - h = omega arith in
    let s : r ≡ 2 ^ 32 + 255 - h * 256 = omega arith in
    omega (arith, c, s)

less_none : (r h : ℕ) → h < 2 ^ 16 → r < 2 ^ 32 → (r + (255 + h * 256)) % 2 ^ 32 ≡ 255 → r % 2 ^ 24 ≡ 0 + complement_of h * 256
less_none r h l g e = let s : (r + h * 256) % 2 ^ 32 ≡ 0 = omega arith in omega arith

pub negate_none : (w t : ℕ) → w < 2 ^ 32 → t ≡ swapped_of w → t % 2 ^ 24 ≡ 0 → negated (number 0 w) ≡ number 0 w
negate_none w t l i e = negate_zero (number 0 w) refl (none_below w (sym (lowest w t l i) ∙ e))

-- A well-formed short number that is not zero, with b2 lowest: taken from 255, it has the other sign byte and the low half in two's complement.
pub negate_formed : (w t r o : ℕ) → w < 2 ^ 32 → malformed (number 0 w) ≡ false → t ≡ swapped_of w → (t % 2 ^ 24 ≢ 0) → r < 2 ^ 32 → (r + t % 2 ^ 24) % 2 ^ 32 ≡ 255
    → o ≡ swapped_of (r % 2 ^ 24) → negated (number 0 w) ≡ number 0 o
negate_formed w t r o l m y n g e x = go (nat_lt w (2 ^ 24)) (nat_lt w (255 * 2 ^ 24)) refl refl ∙ ap (number 0) (sym x)
  where
    h : ℕ
    h = low (number 0 w)

    is : t % 2 ^ 24 ≡ w / 2 ^ 24 + h * 256
    is = lowest w t l y

    made : (s b v : ℕ) → 256 ≤ w → b < 256 → 1 - w / 2 ^ 31 ≡ s → short_magnitude (number 0 w) ≡ v → short_of s v ≡ number 0 (halves b (complement_of h)).word
        → r % 2 ^ 24 ≡ b + complement_of h * 256 → negated (number 0 w) ≡ number 0 (swapped_of (r % 2 ^ 24))
    made s b v k i j o p q =
        negate_short (number 0 w) refl k ∙ ap₂ short_of j o ∙ p ∙ ap (number 0) (sym (ap swapped_of q ∙ swapped_halves b (complement_of h) i (fit w).1))

    go : (a b : Bool) → nat_lt w (2 ^ 24) ≡ a → nat_lt w (255 * 2 ^ 24) ≡ b → negated (number 0 w) ≡ number 0 (swapped_of (r % 2 ^ 24))
    go true b i j =
        let p = positive w (ltb-true _ _ i) in
        let q : t % 2 ^ 24 ≡ 0 + h * 256 = is ∙ ap (λ (k : ℕ). k + h * 256) p.0 in
        let some : ¬ (w < 256) = λ k. n (q ∙ ap (λ (k : ℕ). 0 + k * 256) (low_none w k)) in
        made 1 255 h (omega (arith, some)) (omega arith) (ap (λ (k : ℕ). 1 - k) p.1) (simp p.1) refl
        (less_255 r h (λ z. n (q ∙ z)) (fit w).0 g (ap (λ (k : ℕ). (r + k) % 2 ^ 32) (sym q) ∙ e))
    go false true i j = absurd (let z : ◌≡◌ {A = ℕ} 0 1 = cc (m, malformed_between (number 0 w) refl (ltb-false _ _ i) (ltb-true _ _ j)) in omega arith)
    go false false i j =
        let p = negative w (ltb-false _ _ j) l in
        made 0 0 (complement_of h) p.2 (omega arith) (ap (λ (k : ℕ). 1 - k) p.1) (simp p.1) refl
        (less_none r h (fit w).0 g (ap (λ (k : ℕ). (r + k) % 2 ^ 32) (sym (is ∙ ap (λ (k : ℕ). k + h * 256) p.0)) ∙ e))

-- its exponent byte is no larger
pub negated_exponent : (x : Number) → (negated x).b1 ≤ x.b1
unfolding negated
negated_exponent x = go (passes_zero_test x) (form_of x)
  where
    go : (z : Bool) (f : Form) → (cond z x (negated_as f x)).b1 ≤ x.b1
    go true f = omega arith
    go false Full = omega arith
    go false Short = omega arith
    go false Odd = omega arith
    go false Malformed = omega arith

-- "other shorts change sign", over whole numbers
pub negate_value : (x : Number) → Bytes x → x.b1 ≡ 0 → 0 < short_magnitude x → 256 ≤ x.word → short_value (negated x) ≡ neg_ℤ (short_value x)
negate_value x b h n g =
    ap short_value (negate_short x h g)
    ∙ short_of_value (1 - sign x) (short_magnitude x) (omega arith) n (magnitude_lt x)
    ∙ signed_other (sign x) (short_magnitude x) (omega arith)
    ∙ ap neg_ℤ (sym (short_value_lem x b (inr n)))
