-- `double` meets its contract: m as a double is m, the factor's bits are those of 2^(e + 914) units of 2^-1074, and the product of two exact
-- fractions is rounded as the definition's fraction is, which is the same fraction. Flipping the sign of a rounded fraction rounds the negative one.
use Rattle.std.proofs.Common.{Bool, Float, T, ap, arith, cond, eqb, false, ltb, mul-pos, mul_assoc, ne_eqb, not, pow-add, pow_pos, refl, subst, suc, sym, true, zero, ℕ, ◌%◌, ◌*◌, ◌+◌, ◌/◌, ◌<◌, ◌^◌, ◌∙◌, ◌≡◌, ◌≤◌}
use borrow.Author.Tests.{lt-leb}
use lib.Arith.{le→nltb}
use lib.Ieee.{Format, inf, binary64, nan_bits, of_bits, of_fields, of_int, neg, odd, units, round, mul, ones, hid, top, prec, emax, low}
use lib.Ieee.Back.{round_whole}
use lib.Ieee.Bits.{nan_bits_above}
use lib.Ieee.Exact.{HasValue, odd_sign}
use lib.Ieee.Fits.{round_is}
use lib.Ieee.Positive.{mul_at, positive_of_value}
use lib.Ieee.Scale.{round_same}
use Rattle.number.specs.declared.Number.{Number}
use Rattle.number.specs.Number.{sign, mantissa}
use Rattle.value.specs.Double.{double_of_full, double_of, double_full}
use Rattle.value.proofs.double.Goals as goal

abbrev factor_bits : ℕ → ℕ
factor_bits e = (e + 863) * 2 ^ 52

-- 2^52 times 2^(e + 862) units, the exponent field being one more than the exponent of the lowest digit
factor_is : (e : ℕ) → e < 256 → of_bits binary64 (factor_bits e) ≡ odd 53 false (2 ^ 52) (e + 862) 1074
unfolding of_bits of_fields
factor_is e h =
    let n = factor_bits e in
    let field : n % top binary64 / hid binary64 ≡ suc (e + 862) = omega arith in
    let digits : n % hid binary64 ≡ 0 = omega arith in
    ap (λ (b : Bool). of_fields binary64 b (n % top binary64 / hid binary64) (n % hid binary64)) (lt-leb (top binary64) n (omega arith))
    ∙ ap (λ (k : ℕ). of_fields binary64 false k (n % hid binary64)) field
    ∙ ap (λ (t : ℕ). of_fields binary64 false (suc (e + 862)) t) digits
    ∙ simp (ne_eqb (suc (e + 862)) (ones binary64) (omega arith))

factor_value : (e : ℕ) → e < 256 → HasValue (of_bits binary64 (factor_bits e)) false (2 ^ 52 * 2 ^ (e + 862)) (2 ^ 1074)
factor_value e h =
    subst (λ (x : Float). HasValue x false (2 ^ 52 * 2 ^ (e + 862)) (2 ^ 1074)) (sym (factor_is e h)) (odd_sign 53 false (2 ^ 52) (e + 862) 1074)

-- the product's fraction and the definition's, cross-multiplied
same_fraction : (m e : ℕ) → m * (2 ^ 52 * 2 ^ (e + 862)) * 2 ^ 160 ≡ m * 2 ^ e * (1 * 2 ^ 1074)
same_fraction m e =
    mul_assoc m (2 ^ 52 * 2 ^ (e + 862)) (2 ^ 160)
    ∙ ap (λ (p : ℕ). m * p) (ap (λ (p : ℕ). p * 2 ^ 160) (sym (pow-add 2 52 (e + 862))) ∙ sym (pow-add 2 (52 + (e + 862)) 160) ∙ ap (λ (k : ℕ). 2 ^ k) (omega arith) ∙ pow-add 2 e 1074)
    ∙ sym (mul_assoc m (2 ^ e) (2 ^ 1074))

product : (m e : ℕ) → (2 ^ 31 ≤ m) × (m < 2 ^ 32) → e < 256 → mul binary64 (round binary64 false m 1) (of_bits binary64 (factor_bits e)) ≡ double_of_full false m e
unfolding double_of_full
product m e h g =
    let a = round_whole binary64 false m (omega arith) in
    let b = factor_value e g in
    mul_at binary64 (round binary64 false m 1) (of_bits binary64 (factor_bits e)) m 1 (2 ^ 52 * 2 ^ (e + 862)) (2 ^ 1074)
    (positive_of_value (round binary64 false m 1) m 1 a (omega arith))
    (positive_of_value (of_bits binary64 (factor_bits e)) (2 ^ 52 * 2 ^ (e + 862)) (2 ^ 1074) b (mul-pos (pow_pos 52) (pow_pos (e + 862))))
    (omega arith) (pow_pos 1074) a b
    ∙ round_same binary64 false (m * (2 ^ 52 * 2 ^ (e + 862))) (1 * 2 ^ 1074) (m * 2 ^ e) (2 ^ 160) (pow_pos 1074) (pow_pos 160) (same_fraction m e)

-- a pattern whose exponent field is below all ones is no NaN's
no_nan : (n : ℕ) → n % top binary64 ≤ ones binary64 * hid binary64 → T (not (nan_bits binary64 n))
no_nan n h = subst (λ (b : Bool). T (not b)) (sym (nan_bits_above binary64 n)) (le→nltb (ones binary64 * hid binary64) (n % top binary64) h)

neg_odd : (d q k l : ℕ) → neg (odd d false q k l) ≡ odd d true q k l
unfolding neg odd
neg_odd d zero k l = refl
neg_odd d (suc q) k l = refl

neg_cond : (b : Bool) (x y : Float) → neg x ≡ y → neg (cond b x (inf false)) ≡ cond b y (inf true)
unfolding neg
neg_cond true x y h = h
neg_cond false x y h = refl

neg_units : (f : Format) (q k : ℕ) → neg (units f false q k) ≡ units f true q k
unfolding units
neg_units f q k =
    let d = suc (prec f) in
    neg_cond (ltb (q * 2 ^ k) (2 ^ (low f + suc (emax f)))) (odd d false q k (low f)) (odd d true q k (low f)) (neg_odd d q k (low f))

neg_full : (m e : ℕ) → neg (double_of_full false m e) ≡ double_of_full true m e
unfolding double_of_full
neg_full m e =
    ap neg (round_is binary64 false (m * 2 ^ e) (2 ^ 160)) ∙ neg_units binary64 _ _ ∙ sym (round_is binary64 true (m * 2 ^ e) (2 ^ 160))

-- a full number's double, by its sign
full : (x : Number) (s : ℕ) → sign x ≡ s → (x.b1 ≡ 0 → ⊥) → double_of_full (eqb s 1) (mantissa x) x.b1 ≡ double_of x
full x s e h = sym (double_full x h ∙ ap (λ (t : ℕ). double_of_full (eqb t 1) (mantissa x) x.b1) e)

of_word : (b : Bool) (e : ℕ) {m n : ℕ} → m ≡ n → double_of_full b m e ≡ double_of_full b n e
of_word b e h = ap (λ (m : ℕ). double_of_full b m e) h

pub returns-then-word-ge-TOP_BIT : goal.returns-then-word-ge-TOP_BIT
unfolding of_int
returns-then-word-ge-TOP_BIT c =
    ap neg (product _ _ (omega arith) (omega arith)) ∙ neg_full _ _ ∙ of_word true c.args.x.b1 c.mantissa.ensures ∙ full _ 1 (omega arith) c.if-e-eq0.false

pub returns : goal.returns
unfolding of_int
returns c = product _ _ (omega arith) (omega arith) ∙ of_word false c.args.x.b1 c.mantissa.ensures ∙ full _ 0 (omega arith) c.if-e-eq0.false

pub float_from_bits-v : goal.float_from_bits-v
float_from_bits-v c = no_nan _ (omega arith)
