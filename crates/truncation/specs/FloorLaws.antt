-- Int of a negative full number: what is left when the whole part is taken away is the difference of the mantissas.
use Rattle.std.specs.Prelude.{ℕ, ◌+◌, ◌*◌, ◌-◌, ◌^◌, ◌/◌, ◌%◌, ◌≤◌, ◌<◌, ◌≡◌, ◌⊎◌, Bool, true, false, ltb, eqb, ℤ, pos, negsuc, neg_ℤ, ◌+ℤ◌, Some}
use Rattle.std.proofs.Math.Path.{refl, ap, ap₂}
use Rattle.std.proofs.Common.{sym, ◌∙◌, inl, inr, ne_eqb, eq-eqb, eqb-true, ltb-true, ltb-false, pow_pos, le_trans, le_of_eq, add-mul, mod-lt}
use Rattle.std.proofs.lemmas.Bool.{eqb-false}
use Rattle.std.proofs.Math.Pow.{high, split as both}
use native.Mathlib.Omega.{arith}
use Rattle.std.proofs.Math.IntN.{+ℤ_comm}
use Rattle.edition.specs.declared.Edition.{Edition}
use Rattle.edition.specs.declared.Edition.TheVariants.{Shipped, Mended}
use Rattle.number.specs.declared.Number.{Number}
use Rattle.number.specs.Number.{form_of, zeros, bytes, sign, mantissa, full_of, low, complement_of, halves, short_of, short_magnitude, passes_zero_test}
use Rattle.number.specs.NumberLaws.{Bytes, mantissa_full, sign_full, low_halves, over_same, zero_passes, full_fails}
use Rattle.number.specs.Value.{signed, short_value}
use Rattle.number.specs.Restack.{full_of_short, restacked}
use Rattle.number.proofs.RestackLaws.{restack_full, restack_some}
use Rattle.number.specs.Negate.{negated}
use Rattle.number.proofs.NegateLaws.{negate_full}
use Rattle.ending.specs.Ending.{loose, normal, rounded, ended}
use Rattle.ending.proofs.EndingLaws.{normal_exponent, closed_stored, ended_zero, ended_other, ended_set}
use Rattle.addition.specs.Addition.{written_short, ended_sum, aligned_sum, full_route, short_route, sum_of, difference_of}
use Rattle.addition.specs.SignedLaws.{below}
use Rattle.addition.specs.AdditionLaws.{magnitude_of, shifted_by}
use Rattle.addition.proofs.AdditionLaws.{unshifted, none_shifted, aligned_first, sum_ended}
use Rattle.addition.proofs.ShortRouteLaws.{first_full}
use Rattle.truncation.specs.Truncate.{taken65536, cleared, truncated}
use Rattle.truncation.specs.TruncateLaws.{truncate_full, truncate_below_one, truncate_to_short, truncate_taken, truncate_cleared, truncate_whole, taken_145, taken_not_145}
use Rattle.truncation.specs.BitLaws.{cleared_le, cleared_word, dropped, dropped_lt}
use Rattle.truncation.specs.Int.{short_one, int_of}
use Rattle.truncation.specs.IntLaws.{int_whole, int_part, minus_one, less_one, least_less_one, odd_less_one, positive, minus}

-- what is added when t is subtracted on the full route
abbrev pub opposite : Number → Number
opposite t = restacked (negated t)

-- x less t on the full route, where z is t's opposite and has no larger an exponent byte
pub full_less : (ed : Edition) (x t z : Number) → (x.b1 ≡ 0 → ⊥) → opposite t ≡ z → z.b1 ≤ x.b1 → sign x < 2 → sign z < 2
    → difference_of ed x t ≡ ended_sum (signed (sign x) (mantissa x) +ℤ signed (sign z) (shifted_by (sign z) (magnitude_of z) (x.b1 - z.b1))) x.b1
unfolding difference_of full_route
full_less ed x t z some o h g k =
    first_full ed x (negated t) some ∙ ap₂ aligned_sum (restack_full x some) o ∙ aligned_first x z h g k ∙ simp (ne_eqb x.b1 0 some)

negative : (c : ℕ) → c < 2 ^ 16 → (sign (halves 255 c) ≡ 1) × (256 ≤ (halves 255 c).word)
negative c p = omega arith

zero_less_one : (ed : Edition) → difference_of ed zeros short_one ≡ Some (halves 255 65535)
unfolding difference_of negated form_of passes_zero_test sum_of short_route short_value
zero_less_one Shipped = refl
zero_less_one Mended = refl

module _ (ed : Edition) (x : Number) (b : Bytes x) (s : sign x ≡ 1) (f : 0 < x.b1) where
  -- x less t, where t's opposite has the sign clear and comes to c at x's exponent
  left : (t z : Number) (c : ℕ) → opposite t ≡ z → z.b1 ≤ x.b1 → sign z ≡ 0
      → shifted_by 0 (magnitude_of z) (x.b1 - z.b1) ≡ c → c ≤ mantissa x → difference_of ed x t ≡ ended 1 (mantissa x - c) (x.b1 + 256) 0
  left t z c o h g k l =
      full_less ed x t z (omega arith) o h (omega arith) (omega arith)
      ∙ rw (s, g, k) (ap (λ (v : ℤ). ended_sum v x.b1) (+ℤ_comm (neg_ℤ (pos (mantissa x))) (pos c) ∙ below c (mantissa x) l))
      ∙ sum_ended 1 (mantissa x - c) x.b1 (omega arith) (omega arith)

  module _ (t : Number) (d : ℕ) (e : truncated ed x ≡ t) (h : difference_of ed x t ≡ ended 1 d (x.b1 + 256) 0) where
    left_none : d ≡ 0 → int_of ed x ≡ Some t
    left_none z = int_whole ed x t zeros s e (h ∙ ended_zero 1 d (x.b1 + 256) 0 z) (zero_passes zeros refl (omega arith))

    -- the top bit is set, or 31 doublings leave such an exponent above 0
    left_some : (d ≡ 0 → ⊥) → (2 ^ 31 ≤ d) ⊎ (31 < x.b1) → int_of ed x ≡ difference_of ed t short_one
    left_some n (inl g) =
        let l = loose d (x.b1 + 256) 0 in
        int_part ed x t _ s e (h ∙ ended_set 1 d (x.b1 + 256) 0 g ∙ closed_stored 1 l (omega arith) (omega arith))
        (full_fails (full_of 1 (l.e - 256) (rounded l)) (omega arith))
    left_some n (inr g) =
        let l = normal 31 (loose d (x.b1 + 256) 0) in
        let k = normal_exponent 31 (loose d (x.b1 + 256) 0) in
        int_part ed x t _ s e (h ∙ ended_other 1 d (x.b1 + 256) 0 n ∙ closed_stored 1 l (omega arith) (omega arith))
        (full_fails (full_of 1 (l.e - 256) (rounded l)) (omega arith))

  -- the whole part counts as zero on the full route: x itself is left
  none_taken : (t : Number) → truncated ed x ≡ t → opposite t ≡ zeros → int_of ed x ≡ difference_of ed t short_one
  none_taken t e o =
      left_some t (mantissa x - 0) e (left t zeros 0 o (omega arith) refl (none_shifted (x.b1 - 0)) (omega arith)) (omega arith) (inl (omega arith))

  pub int_small : x.b1 < 129 → int_of ed x ≡ Some (halves 255 65535)
  unfolding negated restacked form_of passes_zero_test
  int_small h = none_taken zeros (truncate_full ed x f ∙ truncate_below_one ed x h) refl ∙ zero_less_one ed

  pub int_taken : taken65536 ed x ≡ true → int_of ed x ≡ Some minus_one
  unfolding negated restacked form_of passes_zero_test
  int_taken t =
      let h = taken_145 x ed t in
      none_taken (bytes 0 255 0 0 0) (truncate_full ed x f ∙ truncate_taken ed x (omega arith) t) refl ∙ odd_less_one ed (bytes 0 255 0 0 0) refl refl refl

  -- the whole part has x's exponent
  left_same : (t z : Number) → opposite t ≡ z → z.b1 ≡ x.b1 → sign z ≡ 0 → mantissa z ≤ mantissa x
      → difference_of ed x t ≡ ended 1 (mantissa x - mantissa z) (x.b1 + 256) 0
  left_same t z o e g l =
      let same : x.b1 - z.b1 ≡ 0 = omega arith in
      left t z (mantissa z) o (omega arith) g
      (ap (shifted_by 0 (magnitude_of z)) same ∙ unshifted 0 (magnitude_of z) (omega arith) ∙ simp (ne_eqb z.b1 0 (omega arith))) l

  pub int_large : 160 ≤ x.b1 → int_of ed x ≡ Some x
  int_large h =
      let z : Number = record { b1 = x.b1; word = (x.word + 2 ^ 31) % 2 ^ 32 } in
      let some : x.b1 ≡ 0 → ⊥ = omega arith in
      let o : opposite x ≡ z = ap restacked (negate_full x some) ∙ restack_full z some in
      left_none x (mantissa x - mantissa z) (truncate_full ed x f ∙ truncate_whole ed x (omega arith) (taken_not_145 x ed (omega arith)) h)
      (left_same x z o refl (omega arith) (omega arith)) (omega arith)

  -- ---- 129 to 159: x is whole exactly when the bits that truncation clears are clear

  abbrev k : ℕ
  k = 160 - x.b1

  pub record Cut (t : Number) : Type 0 where
    pub whole : cleared k (mantissa x) ≡ mantissa x → int_of ed x ≡ Some t
    pub part : (cleared k (mantissa x) ≡ mantissa x → ⊥) → int_of ed x ≡ difference_of ed t short_one

  cut : (t z : Number) → truncated ed x ≡ t → opposite t ≡ z → z.b1 ≡ x.b1 → sign z ≡ 0 → mantissa z ≡ cleared k (mantissa x) → 31 < x.b1 → Cut t
  cut t z e o i g c h =
      let no_more = cleared_le (mantissa x) k in
      let rest = left_same t z o i g (le_trans (le_of_eq c) no_more) in
      record {
        whole = λ w. left_none t (mantissa x - mantissa z) e rest (omega arith);
        part = λ w. left_some t (mantissa x - mantissa z) e rest (omega arith) (inr h);
      }

  pub cut_short : 129 ≤ x.b1 → x.b1 < 145 → Cut (halves 255 (complement_of (mantissa x / 2 ^ k)))
  unfolding full_of_short
  cut_short h g =
      let v = mantissa x / 2 ^ k in
      let d = dropped (mantissa x) k (omega arith) (omega arith) (omega arith) in
      let t = halves 255 (complement_of v) in
      let z = full_of 0 (160 - k) (v * 2 ^ k) in
      let e : truncated ed x ≡ t = truncate_full ed x f ∙ truncate_to_short ed x h g ∙ ap (λ (i : ℕ). short_of i v) s in
      cut t z e (short_opposite v d.some (dropped_lt (mantissa x) k (omega arith) (omega arith)) ∙ ap (λ (n : ℕ). full_of 0 (160 - n) (v * 2 ^ n)) d.zeros)
      (omega arith) (sign_full 0 (160 - k) (v * 2 ^ k) (omega arith))
      (mantissa_full 0 (160 - k) (v * 2 ^ k) d.top (omega (arith, cleared_le (mantissa x) k))) (omega arith)
    where
      short_opposite : (v : ℕ) → 0 < v → v < 2 ^ 16 → opposite (halves 255 (complement_of v)) ≡ full_of_short 0 v
      short_opposite v p q =
          let c = complement_of v in
          let y = halves 0 v in
          let back : complement_of c ≡ v = omega arith in
          let near : short_magnitude y ≡ v = simp (eq-eqb (sign y) 0 (positive v q)) (low_halves 0 v q) in
          let other : negated (halves 255 c) ≡ halves 0 (complement_of (low (halves 255 c))) = minus (halves 255 c) (omega arith) refl (negative c (omega arith)).0 in
          ap restacked (rw (low_halves 255 c (omega arith), back) at other)
          ∙ restack_some y refl (omega arith)
          ∙ ap₂ full_of_short (positive v q) near

  -- one more where a part was cut off
  pub short_up : 129 ≤ x.b1 → x.b1 < 145 → (cleared k (mantissa x) ≡ mantissa x → ⊥) → mantissa x / 2 ^ k < 65535 → int_of ed x ≡ Some (halves 255 (65535 - mantissa x / 2 ^ k))
  short_up h g p q =
      let v = mantissa x / 2 ^ k in
      (cut_short h g).part p ∙ lower v (dropped (mantissa x) k (omega arith) (omega arith) (omega arith)).some q
    where
      lower : (v : ℕ) → 0 < v → v < 65535 → difference_of ed (halves 255 (complement_of v)) short_one ≡ Some (halves 255 (65535 - v))
      lower v p q =
          let c = complement_of v in
          let less : c - 1 ≡ 65535 - v = omega arith in
          (rw (low_halves 255 c (omega arith)) at (less_one ed (halves 255 c) refl (negative c (omega arith)).0)) (omega arith)
          ∙ ap Some (over_same (halves 255 c) (halves 255 (c - 1)) refl (omega arith) ∙ ap (halves 255) less)

  -- below -65,535 it is -65,536, in the edition's way
  pub short_least : 129 ≤ x.b1 → x.b1 < 145 → (cleared k (mantissa x) ≡ mantissa x → ⊥) → mantissa x / 2 ^ k ≡ 65535
      → int_of ed x ≡ Some (written_short ed (halves 255 1) (negsuc 65535))
  short_least h g p q =
      (cut_short h g).part p
      ∙ ap (λ (v : ℕ). difference_of ed (halves 255 (complement_of v)) short_one) q
      ∙ least_less_one ed (halves 255 1) refl refl refl

  pub cut_full : 145 ≤ x.b1 → x.b1 < 160 → taken65536 ed x ≡ false → Cut (record { b1 = x.b1; word = cleared k x.word })
  cut_full h g t =
      let w = cleared k x.word in
      let c = cleared_word x.word k (omega arith) in
      let y : Number = record { b1 = x.b1; word = w } in
      let z : Number = record { b1 = x.b1; word = (w + 2 ^ 31) % 2 ^ 32 } in
      let some : x.b1 ≡ 0 → ⊥ = omega arith in
      let fits : w < 2 ^ 32 = omega (arith, cleared_le x.word k) in
      cut y z (truncate_full ed x f ∙ truncate_cleared ed x h t g) (ap restacked (negate_full y some) ∙ restack_full z some) refl
      (omega (arith, c.sign)) (omega (arith, c.sign, c.mantissa)) (omega arith)

-- in the shipped edition -65,536 is short too, and one law does for both
pub short_down : (x : Number) (b : Bytes x) (s : sign x ≡ 1) (f : 0 < x.b1) → 129 ≤ x.b1 → x.b1 < 145
    → (cleared (160 - x.b1) (mantissa x) ≡ mantissa x → ⊥) → int_of Shipped x ≡ Some (halves 255 (65535 - mantissa x / 2 ^ (160 - x.b1)))
short_down x b s f h g p = go (ltb v 65535) refl
  where
    v : ℕ
    v = mantissa x / 2 ^ (160 - x.b1)

    go : (c : Bool) → ltb v 65535 ≡ c → int_of Shipped x ≡ Some (halves 255 (65535 - v))
    go true c = short_up Shipped x b s f h g p (ltb-true _ _ c)
    go false c =
        let most = dropped_lt (mantissa x) (160 - x.b1) (omega arith) (omega arith) in
        let is : v ≡ 65535 = omega (arith, ltb-false v 65535 c) in
        short_least Shipped x b s f h g p is ∙ ap (λ (w : ℕ). Some (halves 255 (65535 - w))) (sym is)

-- One less than the mantissa, with the places dropped: one less where nothing is cut off, and else the same.
less_whole : (v n : ℕ) → 0 < v → (v * 2 ^ n - 1) / 2 ^ n ≡ v - 1
less_whole v n h =
    let p = pow_pos n in
    let one : v * 2 ^ n ≡ (v - 1) * 2 ^ n + 1 * 2 ^ n = ap (λ (i : ℕ). i * 2 ^ n) {x = v} {y = v - 1 + 1} (omega arith) ∙ add-mul (v - 1) 1 (2 ^ n) in
    let split : v * 2 ^ n - 1 ≡ (v - 1) * 2 ^ n + (2 ^ n - 1) = omega arith in
    ap (λ (i : ℕ). i / 2 ^ n) split ∙ high (v - 1) n (omega arith)

less_part : (m n : ℕ) → (cleared n m ≡ m → ⊥) → (m - 1) / 2 ^ n ≡ m / 2 ^ n
less_part m n h =
    let parts = both m n in
    let some : ¬ (m % 2 ^ n ≡ 0) = λ z. h (omega arith) in
    let rest : m - 1 ≡ m / 2 ^ n * 2 ^ n + (m % 2 ^ n - 1) = omega arith in
    ap (λ (i : ℕ). i / 2 ^ n) rest ∙ high (m / 2 ^ n) n (omega (arith, mod-lt m (pow_pos n)))

-- so int of a negative number whose whole part is short, without a case
pub short_below : (x : Number) (b : Bytes x) (s : sign x ≡ 1) (f : 0 < x.b1) → 129 ≤ x.b1 → x.b1 < 145
    → int_of Shipped x ≡ Some (halves 255 (65535 - (mantissa x - 1) / 2 ^ (160 - x.b1)))
short_below x b s f h g = go (eqb (cleared k m) m) refl
  where
    k : ℕ
    k = 160 - x.b1

    m : ℕ
    m = mantissa x

    go : (c : Bool) → eqb (cleared k m) m ≡ c → int_of Shipped x ≡ Some (halves 255 (65535 - (m - 1) / 2 ^ k))
    go true c =
        let same = eqb-true (cleared k m) m c in
        let v = m / 2 ^ k in
        let some = (dropped m k (omega arith) (omega arith) (omega arith)).some in
        let most = dropped_lt m k (omega arith) (omega arith) in
        let one : (m - 1) / 2 ^ k ≡ v - 1 = ap (λ (n : ℕ). (n - 1) / 2 ^ k) (sym same) ∙ less_whole v k some in
        (cut_short Shipped x b s f h g).whole same ∙ ap (λ (n : ℕ). Some (halves 255 n)) (flip v (65535 - (m - 1) / 2 ^ k) some most (ap (λ (n : ℕ). 65535 - n) one))
      where
        flip : (v n : ℕ) → 0 < v → v < 2 ^ 16 → n ≡ 65535 - (v - 1) → complement_of v ≡ n
        flip v n p q e = omega arith
    go false c = short_down x b s f h g (eqb-false (cleared k m) m c) ∙ ap (λ (n : ℕ). Some (halves 255 (65535 - n))) (sym (less_part m k (eqb-false (cleared k m) m c)))
