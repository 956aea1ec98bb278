-- Int by what is left when the whole part is taken away; and of short numbers and odd, by the short route.
use Rattle.std.specs.Prelude.{ℕ, ◌*◌, ◌/◌, ◌+◌, ◌-◌, ◌^◌, ◌%◌, ◌≤◌, ◌<◌, ◌≡◌, true, negsuc, Some}
use Rattle.std.proofs.Math.Path.{refl, sym, ap, ap₂}
use Rattle.std.proofs.Common.{◌∙◌, inl, inr, eq-eqb, ne_eqb}
use Rattle.std.proofs.Math.Bool.{false}
use native.Mathlib.Omega.{arith}
use Rattle.std.specs.Int.Count.{count_leading_zeros}
use Rattle.edition.specs.declared.Edition.{Edition}
use Rattle.edition.specs.declared.Edition.TheVariants.{Shipped, Mended}
use Rattle.number.specs.declared.Number.{Number}
use Rattle.number.specs.Number.{form_of, zeros, sign, low, complement_of, full_of, halves, stored_over, short_of, short_magnitude, passes_zero_test}
use Rattle.number.specs.declared.form.Form.TheVariants.{Short}
use Rattle.number.specs.FormLaws.{FormBytes, form_bytes}
use Rattle.number.specs.NumberLaws.{places, Bytes, low_halves, zero_passes, full_fails, some_fails}
use Rattle.number.specs.Restack.{full_of_short, restacked}
use Rattle.number.proofs.RestackLaws.{restack_zero}
use Rattle.number.specs.Negate.{negated}
use Rattle.number.proofs.NegateLaws.{negate_short}
use Rattle.ending.specs.Ending.{normal, closed, ended}
use Rattle.addition.specs.Addition.{minus65536, written_short, aligned, ended_sum, aligned_sum, full_route, sum_of, difference_of}
use Rattle.addition.specs.ShortRouteLaws.{carry_of, negatives, wrapped}
use Rattle.addition.proofs.ShortRouteLaws.{carries, sum_positive, sum_negative, sum_least, sum_beyond}
use Rattle.truncation.specs.Truncate.{truncated}
use Rattle.truncation.specs.TruncateLaws.{truncate_not_full}
use Rattle.truncation.specs.Int.{short_one, step_down, int_of}

pub int_positive : (ed : Edition) (x : Number) → sign x ≡ 0 → int_of ed x ≡ Some (truncated ed x)
unfolding int_of
int_positive ed x h = simp (eq-eqb (sign x) 0 h)

pub int_steps : (ed : Edition) (x : Number) → (sign x ≡ 0 → ⊥) → int_of ed x ≡ step_down ed (truncated ed x) (difference_of ed x (truncated ed x))
unfolding int_of
int_steps ed x h = simp (ne_eqb (sign x) 0 h)

module _ (ed : Edition) (x t d : Number) (h : sign x ≡ 1) (e : truncated ed x ≡ t) (f : difference_of ed x t ≡ Some d) where
  down : int_of ed x ≡ step_down ed t (Some d)
  down = int_steps ed x (omega arith) ∙ ap (λ (n : Number). step_down ed n (difference_of ed x n)) e ∙ ap (step_down ed t) f

  pub int_whole : passes_zero_test d ≡ true → int_of ed x ≡ Some t
  int_whole z = down ∙ simp z

  pub int_part : passes_zero_test d ≡ false → int_of ed x ≡ difference_of ed t short_one
  int_part z = down ∙ simp z

-- -1 as a full number, 81 80 00 00 00
abbrev pub minus_one : Number
minus_one = full_of 1 129 (2 ^ 31)

-- ---- t less 1, for a negative t that is short or odd

one_negated : negated short_one ≡ halves 255 65535
unfolding negated form_of passes_zero_test
one_negated = refl

one_lower : (l : ℕ) → 0 < l → l < 2 ^ 16 → (l + 65535) % 2 ^ 16 ≡ l - 1
one_lower l h g = omega arith

module _ (ed : Edition) (t : Number) (h : t.b1 ≡ 0) (s : sign t ≡ 1) where
  abbrev other : Number
  other = halves 255 65535

  two_negative : negatives t other ≡ 2
  two_negative = ap (λ (n : ℕ). n + 1) s

  carried : 0 < low t → carry_of (wrapped t other) (low t) + 1 ≡ negatives t other
  carried p =
      let carry : carry_of (wrapped t other) (low t) ≡ 1 = carries (low t) 65535 (omega arith) (omega arith) (omega arith) in
      ap (λ (n : ℕ). n + 1) carry ∙ sym two_negative

  pub less_one : 1 < low t → difference_of ed t short_one ≡ Some (stored_over t (halves 255 (low t - 1)))
  unfolding difference_of
  less_one p =
      let one = one_lower (low t) (omega arith) (omega arith) in
      ap (sum_of ed t) one_negated
      ∙ sum_negative ed t other h refl (omega arith) (carried (omega arith))
      ∙ ap (λ (n : ℕ). Some (stored_over t (halves 255 n))) one

  -- -65,535 less 1 is written in the edition's way
  pub least_less_one : low t ≡ 1 → difference_of ed t short_one ≡ Some (written_short ed t (negsuc 65535))
  unfolding difference_of
  least_less_one e = ap (sum_of ed t) one_negated ∙ sum_least ed t other h refl (omega arith) (carried (omega arith))

  -- the sum would be -65,537, and on the full route odd counts as zero
  pub odd_less_one : low t ≡ 0 → difference_of ed t short_one ≡ Some minus_one
  unfolding difference_of full_route aligned_sum ended_sum aligned ended closed normal restacked full_of_short form_of count_leading_zeros
  odd_less_one z =
      let none : short_magnitude t ≡ 0 = simp (ne_eqb (sign t) 0 (omega arith)) (ap complement_of z) in
      let carry : carry_of (wrapped t other) (low t) ≡ 0 = ap (λ (l : ℕ). carry_of ((l + 65535) % 2 ^ 16) l) z in
      ap (sum_of ed t) one_negated
      ∙ sum_beyond ed t other h refl
      (λ e. omega (arith, carry, two_negative)) (λ e. omega (arith, carry, two_negative))
      ∙ ap (λ (n : Number). aligned_sum n (restacked other)) (restack_zero t h none)

-- ---- short and odd, which truncation leaves as they are

back : (l : ℕ) → 0 < l → l < 2 ^ 16 → (l + complement_of l) % 2 ^ 16 ≡ 0
back l h g = omega arith

pub positive : (c : ℕ) → c < 2 ^ 16 → sign (halves 0 c) ≡ 0
positive c g = omega arith

module _ (x : Number) (b : Bytes x) (h : x.b1 ≡ 0) (s : sign x ≡ 1) where
  abbrev opposite : Number
  opposite = halves 0 (complement_of (low x))

  pub minus : negated x ≡ opposite
  minus =
      let same : short_magnitude x ≡ complement_of (low x) = simp (ne_eqb (sign x) 0 (omega arith)) in
      let none : 1 - sign x ≡ 0 = omega arith in
      negate_short x h (omega arith) ∙ ap₂ short_of none same

  low_opposite : low opposite ≡ complement_of (low x)
  low_opposite = low_halves 0 (complement_of (low x)) (omega arith)

  one_negative : negatives x opposite ≡ 1
  one_negative = ap₂ ◌+◌ s (positive (complement_of (low x)) (omega arith))

module _ (ed : Edition) (x : Number) (b : Bytes x) (h : x.b1 ≡ 0) (s : sign x ≡ 1) where
  abbrev y : Number
  y = opposite x b h s

  -- x less x is zero
  pub int_short : 0 < low x → int_of ed x ≡ Some x
  unfolding difference_of
  int_short p =
      let carry : carry_of (wrapped x y) (low x) ≡ 1 =
      ap (λ (k : ℕ). carry_of ((low x + k) % 2 ^ 16) (low x)) (low_opposite x b h s) ∙ carries (low x) (complement_of (low x)) (omega arith) (omega arith) (past (low x) p) in
      let none : wrapped x y ≡ 0 = ap (λ (k : ℕ). (low x + k) % 2 ^ 16) (low_opposite x b h s) ∙ back (low x) p (omega arith) in
      int_whole ed x x (stored_over x zeros) s (truncate_not_full ed x h)
      (ap (sum_of ed x) (minus x b h s)
      ∙ sum_positive ed x y h refl (carry ∙ sym (one_negative x b h s))
      ∙ ap (λ (n : ℕ). Some (stored_over x (halves 0 n))) none)
      (zero_passes (stored_over x zeros) h (omega arith))
    where
      past : (l : ℕ) → 0 < l → 2 ^ 16 ≤ l + complement_of l
      past l g = omega arith

  -- negation takes odd for zero, addition takes it for -65,536
  pub int_odd : low x ≡ 0 → int_of ed x ≡ Some minus_one
  unfolding difference_of
  int_odd z =
      let o : low y ≡ 0 = low_opposite x b h s ∙ ap complement_of z in
      let none : wrapped x y ≡ 0 = ap₂ (λ (l k : ℕ). (l + k) % 2 ^ 16) z o in
      let carry : carry_of (wrapped x y) (low x) ≡ 0 = ap₂ carry_of none z in
      int_part ed x x (written_short ed x (negsuc 65535)) s (truncate_not_full ed x h)
      (ap (sum_of ed x) (minus x b h s) ∙ sum_least ed x y h refl none (ap (λ (n : ℕ). n + 1) carry ∙ sym (one_negative x b h s)))
      (least_fails ed)
      ∙ odd_less_one ed x h s z
    where
      least_fails : (v : Edition) → passes_zero_test (written_short v x (negsuc 65535)) ≡ false
      least_fails Shipped = some_fails (stored_over x (halves 255 0)) h (omega arith)
      least_fails Mended = full_fails minus65536 (omega arith)

-- a short number is whole
pub int_kept : (ed : Edition) (x : Number) → Bytes x → form_of x ≡ Short → int_of ed x ≡ Some x
int_kept ed x b f = go (form_bytes x Short f)
  where
    go : FormBytes x Short → int_of ed x ≡ Some x
    go (h, inl z) = int_positive ed x (omega (arith, z)) ∙ ap Some (truncate_not_full ed x h)
    go (h, inr (n, l)) = int_short ed x b h (omega (arith, n, b.word_below)) l

-- and odd becomes -1
pub int_of_odd : (ed : Edition) (x : Number) → Bytes x → x.b1 ≡ 0 → x.word / 2 ^ 8 ≡ 255 * 2 ^ 16 → int_of ed x ≡ Some minus_one
int_of_odd ed x b h e =
    let two : x.word / 2 ^ 16 ≡ 255 * 2 ^ 8 = (places x.word).0 ∙ ap (λ (k : ℕ). k / 2 ^ 8) e in
    int_odd ed x b h (omega (arith, e, b.word_below)) (ap₂ (λ (i j : ℕ). 256 * (i % 256) + j % 256) e two)
