-- A2: "no run's report, position, depth or cell depends on b5 of a short number below the depth." Numbers and slots that are the same but for that byte,
-- and what is then the same of two numbers.
use Rattle.std.specs.Prelude.{ℕ, ◌+◌, ◌*◌, ◌^◌, ◌/◌, ◌%◌, ◌<◌, ◌≡◌, refl, ◌⊎◌, cond, List, eqb, ◌-ℤ◌, get_or, take}
use Rattle.std.proofs.Common.{sym, ◌∙◌, ap, inl, inr, eq-zero-or-pos, arith}
use Rattle.std.proofs.Math.Path.{ap₂}
use Rattle.std.proofs.Math.Nat.{div-div-eq-div-mul}
use Rattle.std.proofs.Math.IntN.{pos}
use Rattle.number.specs.declared.Number.{Number}
use Rattle.number.specs.declared.form.Form.TheVariants.{Short, Odd}
use Rattle.number.specs.Number.{b2, b3, b4, sign, low, complement_of, short_magnitude, form_of, passes_zero_test}
use Rattle.number.specs.NumberLaws.{places}
use Rattle.number.specs.FormLaws.{form_bytes}
use Rattle.number.specs.Value.{short_value}
use Rattle.number.specs.Restack.{full_of_short, restacked}
use Rattle.number.proofs.RestackLaws.{restack_zero, restack_some}
use Rattle.slots.specs.Slots.{number_in}

-- the first four bytes are the same
pub record SameFour (x x' : Number) : Type 0 where
  pub b1_same : x.b1 ≡ x'.b1
  pub b2_same : b2 x ≡ b2 x'
  pub b3_same : b3 x ≡ b3 x'
  pub b4_same : b4 x ≡ b4 x'

-- "a short number", or odd, "00 FF 00 00 with any b5"
abbrev pub ShortOrOdd : Number → Type 0
ShortOrOdd x = (form_of x ≡ Short) ⊎ (form_of x ≡ Odd)

-- the same "but for b5 of a short or odd" number; the form goes by the first four bytes, so x' has it too (`short_both`)
pub record ButB5 (x x' : Number) : Type 0 where
  pub four : SameFour x x'
  pub form : ShortOrOdd x

-- the same number, "but for b5" where it is short or odd
abbrev pub Like : Number → Number → Type 0
Like x x' = (x ≡ x') ⊎ ButB5 x x'

-- Of the bytes of two slots: b1 to b4 are the same, of a short or odd number. (b5 is a byte: a larger number in its place would reach into b4.)
pub record OnlyB5 (p p' : List ℕ) : Type 0 where
  pub four : take 4 p ≡ take 4 p'
  pub form : ShortOrOdd (number_in p 0)
  pub byte : get_or p 4 0 < 256
  pub byte' : get_or p' 4 0 < 256

-- the same five bytes, "but for b5" where they are of a short or odd number
abbrev pub SameButB5 : List ℕ → List ℕ → Type 0
SameButB5 p p' = (p ≡ p') ⊎ OnlyB5 p p'

-- ---- the first four bytes are b1 and the word without its last byte

pub four_of : (x x' : Number) → x.b1 ≡ x'.b1 → x.word / 2 ^ 8 ≡ x'.word / 2 ^ 8 → SameFour x x'
four_of x x' h e =
    let p = places x.word in
    let q = places x'.word in
    let two : x.word / 2 ^ 16 ≡ x'.word / 2 ^ 16 = p.0 ∙ ap (λ (k : ℕ). k / 2 ^ 8) e ∙ sym q.0 in
    record {
      b1_same = h;
      b2_same = p.1 ∙ ap (λ (k : ℕ). k / 2 ^ 8) two ∙ sym q.1;
      b3_same = ap (λ (k : ℕ). k % 256) two;
      b4_same = ap (λ (k : ℕ). k % 256) e;
    }

-- ---- what goes by the first four bytes

module _ (x x' : Number) (f : SameFour x x') where
  pub form_same : form_of x ≡ form_of x'
  unfolding form_of
  form_same = rw (f.b1_same, f.b2_same, f.b3_same, f.b4_same)

  zero_test_same : passes_zero_test x ≡ passes_zero_test x'
  unfolding passes_zero_test
  zero_test_same = rw (f.b1_same, f.b2_same, f.b3_same, f.b4_same)

  -- the sign is the top bit of b2
  sign_same : sign x ≡ sign x'
  sign_same = sym (div-div-eq-div-mul x.word (2 ^ 24) (2 ^ 7)) ∙ ap (λ (b : ℕ). b / 2 ^ 7) f.b2_same ∙ div-div-eq-div-mul x'.word (2 ^ 24) (2 ^ 7)

  low_same : low x ≡ low x'
  low_same = ap₂ (λ (h l : ℕ). 256 * h + l) f.b4_same f.b3_same

  magnitude_same : short_magnitude x ≡ short_magnitude x'
  magnitude_same = ap₂ (λ (s h : ℕ). cond (eqb s 0) h (complement_of h)) sign_same low_same

  value_same : short_value x ≡ short_value x'
  unfolding short_value
  value_same = ap₂ (λ (h s : ℕ). pos h -ℤ pos (65536 * s)) low_same sign_same

  restacked_same : x.b1 ≡ 0 → restacked x ≡ restacked x'
  restacked_same h = go (eq-zero-or-pos (short_magnitude x))
    where
      h' : x'.b1 ≡ 0
      h' = sym f.b1_same ∙ h

      go : (short_magnitude x ≡ 0) ⊎ (0 < short_magnitude x) → restacked x ≡ restacked x'
      go (inl z) = restack_zero x h z ∙ sym (restack_zero x' h' (sym magnitude_same ∙ z))
      go (inr p) =
          let n : short_magnitude x ≡ 0 → ⊥ = λ e. omega arith in
          restack_some x h n ∙ ap₂ full_of_short sign_same magnitude_same ∙ sym (restack_some x' h' (λ e. n (magnitude_same ∙ e)))

-- ---- what the arithmetic and the cell take of a number

pub record SameParts (x x' : Number) : Type 0 where
  pub exponents : x.b1 ≡ x'.b1
  pub forms : form_of x ≡ form_of x'
  pub zero_tests : passes_zero_test x ≡ passes_zero_test x'
  pub signs : sign x ≡ sign x'
  pub magnitudes : short_magnitude x ≡ short_magnitude x'
  pub values : short_value x ≡ short_value x'
  pub restacks : restacked x ≡ restacked x'

pub b1_zero : (x : Number) → ShortOrOdd x → x.b1 ≡ 0
b1_zero x (inl h) = (form_bytes x Short h).0
b1_zero x (inr h) = (form_bytes x Odd h).0

pub short_both : (x x' : Number) → ButB5 x x' → ShortOrOdd x'
short_both x x' b = rw (form_same x x' b.four) at b.form

pub parts_same : (x x' : Number) → Like x x' → SameParts x x'
parts_same x x' (inl e) =
    rw e (record { exponents = refl; forms = refl; zero_tests = refl; signs = refl; magnitudes = refl; values = refl; restacks = refl })
parts_same x x' (inr b) =
    let f = b.four in
    record {
      exponents = f.b1_same;
      forms = form_same x x' f;
      zero_tests = zero_test_same x x' f;
      signs = sign_same x x' f;
      magnitudes = magnitude_same x x' f;
      values = value_same x x' f;
      restacks = restacked_same x x' f (b1_zero x b.form);
    }
