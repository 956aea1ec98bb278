-- A number as the full route of a sum takes it: a term. No public contract cites this file.
use Rattle.std.specs.Prelude.{◌≡◌, ℕ, ◌+◌, ◌*◌, ◌/◌, ◌%◌, ◌^◌, ◌<◌, max, Bool, true, false, cond, ◌⊎◌, ℤ, pos, ◌==◌, ◌≢◌, int_rem, unsigned_abs, Option, Some, None, is_none}
use Rattle.std.proofs.Math.Path.{refl}
use Rattle.std.proofs.Common.{sym, ◌∙◌, ap, ap₂, inl, inr, eq-zero-or-pos, mod-eq_of_lt, arith, eq-eqb, ne_eqb, of_z, to_z}
use Rattle.std.specs.Int.{w64}
use Rattle.number.specs.declared.Number.{Number}
use Rattle.number.specs.Number.{number, zeros, sign, mantissa, malformed, short_magnitude}
use Rattle.number.specs.NumberLaws.{Bytes, magnitude_lt}
use Rattle.number.specs.Value.{signed}
use Rattle.number.specs.Restack.{restacked}
use Rattle.number.proofs.RestackLaws.{restack_full, restack_some, restack_zero}
use Rattle.number.proofs.RestackValueLaws.{full_of_short_lem, restacked_bytes}
use Rattle.number.proofs.RestackNegated.{negated_none, negated_some}
use Rattle.number.specs.Negate.{negated}
use Rattle.number.proofs.NegateLaws.{negate_full}
use Rattle.addition.specs.Addition.{signed_mantissa, signed_sum, aligned_sum, full_route, second_of}
use Rattle.addition.specs.SignedLaws.{nat_abs_signed, held, low_bits}
use Rattle.addition.proofs.MantissaLaws.{zero_at_1}
use Rattle.adding.specs.declared.term.Summand.{Summand}
use Rattle.adding.specs.Sum.{flips}

abbrev pub term : ℤ → ℕ → Summand
term x e = record { x = x; e = e }

-- a zero's exponent byte is 1 here
abbrev pub parts_of : Number → Summand
parts_of n = term (signed_mantissa n) (max 1 n.b1)

-- a malformed number has none
unfoldable pub term_of : Bool → Number → Option Summand
term_of less y = cond (malformed y) None (Some (parts_of (restacked (second_of less y))))

module _ (less : Bool) (y : Number) where
  pub term_malformed : malformed y ≡ true → term_of less y ≡ None
  unfolding term_of
  term_malformed h = simp h

  pub term_formed : malformed y ≡ false → term_of less y ≡ Some (parts_of (restacked (second_of less y)))
  unfolding term_of
  term_formed h = simp h

  pub term_form : is_none (term_of less y) ≡ malformed y
  unfolding term_of
  term_form = go (malformed y)
    where
      go : (b : Bool) → is_none (cond b None (Some (parts_of (restacked (second_of less y))))) ≡ b
      go true = refl
      go false = refl

-- with f added to its word
abbrev flipped : ℕ → Number → Number
flipped f n = number n.b1 ((n.word + f) % 2 ^ 32)

module _ {f : ℕ} where
  -- the top bit of a word, flipped or not, and the bits below it
  bits : (f ≡ 0) ⊎ (f ≡ 2 ^ 31) → (a d : ℕ) → a < 2 ^ 31 → d < 2 → ((a + 2 ^ 31 * d + f) % 2 ^ 32 / 2 ^ 31 ≡ (d + f / 2 ^ 31) % 2) × ((a + 2 ^ 31 * d + f) % 2 ^ 32 % 2 ^ 31 ≡ a)
  bits (inl p) a d l g = (omega arith, omega arith)
  bits (inr p) a d l g = (omega arith, omega arith)

  top : (f ≡ 0) ⊎ (f ≡ 2 ^ 31) → (s : ℕ) → (s + f) % 2 ^ 32 / 2 ^ 31 ≡ (s / 2 ^ 31 % 2 + f / 2 ^ 31) % 2
  top (inl p) s = omega arith
  top (inr p) s = omega arith

module _ (f : ℕ) (y : Number) (b : Bytes y) (k : (f ≡ 0) ⊎ (f ≡ 2 ^ 31)) where
  second_is : (n : Number) → (f ≡ 0 → restacked y ≡ n) → (f ≡ 2 ^ 31 → restacked (negated y) ≡ n) → restacked (second_of (flips f) y) ≡ n
  second_is n g h = go k
    where
      go : (f ≡ 0) ⊎ (f ≡ 2 ^ 31) → restacked (second_of (flips f) y) ≡ n
      go (inl p) = ap (λ (i : ℕ). restacked (second_of (flips i) y)) p ∙ g p
      go (inr p) = ap (λ (i : ℕ). restacked (second_of (flips i) y)) p ∙ h p

  -- a number that counts as zero still does
  second_none : restacked y ≡ zeros → restacked (second_of (flips f) y) ≡ zeros
  second_none h = second_is zeros (λ e. h) (λ e. go (eq-zero-or-pos y.b1) (eq-zero-or-pos (short_magnitude y)))
    where
      first : (restacked y).b1 ≡ 0
      first = ap (λ (n : Number). n.b1) h

      go : (y.b1 ≡ 0) ⊎ (0 < y.b1) → (short_magnitude y ≡ 0) ⊎ (0 < short_magnitude y) → restacked (negated y) ≡ zeros
      go (inl p) (inl q) = negated_none y b p q
      go (inl p) (inr q) =
          let e = ap (λ (n : Number). n.b1) (restack_some y p (omega arith)) in
          absurd (omega (arith, first, e, (full_of_short_lem (sign y) (short_magnitude y) (omega arith) q (magnitude_lt y)).low_exponent))
      go (inr p) q = absurd (omega (arith, first, ap (λ (n : Number). n.b1) (restack_full y (omega arith))))

  -- any other has its sign flipped
  second_some : ((restacked y).b1 ≢ 0) → restacked (second_of (flips f) y) ≡ flipped f (restacked y)
  second_some h = second_is _ (λ e. kept e (restacked y) (restacked_bytes y b)) (λ e. go (eq-zero-or-pos y.b1) (eq-zero-or-pos (short_magnitude y)) ∙ ap (λ (i : ℕ). flipped i (restacked y)) (sym e))
    where
      kept : f ≡ 0 → (n : Number) → Bytes n → n ≡ flipped f n
      kept e n c = ap (number n.b1) (omega arith)

      go : (y.b1 ≡ 0) ⊎ (0 < y.b1) → (short_magnitude y ≡ 0) ⊎ (0 < short_magnitude y) → restacked (negated y) ≡ flipped (2 ^ 31) (restacked y)
      go (inl p) (inl q) = absurd (h (ap (λ (n : Number). n.b1) (restack_zero y p q)))
      go (inl p) (inr q) = negated_some y b p (omega arith)
      go (inr p) q = ap restacked (negate_full y (omega arith)) ∙ restack_full (flipped (2 ^ 31) y) (omega arith) ∙ ap (flipped (2 ^ 31)) (sym (restack_full y (omega arith)))

  -- ---- the ways to a term

  module _ (m : malformed y ≡ false) where
    pub term_none : restacked y ≡ zeros → term_of (flips f) y ≡ Some (term (pos 0) 1)
    term_none h = term_formed (flips f) y m ∙ ap (λ (n : Number). Some (parts_of n)) (second_none h)

    pub term_some : (s v : ℕ) → ((restacked y).b1 ≢ 0) → (restacked y).word ≡ v % 2 ^ 31 + 2 ^ 31 * (s / 2 ^ 31 % 2)
        → term_of (flips f) y ≡ Some (term (signed ((s + f) % 2 ^ 32 / 2 ^ 31) (v % 2 ^ 31 + 2 ^ 31)) (restacked y).b1)
    term_some s v h e =
        let n = flipped f (restacked y) in
        let c = ap (λ (w : ℕ). (w + f) % 2 ^ 32) e in
        let d = bits k (v % 2 ^ 31) (s / 2 ^ 31 % 2) (omega arith) (omega arith) in
        let one : max 1 n.b1 ≡ n.b1 = omega (arith, h) in
        term_formed (flips f) y m
        ∙ ap (λ (k : Number). Some (parts_of k)) (second_some h)
        ∙ simp (ne_eqb n.b1 0 h) (ap (λ (i : ℕ). Some (term (signed (sign n) (mantissa n)) i)) one)
        ∙ ap₂ (λ (i j : ℕ). Some (term (signed i j) n.b1)) (ap (λ (w : ℕ). w / 2 ^ 31) c ∙ d.0 ∙ sym (top k s)) (ap (λ (w : ℕ). w % 2 ^ 31 + 2 ^ 31) c ∙ ap (λ (a : ℕ). a + 2 ^ 31) d.1)

-- ---- the sum of two terms is the full route's

mantissa_lt : (n : Number) → unsigned_abs (signed_mantissa n) < 2 ^ 32
mantissa_lt n = go (n.b1 == 0)
  where
    go : (t : Bool) → unsigned_abs (cond t (pos 0) (signed (sign n) (mantissa n))) < 2 ^ 32
    go true = omega arith
    go false = rw (nat_abs_signed (sign n) (mantissa n)) (omega arith)

mantissa_none : (n : Number) → n.b1 ≡ 0 → signed_mantissa n ≡ pos 0
mantissa_none n h = simp (eq-eqb n.b1 0 h)

-- what is handed on of a term, of which the low bits are taken
low_part : (a : Summand) (n : Number) → a ≡ parts_of n → int_rem (to_z w64 (of_z w64 a.x)) (pos 4294967296) ≡ signed_mantissa n
low_part a n e =
    ap (λ (z : ℤ). int_rem z (pos 4294967296)) (held a.x _ (ap (λ (u : Summand). u.x) e) (omega (arith, mantissa_lt n)))
    ∙ low_bits (signed_mantissa n) 4294967296 (mantissa_lt n)

low_byte : (a : Summand) (n : Number) → a ≡ parts_of n → a.e < 256 → a.e % 256 ≡ max 1 n.b1
low_byte a n e h = mod-eq_of_lt h ∙ ap (λ (u : Summand). u.e) e

pub terms_summed : (x y : Number) (a b : Summand) → a ≡ parts_of (restacked x) → b ≡ parts_of (restacked y) → a.e < 256 → b.e < 256
    → signed_sum (int_rem (to_z w64 (of_z w64 a.x)) (pos 4294967296)) (a.e % 256) (int_rem (to_z w64 (of_z w64 b.x)) (pos 4294967296)) (b.e % 256) ≡ full_route x y
unfolding full_route aligned_sum
terms_summed x y a b p q g h =
    let m = restacked x in
    let n = restacked y in
    let u = int_rem (to_z w64 (of_z w64 a.x)) (pos 4294967296) in
    let v = int_rem (to_z w64 (of_z w64 b.x)) (pos 4294967296) in
    ap₂ (λ (i j : ℕ). signed_sum u i v j) (low_byte a m p g) (low_byte b n q h)
    ∙ ap₂ (λ (i j : ℤ). signed_sum i (max 1 m.b1) j (max 1 n.b1)) (low_part a m p) (low_part b n q)
    ∙ zero_at_1 (signed_mantissa m) (signed_mantissa n) m.b1 n.b1 (mantissa_none m) (mantissa_none n)
