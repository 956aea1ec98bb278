-- A law for each case of `form_of`, by the word.
use Rattle.std.specs.Prelude.{◌≡◌, ℕ, ◌+◌, ◌*◌, ◌/◌, ◌^◌, ◌<◌, ◌≤◌, Bool, true, false, cond, ◌⊎◌, ◌==◌, ◌≢◌, nat_lt}
use Rattle.std.proofs.Math.Path.{refl, ap}
use Rattle.std.proofs.Common.{subst, inl, inr, arith}
use borrow.Author.Tests.{lt-ltb, le-ltb, eq-eqb, ne_eqb, ltb-true, ltb-false, eqb-true, eqb-false}
use Rattle.number.specs.declared.Number.{Number}
use Rattle.number.specs.declared.form.Form.{Form}
use Rattle.number.specs.declared.form.Form.TheVariants.{Full, Short, Odd, Malformed}
use Rattle.number.specs.Number.{b2, b3, b4, sign, low, short_magnitude, form_of, is_malformed, malformed}

module _ (x : Number) where
  pub form_full : (x.b1 ≢ 0) → form_of x ≡ Full
  unfolding form_of
  form_full h = simp (lt-ltb 0 x.b1 (omega arith))

  module _ (h : x.b1 ≡ 0) where
    pub form_short : x.word < 2 ^ 24 → form_of x ≡ Short
    unfolding form_of
    form_short g = simp (le-ltb 0 x.b1 (omega arith), eq-eqb (b2 x) 0 (omega arith))

    pub form_malformed : 2 ^ 24 ≤ x.word → x.word < 255 * 2 ^ 24 → form_of x ≡ Malformed
    unfolding form_of
    form_malformed g k = simp (le-ltb 0 x.b1 (omega arith), ne_eqb (b2 x) 0 (omega arith), ne_eqb (b2 x) 255 (omega arith))

    module _ (g : 255 * 2 ^ 24 ≤ x.word) where
      pub form_odd : x.word < 255 * 2 ^ 24 + 256 → form_of x ≡ Odd
      unfolding form_of
      form_odd k =
          simp (
            le-ltb 0 x.b1 (omega arith),
            ne_eqb (b2 x) 0 (omega arith),
            eq-eqb (b2 x) 255 (omega arith),
            eq-eqb (b3 x) 0 (omega arith),
            eq-eqb (b4 x) 0 (omega arith),
          )

      pub form_negative : 255 * 2 ^ 24 + 256 ≤ x.word → x.word < 2 ^ 32 → form_of x ≡ Short
      unfolding form_of
      form_negative k l =
          simp (le-ltb 0 x.b1 (omega arith), ne_eqb (b2 x) 0 (omega arith), eq-eqb (b2 x) 255 (omega arith)) (go (b3 x == 0) refl)
        where
          go : (t : Bool) → (b3 x == 0) ≡ t → cond t (cond (b4 x == 0) Odd Short) Short ≡ Short
          go true e = simp (ne_eqb (b4 x) 0 (omega (arith, eqb-true (b3 x) 0 e)))
          go false e = refl

-- ---- malformed or not

module _ (x : Number) where
  form_malformed_is : {f : Form} → form_of x ≡ f → malformed x ≡ is_malformed f
  unfolding malformed
  form_malformed_is h = ap is_malformed h

  pub malformed_full : (x.b1 ≢ 0) → malformed x ≡ false
  malformed_full h = form_malformed_is (form_full x h)

  module _ (h : x.b1 ≡ 0) where
    pub malformed_short : x.word < 2 ^ 24 → malformed x ≡ false
    malformed_short g = form_malformed_is (form_short x h g)

    pub malformed_between : 2 ^ 24 ≤ x.word → x.word < 255 * 2 ^ 24 → malformed x ≡ true
    malformed_between g k = form_malformed_is (form_malformed x h g k)

    pub malformed_negative : 255 * 2 ^ 24 ≤ x.word → x.word < 2 ^ 32 → malformed x ≡ false
    malformed_negative g k = go (nat_lt x.word (255 * 2 ^ 24 + 256)) refl
      where
        go : (t : Bool) → nat_lt x.word (255 * 2 ^ 24 + 256) ≡ t → malformed x ≡ false
        go true e = form_malformed_is (form_odd x h g (ltb-true _ _ e))
        go false e = form_malformed_is (form_negative x h g (ltb-false _ _ e) k)

-- neither malformed nor odd
pub form_stays : (x : Number) → x.b1 ≡ 0 → x.word < 2 ^ 32 → malformed x ≡ false → (x.word / 2 ^ 8 ≢ 255 * 2 ^ 16) → form_of x ≡ Short
form_stays x h l m n = go (nat_lt x.word (2 ^ 24)) (nat_lt x.word (255 * 2 ^ 24)) refl refl
  where
    go : (a b : Bool) → nat_lt x.word (2 ^ 24) ≡ a → nat_lt x.word (255 * 2 ^ 24) ≡ b → form_of x ≡ Short
    go true b i j = form_short x h (ltb-true _ _ i)
    go false true i j = absurd (let z : ◌≡◌ {A = ℕ} 0 1 = cc (m, malformed_between x h (ltb-false _ _ i) (ltb-true _ _ j)) in omega arith)
    go false false i j = form_negative x h (ltb-false _ _ j) (let g = ltb-false x.word (255 * 2 ^ 24) j in omega arith) l

-- What the form says of the bytes, where a law asks for it.
abbrev pub FormBytes : Number → Form → Type 0
FormBytes x Full = 0 < x.b1
FormBytes x Short = (x.b1 ≡ 0) × ((b2 x ≡ 0) ⊎ ((b2 x ≡ 255) × (0 < low x)))
FormBytes x Odd = (x.b1 ≡ 0) × (b2 x ≡ 255) × (low x ≡ 0)
FormBytes x Malformed = x.b1 ≡ 0

form_says : (x : Number) → FormBytes x (form_of x)
unfolding form_of
form_says x = go (nat_lt 0 x.b1) (b2 x == 0) (b2 x == 255) (b3 x == 0) (b4 x == 0) refl refl refl refl refl
  where
    go : (f s n o p : Bool) → nat_lt 0 x.b1 ≡ f → (b2 x == 0) ≡ s → (b2 x == 255) ≡ n → (b3 x == 0) ≡ o → (b4 x == 0) ≡ p
        → FormBytes x (cond f Full (cond s Short (cond n (cond o (cond p Odd Short) Short) Malformed)))
    go true s n o p a b c d e = ltb-true _ _ a
    go false true n o p a b c d e = (omega (arith, ltb-false), inl (eqb-true _ _ b))
    go false false true true true a b c d e = (omega (arith, ltb-false), eqb-true _ _ c, omega (arith, eqb-true (b3 x) 0 d, eqb-true (b4 x) 0 e))
    go false false true true false a b c d e = (omega (arith, ltb-false), inr (eqb-true _ _ c, omega (arith, eqb-false (b4 x) 0 e)))
    go false false true false p a b c d e = (omega (arith, ltb-false), inr (eqb-true _ _ c, omega (arith, eqb-false (b3 x) 0 d)))
    go false false false o p a b c d e = omega (arith, ltb-false)

pub form_bytes : (x : Number) (f : Form) → form_of x ≡ f → FormBytes x f
form_bytes x f h = subst (FormBytes x) h (form_says x)

-- of odd, two's complement gives the magnitude 0
pub odd_none : (x : Number) → form_of x ≡ Odd → (0 < sign x) × (short_magnitude x ≡ 0)
odd_none x h = let f = form_bytes x Odd h in (omega arith, simp (ne_eqb (sign x) 0 (omega arith)) (omega arith))
