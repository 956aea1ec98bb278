-- A law for each case of truncation.
use Rattle.std.specs.Prelude.{◌+◌, ◌-◌, ◌^◌, ◌/◌, ◌≤◌, ◌<◌, ◌≡◌, true, false, eqb}
use Rattle.std.proofs.Math.Path.{refl, ap}
use Rattle.std.proofs.lemmas.Bool.{false≢true}
use Rattle.std.proofs.Math.Bool.{and-eq-true_iff}
use Rattle.std.proofs.Common.{arith}
use borrow.Author.Tests.{lt-ltb, le-ltb, eq-eqb, ne_eqb, eqb-true, ltb-true}
use Rattle.edition.specs.declared.Edition.{Edition}
use Rattle.edition.specs.declared.Edition.TheVariants.{Shipped, Mended}
use Rattle.number.specs.declared.Number.{Number}
use Rattle.number.specs.declared.form.Form.{Form}
use Rattle.number.specs.declared.form.Form.TheVariants.{Full, Short, Odd, Malformed}
use Rattle.number.specs.FormLaws.{form_full, form_bytes}
use Rattle.number.specs.NumberLaws.{places, not_true}
use Rattle.number.specs.Number.{b2, b3, b4, bytes, zeros, sign, mantissa, short_of, form_of}
use Rattle.truncation.specs.Truncate.{taken65536, cleared, truncated_full, truncated_as, truncated}

-- ---- the test for -65,536, by the word

module _ (x : Number) where
  pub taken_not_145 : (ed : Edition) → (x.b1 ≡ 145 → ⊥) → taken65536 ed x ≡ false
  unfolding taken65536
  taken_not_145 Shipped h = simp (ne_eqb x.b1 145 h)
  taken_not_145 Mended h = refl

  pub taken_never : taken65536 Mended x ≡ false
  unfolding taken65536
  taken_never = refl

  pub taken : x.b1 ≡ 145 → x.word / 2 ^ 15 ≡ 2 ^ 16 → taken65536 Shipped x ≡ true
  unfolding taken65536
  taken h g =
      simp (eq-eqb x.b1 145 h, eq-eqb (b2 x) 128 (omega arith), eq-eqb (b3 x) 0 (omega arith), lt-ltb (b4 x) 128 (omega arith))

  pub taken_not : (ed : Edition) → (x.word / 2 ^ 15 ≡ 2 ^ 16 → ⊥) → taken65536 ed x ≡ false
  unfolding taken65536
  taken_not Mended h = refl
  taken_not Shipped h = not_true _ (λ t.
      let r = ((and-eq-true_iff (eqb x.b1 145) _).0 t).1 in
      let q = (and-eq-true_iff (eqb (b2 x) 128) _).0 r in
      let s = (and-eq-true_iff (eqb (b3 x) 0) _).0 q.1 in
      let p = places x.word in
      let two : x.word / 2 ^ 16 ≡ 32768 = omega (arith, p.1, eqb-true (b2 x) 128 q.0, eqb-true (b3 x) 0 s.0) in
      let one : x.word / 2 ^ 8 < 8388608 + 128 = omega (arith, p.0, ltb-true (b4 x) 128 s.1) in
      h (omega arith))

  pub taken_145 : (ed : Edition) → taken65536 ed x ≡ true → x.b1 ≡ 145
  unfolding taken65536
  taken_145 Shipped t = eqb-true _ _ ((and-eq-true_iff _ _).0 t).0
  taken_145 Mended t = absurd (false≢true t)

-- ---- truncation

module _ (ed : Edition) (x : Number) where
  truncate_as : (f : Form) → form_of x ≡ f → truncated ed x ≡ truncated_as ed f x
  unfolding truncated
  truncate_as f h = ap (λ (g : Form). truncated_as ed g x) h

  pub truncate_full : 0 < x.b1 → truncated ed x ≡ truncated_full ed x
  truncate_full h = truncate_as Full (form_full x (omega arith))

  pub truncate_not_full : x.b1 ≡ 0 → truncated ed x ≡ x
  truncate_not_full h = go (form_of x) refl
    where
      go : (f : Form) → form_of x ≡ f → truncated ed x ≡ x
      go Full g = absurd (omega (arith, form_bytes x Full g))
      go Short g = truncate_as Short g
      go Odd g = truncate_as Odd g
      go Malformed g = truncate_as Malformed g

  pub truncate_below_one : x.b1 < 129 → truncated_full ed x ≡ zeros
  unfolding truncated_full
  truncate_below_one h = simp (lt-ltb _ _ h)

  pub truncate_to_short : 129 ≤ x.b1 → x.b1 < 145 → truncated_full ed x ≡ short_of (sign x) (mantissa x / 2 ^ (160 - x.b1))
  unfolding truncated_full
  truncate_to_short h g = simp (le-ltb _ _ h, lt-ltb _ _ g)

  module _ (h : 145 ≤ x.b1) where
    pub truncate_taken : taken65536 ed x ≡ true → truncated_full ed x ≡ bytes 0 255 0 0 0
    unfolding truncated_full
    truncate_taken t = simp (le-ltb x.b1 129 (omega arith), le-ltb _ _ h, t)

    pub truncate_cleared : taken65536 ed x ≡ false → x.b1 < 160 → truncated_full ed x ≡ record { b1 = x.b1; word = cleared (160 - x.b1) x.word }
    unfolding truncated_full
    truncate_cleared t g = simp (le-ltb x.b1 129 (omega arith), le-ltb _ _ h, t, lt-ltb _ _ g)

    pub truncate_whole : taken65536 ed x ≡ false → 160 ≤ x.b1 → truncated_full ed x ≡ x
    unfolding truncated_full
    truncate_whole t g = simp (le-ltb x.b1 129 (omega arith), le-ltb _ _ h, t, le-ltb _ _ g)
