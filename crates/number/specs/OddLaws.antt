-- Which numbers are odd, document 01's term: 00 FF 00 00 with any b5.
use Rattle.std.specs.Prelude.{◌≡◌, ◌*◌, ◌/◌, ◌^◌, ◌<◌, true, false, ◌⊎◌, ◌≢◌, refl}
use Rattle.std.proofs.Common.{sym, ◌∙◌, inl, inr, arith}
use Rattle.std.proofs.Math.Path.{ap}
use Rattle.std.proofs.lemmas.Bool.{false≢true}
use Rattle.number.specs.declared.Number.{Number}
use Rattle.number.specs.declared.form.Form.{Form}
use Rattle.number.specs.declared.form.Form.TheVariants.{Full, Short, Odd, Malformed}
use Rattle.number.specs.Number.{zeros, form_of, is_odd, odd}
use Rattle.number.specs.NumberLaws.{places}
use Rattle.number.specs.FormLaws.{form_full, form_short, form_odd, form_bytes}

module _ (x : Number) where
  odd_as : {f : Form} → form_of x ≡ f → odd x ≡ is_odd f
  unfolding odd
  odd_as h = ap is_odd h

  pub odd_full : (x.b1 ≢ 0) → odd x ≡ false
  odd_full h = odd_as (form_full x h)

  pub odd_positive : x.b1 ≡ 0 → x.word < 2 ^ 24 → odd x ≡ false
  odd_positive h g = odd_as (form_short x h g)

  pub odd_word : x.b1 ≡ 0 → x.word / 2 ^ 8 ≡ 255 * 2 ^ 16 → odd x ≡ true
  odd_word h e = odd_as (form_odd x h (omega arith) (omega arith))

  odd_form : form_of x ≡ Odd → x.word / 2 ^ 8 ≡ 255 * 2 ^ 16
  odd_form e = let b = form_bytes x Odd e in let p = places x.word in omega (arith, b, p)

  pub odd_other : (x.word / 2 ^ 8 ≢ 255 * 2 ^ 16) → odd x ≡ false
  odd_other n = go (form_of x) refl
    where
      go : (f : Form) → form_of x ≡ f → odd x ≡ false
      go Full e = odd_as e
      go Short e = odd_as e
      go Malformed e = odd_as e
      go Odd e = absurd (n (odd_form e))

  pub odd_bytes : odd x ≡ true → (x.b1 ≡ 0) × (x.word / 2 ^ 8 ≡ 255 * 2 ^ 16)
  odd_bytes o = go (form_of x) refl
    where
      none : {f : Form} → form_of x ≡ f → is_odd f ≢ false
      none e n = false≢true (sym n ∙ sym (odd_as e) ∙ o)

      go : (f : Form) → form_of x ≡ f → (x.b1 ≡ 0) × (x.word / 2 ^ 8 ≡ 255 * 2 ^ 16)
      go Full e = absurd (none e refl)
      go Short e = absurd (none e refl)
      go Malformed e = absurd (none e refl)
      go Odd e = ((form_bytes x Odd e).0, odd_form e)

  -- five zero bytes, or a full number
  pub odd_ended : (x ≡ zeros) ⊎ (0 < x.b1) → odd x ≡ false
  unfolding odd form_of
  odd_ended (inl z) = ap odd z
  odd_ended (inr p) = odd_full (omega arith)
