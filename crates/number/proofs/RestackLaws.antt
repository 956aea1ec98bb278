-- A law for each case of re-stacking.
use Rattle.std.specs.Prelude.{◌≡◌, ◌≢◌, refl}
use Rattle.std.proofs.Common.{sym, ◌∙◌, arith, eq-eqb, ne_eqb}
use Rattle.std.proofs.Math.Path.{ap}
use Rattle.number.specs.declared.Number.{Number}
use Rattle.number.specs.declared.form.Form.{Form}
use Rattle.number.specs.declared.form.Form.TheVariants.{Full, Short, Odd, Malformed}
use Rattle.number.specs.Number.{zeros, sign, short_magnitude, form_of}
use Rattle.number.specs.FormLaws.{form_full, form_bytes, odd_none}
use Rattle.number.specs.Restack.{full_of_short, short_restacked, restacked_as, restacked}

module _ (x : Number) where
  restack_as : (f : Form) → form_of x ≡ f → restacked x ≡ restacked_as f x
  unfolding restacked
  restack_as f h = ap (λ (g : Form). restacked_as g x) h

  pub restack_full : (x.b1 ≢ 0) → restacked x ≡ x
  restack_full h = restack_as Full (form_full x h)

  short_restacked_lem : x.b1 ≡ 0 → restacked x ≡ short_restacked x
  short_restacked_lem h = go (form_of x) refl
    where
      go : (f : Form) → form_of x ≡ f → restacked x ≡ short_restacked x
      go Full e = absurd (omega (arith, form_bytes x Full e))
      go Short e = restack_as Short e
      go Odd e = restack_as Odd e ∙ sym (simp (eq-eqb _ _ (odd_none x e).1))
      go Malformed e = restack_as Malformed e

  pub restack_some : x.b1 ≡ 0 → (short_magnitude x ≢ 0) → restacked x ≡ full_of_short (sign x) (short_magnitude x)
  restack_some h g = short_restacked_lem h ∙ simp (ne_eqb _ _ g)

  pub restack_zero : x.b1 ≡ 0 → short_magnitude x ≡ 0 → restacked x ≡ zeros
  restack_zero h g = short_restacked_lem h ∙ simp (eq-eqb _ _ g)
