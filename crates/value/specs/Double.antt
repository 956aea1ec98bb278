-- Document 01: "the top's value as a 64-bit double, which is always exact, zero being +0". No operation on floats stands in these definitions:
-- `round` is the double nearest to a fraction; that nothing is rounded is said in Exact.
use Prim.Native.Nat.{ℕ, zero, suc, ◌*◌, ◌^◌, ◌<◌}
use Rattle.std.specs.Prelude.{◌≡◌, Bool, false, cond, pos, eqb, Float}
use Rattle.std.proofs.Math.Path.{refl, ap}
use Rattle.std.proofs.Common.{◌∙◌, mul-one, arith, ne_eqb, pow_pos}
use Rattle.std.specs.Float.{fin}
use Rattle.std.specs.Float.Ieee.{binary64, round, of_int}
use Rattle.std.specs.Float.Ieee.Scale.{round_same}
use Rattle.number.specs.declared.Number.{Number}
use Rattle.number.specs.Number.{zeros, sign, mantissa, short_magnitude}
use Rattle.number.specs.NumberLaws.{magnitude_lt}
use Rattle.number.specs.Value.{signed}
use Rattle.number.specs.Restack.{restacked, full_of_short}
use Rattle.number.proofs.RestackLaws.{restack_full, restack_zero, restack_some}
use Rattle.number.proofs.RestackValueLaws.{full_of_short_lem}

-- "Magnitude: mantissa times 2^(b1 - 160)", as a double with its sign
unfoldable pub double_of_full : Bool → ℕ → ℕ → Float
double_of_full negative m e = round binary64 negative (m * 2 ^ e) (2 ^ 160)

-- of a re-stacked number, whose exponent byte is 0 only where it is zero
abbrev pub double_of_restacked : Number → Float
double_of_restacked y = cond (eqb y.b1 0) (fin false 0 (pos 0)) (double_of_full (eqb (sign y) 1) (mantissa y) y.b1)

unfoldable pub double_of : Number → Float
double_of x = double_of_restacked (restacked x)

-- by the number's bytes
module _ (x : Number) where
  pub double_full : (x.b1 ≡ 0 → ⊥) → double_of x ≡ double_of_full (eqb (sign x) 1) (mantissa x) x.b1
  unfolding double_of
  double_full h = ap double_of_restacked (restack_full x h) ∙ simp (ne_eqb x.b1 0 h)

  -- of what is not full it is the double of a whole number
  pub double_whole : sign x < 2 → x.b1 ≡ 0 → double_of x ≡ of_int binary64 (signed (sign x) (short_magnitude x))
  unfolding double_of double_of_full of_int
  double_whole b h = go (sign x) (short_magnitude x) b (magnitude_lt x) (restack_zero x h) (restack_some x h)
    where
      rounded : (s v : ℕ) → s < 2 → 0 < v → round binary64 (eqb s 1) v 1 ≡ of_int binary64 (signed s v)
      rounded zero v g p = refl
      rounded (suc zero) zero g p = absurd (omega arith)
      rounded (suc zero) (suc v) g p = refl
      rounded (suc (suc s)) v g p = absurd (omega arith)

      go : (s v : ℕ) → s < 2 → v < 2 ^ 16 → (v ≡ 0 → restacked x ≡ zeros) → ((v ≡ 0 → ⊥) → restacked x ≡ full_of_short s v)
          → double_of_restacked (restacked x) ≡ of_int binary64 (signed s v)
      go zero zero g l z n = ap double_of_restacked (z refl)
      go (suc s) zero g l z n = ap double_of_restacked (z refl)
      go s (suc v) g l z n =
          let y = full_of_short s (suc v) in
          let t = full_of_short_lem s (suc v) g (omega arith) l in
          ap double_of_restacked (n (λ e. omega arith))
          ∙ simp (ne_eqb y.b1 0 (omega (arith, t.low_exponent)), t.signs)
          (round_same binary64 (eqb s 1) (mantissa y * 2 ^ y.b1) (2 ^ 160) (suc v) 1 (pow_pos 160) (omega arith) (mul-one _ ∙ t.worth)
          ∙ rounded s (suc v) g (omega arith))
