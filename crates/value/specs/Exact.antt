-- The double is exact: "the top's value as a 64-bit double, which is always exact, zero being +0".
use Rattle.std.specs.Prelude.{ℕ, zero, suc, ◌+◌, ◌*◌, ◌^◌, ◌<◌, ◌≡◌, refl, ◌⊎◌, Bool, true, false, eqb, ℤ, pos, negsuc, ◌*ℤ◌, Float}
use Rattle.std.proofs.Common.{sym, ◌∙◌, ap, subst, inl, inr, ⊎_elim, mul_assoc, mul-pos, lt_trans, eq-zero-or-pos, arith, ne_eqb, pow-add, pow_pos, shl_lt}
use Rattle.std.proofs.Math.Pow.{pow-lt}
use Rattle.std.specs.Float.{fin, binary64}
use Rattle.std.specs.Float.Ieee.Exact.{HasValue, round_exact}
use Rattle.number.specs.declared.Number.{Number}
use Rattle.number.specs.declared.form.Form.TheVariants.{Full, Short}
use Rattle.number.specs.Number.{form_of, sign, mantissa, short_magnitude}
use Rattle.number.specs.NumberLaws.{Bytes, magnitude_cases, magnitude_lt}
use Rattle.number.specs.FormLaws.{form_bytes}
use Rattle.number.specs.Value.{signed, short_value, full_value}
use Rattle.number.specs.ValueLaws.{short_value_lem, signed_zero}
use Rattle.number.proofs.RestackLaws.{restack_full, restack_zero, restack_some}
use Rattle.number.proofs.RestackValueLaws.{full_of_short_lem, restack_value, restacked_bytes}
use Rattle.number.specs.Restack.{restacked}
use Rattle.value.specs.Double.{double_of_full, double_of_restacked, double_of}

-- The double f is exactly v / 2^160, with v's sign; zero is +0. `HasValue f negative a c` says that f is finite, has that sign, and is a / c in size.
abbrev pub Exactly : Float → ℤ → Type 0
Exactly f (pos zero) = f ≡ fin false 0 (pos 0)
Exactly f (pos (suc n)) = HasValue f false (suc n) (2 ^ 160)
Exactly f (negsuc n) = HasValue f true (suc n) (2 ^ 160)

-- The double is exact: its sign is the number's, and its size is the fraction itself.
pub double_exact : (s : Bool) (m e : ℕ) → m < 2 ^ 32 → e < 256 → HasValue (double_of_full s m e) s (m * 2 ^ e) (2 ^ 160)
unfolding double_of_full
double_exact s m e h g =
    round_exact binary64 s (m * 2 ^ e) (2 ^ 160) m (e + 914) (pow_pos 160) (lt_trans h (pow-lt {i = 32} {j = 53} (omega arith)))
    (lt_trans (shl_lt {a = m} 32 (e + 914) h) (pow-lt {i = 32 + (e + 914)} {j = 2098} (omega arith)))
    (mul_assoc m (2 ^ e) (2 ^ 1074) ∙ ap (λ (p : ℕ). m * p) places ∙ sym (mul_assoc m (2 ^ (e + 914)) (2 ^ 160)))
  where
    places : 2 ^ e * 2 ^ 1074 ≡ 2 ^ (e + 914) * 2 ^ 160
    places = sym (pow-add 2 e 1074) ∙ ap (λ (k : ℕ). 2 ^ k) (omega arith) ∙ pow-add 2 (e + 914) 160

exactly_signed : (f : Float) (s n : ℕ) → s < 2 → 0 < n → HasValue f (eqb s 1) n (2 ^ 160) → Exactly f (signed s n)
exactly_signed f s zero h p v = absurd (omega arith)
exactly_signed f zero (suc n) h p v = v
exactly_signed f (suc zero) (suc n) h p v = v
exactly_signed f (suc (suc s)) (suc n) h p v = absurd (omega arith)

-- of a re-stacked number that is not zero
of_full : (y : Number) → Bytes y → (y.b1 ≡ 0 → ⊥) → Exactly (double_of_restacked y) (full_value y)
unfolding full_value
of_full y b h =
    simp (ne_eqb y.b1 0 h)
    (exactly_signed _ (sign y) (mantissa y * 2 ^ y.b1) (omega arith) (mul-pos (omega arith) (pow_pos y.b1))
    (double_exact (eqb (sign y) 1) (mantissa y) y.b1 (omega arith) (omega arith)))

-- what is 0 away from zero has no sign: 00 FF 00 00 is odd
zero_positive : (x : Number) → Bytes x → form_of x ≡ Short → short_magnitude x ≡ 0 → sign x ≡ 0
zero_positive x b f z =
    ⊎_elim (λ p. p.0) (λ p. absurd (⊎_elim (λ q. omega arith) (λ q. omega (arith, p.1)) (form_bytes x Short f).1)) (magnitude_cases x b)

-- A full number's double is exactly its value, mantissa times 2^(b1 - 160), and a short number's 256 b4 + b3, less 65,536 if b2 is FF: the sign
-- is that of the value, and zero is +0. (`full_value` has the factor 2^160 in it.)
pub double_exactly : (x : Number) → Bytes x
    → (form_of x ≡ Full → Exactly (double_of x) (full_value x)) × (form_of x ≡ Short → Exactly (double_of x) (short_value x *ℤ pos (2 ^ 160)))
unfolding double_of
double_exactly x b = ((λ f. full (form_bytes x Full f)), (λ f. short f (form_bytes x Short f).0 (eq-zero-or-pos (short_magnitude x))))
  where
    full : 0 < x.b1 → Exactly (double_of x) (full_value x)
    full h = rw (restack_full x (omega arith)) (of_full x b (omega arith))

    short : form_of x ≡ Short → x.b1 ≡ 0 → (short_magnitude x ≡ 0) ⊎ (0 < short_magnitude x) → Exactly (double_of x) (short_value x *ℤ pos (2 ^ 160))
    short f h (inl z) =
        let v = short_value_lem x b (inl (zero_positive x b f z)) ∙ ap (signed (sign x)) z ∙ signed_zero (sign x) in
        rw (v, restack_zero x h z) refl
    short f h (inr p) =
        let y = full_of_short_lem (sign x) (short_magnitude x) (omega arith) p (magnitude_lt x) in
        let e = restack_some x h (omega arith) in
        subst (Exactly (double_of x)) (restack_value x b h (omega arith)) (of_full (restacked x) (restacked_bytes x b) (rw e (omega (arith, y.low_exponent))))
