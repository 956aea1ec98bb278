-- Report 6 in addition, exactly: the sum is carried at exponent byte 255.
use Rattle.std.specs.Prelude.{◌≡◌, ℕ, ◌+◌, ◌^◌, ◌<◌, ◌≤◌, Bool, true, false, cond, ◌⊎◌, ◌↔◌, ℤ, pos, ◌+ℤ◌, ◌==◌, nat_le, unsigned_abs, refl, Some, None}
use Rattle.ending.specs.Ending.{Answer}
use Rattle.std.proofs.Common.{◌∙◌, inl, inr, leb-true, eqb-true, eq-zero-or-pos, arith}
use Rattle.std.proofs.lemmas.Bool.{eqb-false}
use Rattle.std.specs.Int.Signed.{shr_z}
use Rattle.edition.specs.declared.Edition.{Edition}
use Rattle.number.specs.declared.Number.{Number}
use Rattle.number.proofs.RestackValueLaws.{restacked_exponent}
use Rattle.number.specs.Negate.{negated}
use Rattle.number.proofs.NegateLaws.{negated_exponent}
use Rattle.ending.proofs.EndingLaws.{ended_too_big_only}
use Rattle.addition.specs.Addition.{stored_short, short_sum, ended_whole, ended_sum, aligned_sum, full_route, short_route, sum_of, difference_of}
use Rattle.addition.proofs.AdditionLaws.{carried_255}
use Rattle.addition.proofs.ShortRouteLaws.{first_full, second_full}
use Rattle.addition.specs.TooBig.{SumTooBig}

-- no other way out is report 6
carried_only : (z : ℤ) (e : ℕ) → e ≤ 255 → ended_sum z e ≡ None → (e ≡ 255) × (2 ^ 32 ≤ unsigned_abs z)
unfolding ended_sum
carried_only z e l h = go (nat_le (2 ^ 32) (unsigned_abs z)) (e + 1 == 256) refl refl h
  where
    go : (b c : Bool) → nat_le (2 ^ 32) (unsigned_abs z) ≡ b → (e + 1 == 256) ≡ c
        → cond b (cond c None (ended_whole (shr_z (z +ℤ pos 1) 2) (e + 1))) (ended_whole z e) ≡ None → (e ≡ 255) × (2 ^ 32 ≤ unsigned_abs z)
    go true true p q k = (omega (arith, eqb-true (e + 1) 256 q), leb-true _ _ p)
    go true false p q k = absurd (eqb-false (e + 1) 256 q (omega (arith, ended_too_big_only _ _ _ _ k)))
    go false c p q k = absurd (omega (arith, ended_too_big_only _ _ _ _ k))

pub sum_too_big : (ed : Edition) (x y : Number) → x.b1 < 256 → y.b1 < 256 → (sum_of ed x y ≡ None) ↔ SumTooBig x y
unfolding sum_of short_route full_route aligned_sum
sum_too_big ed x y bx by = (
  (λ h.
      let r = only (x.b1 == 0) (y.b1 == 0) (stored_short (short_sum x y)) _ (full_route x y) h in
      let c = carried_only _ _ (omega (arith, restacked_exponent x 255 (omega arith) (omega arith), restacked_exponent y 255 (omega arith) (omega arith))) r in
      record { exponent = c.0; carries = c.1 }),
  so,
)
  where
    -- a sum that is stored short is none
    only : (a b c : Bool) (n : Number) (f : Answer) → cond a (cond b (cond c (Some n) f) f) f ≡ None → f ≡ None
    only true true true n f e = absurd (let o : ◌≡◌ {A = ℕ} 0 1 = cc in omega arith)
    only true true false n f e = e
    only true false c n f e = e
    only false b c n f e = e

    so : SumTooBig x y → sum_of ed x y ≡ None
    so t = route (eq-zero-or-pos x.b1) (eq-zero-or-pos y.b1) ∙ carried_255 _ _ t.carries t.exponent
      where
        route : (x.b1 ≡ 0) ⊎ (0 < x.b1) → (y.b1 ≡ 0) ⊎ (0 < y.b1) → sum_of ed x y ≡ full_route x y
        route (inr p) q = first_full ed x y (omega arith)
        route (inl p) (inr q) = second_full ed x y p (omega arith)
        route (inl p) (inl q) =
            absurd (omega (arith, t.exponent, restacked_exponent x 160 (omega arith) (omega arith), restacked_exponent y 160 (omega arith) (omega arith)))

pub difference_too_big : (ed : Edition) (x y : Number) → x.b1 < 256 → y.b1 < 256 → (difference_of ed x y ≡ None) ↔ SumTooBig x (negated y)
unfolding difference_of
difference_too_big ed x y bx by = sum_too_big ed x (negated y) bx (omega (arith, negated_exponent y))
