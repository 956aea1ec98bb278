-- Truncation and int of the mended edition, of a number that is not odd, give none that is.
use Rattle.std.specs.Prelude.{◌-◌, ◌^◌, ◌/◌, ◌<◌, ◌≡◌, refl, ◌⊎◌, Bool, true, false, cond, ltb, eqb, Some, None}
use Rattle.ending.specs.Ending.{Answer}
use Rattle.std.proofs.Common.{◌∙◌, ap, inl, inr, eq-zero-or-pos, arith, ltb-true, ltb-false}
use Rattle.edition.specs.declared.Edition.TheVariants.{Mended}
use Rattle.number.specs.declared.Number.{Number}
use Rattle.number.specs.Number.{zeros, sign, mantissa, short_of, odd, passes_zero_test}
use Rattle.number.specs.OddLaws.{odd_full, odd_ended}
use Rattle.number.proofs.NotOdd.{short_not_odd}
use Rattle.ending.specs.NotOdd.{NotOdd}
use Rattle.addition.specs.Addition.{difference_of}
use Rattle.addition.proofs.NotOdd.{difference_not_odd}
use Rattle.truncation.specs.Truncate.{cleared, truncated_full, truncated}
use Rattle.truncation.specs.TruncateLaws.{taken_never, truncate_full, truncate_not_full}
use Rattle.truncation.specs.BitLaws.{dropped, dropped_lt}
use Rattle.truncation.specs.Int.{short_one, step_down, int_of}

pub truncated_not_odd : (x : Number) → odd x ≡ false → odd (truncated Mended x) ≡ false
unfolding truncated_full
truncated_not_odd x o = go (eq-zero-or-pos x.b1)
  where
    full : 0 < x.b1 → (a b c : Bool) → ltb x.b1 129 ≡ a → ltb x.b1 145 ≡ b
        → odd (cond a zeros (cond b (short_of (sign x) (mantissa x / 2 ^ (160 - x.b1))) (cond c (record { b1 = x.b1; word = cleared (160 - x.b1) x.word }) x))) ≡ false
    full p true b c e f = odd_ended zeros (inl refl)
    full p false true c e f =
        let lo = ltb-false x.b1 129 e in
        let hi = ltb-true x.b1 145 f in
        short_not_odd (sign x) (mantissa x / 2 ^ (160 - x.b1)) (dropped (mantissa x) (160 - x.b1) (omega arith) (omega arith) (omega arith)).some
        (dropped_lt (mantissa x) (160 - x.b1) (omega arith) (omega arith))
    full p false false true e f = odd_full _ (omega arith)
    full p false false false e f = o

    go : (x.b1 ≡ 0) ⊎ (0 < x.b1) → odd (truncated Mended x) ≡ false
    go (inl z) = ap odd (truncate_not_full Mended x z) ∙ o
    go (inr p) = ap odd (truncate_full Mended x p) ∙ simp (taken_never x) (full p (ltb x.b1 129) (ltb x.b1 145) (ltb x.b1 160) refl refl)

pub int_not_odd : (x : Number) → odd x ≡ false → NotOdd (int_of Mended x)
unfolding int_of
int_not_odd x o = go (eqb (sign x) 0) (difference_of Mended x t)
  where
    t : Number
    t = truncated Mended x

    down : (z : Bool) → NotOdd (cond z (Some t) (difference_of Mended t short_one))
    down true = truncated_not_odd x o
    down false = difference_not_odd t short_one

    go : (a : Bool) (d : Answer) → NotOdd (cond a (Some t) (step_down Mended t d))
    go true d = truncated_not_odd x o
    go false (Some d) = down (passes_zero_test d)
    go false None = tt
