-- `whole` meets its contract: what is cast is the whole number that `double_whole` has.
use Rattle.std.proofs.Common.{Float, SFits, ap, ap₂, arith, neg_ℤ, of_z, pos, refl, suc, sym, to_z, to_z-of_z, w32, zero, ℕ, ℤ, ◌-ℤ◌, ◌/◌, ◌<◌, ◌^◌, ◌∙◌, ◌≡◌}
use lib.Ieee.{binary64, of_int}
use lib.IntN.{+ℤ_idl}
use mir.Facts.{to_z_pos}
use Rattle.number.specs.Value.{signed}
use Rattle.value.specs.Double.{double_whole}
use Rattle.value.proofs.whole.Goals as goal

abbrev signed_double : ℕ → ℕ → Float
signed_double s v = of_int binary64 (signed s v)

minus : (v : ℕ) → v < 2 ^ 16 → pos 0 -ℤ to_z w32 v ≡ neg_ℤ (pos v)
minus v h = ap (λ (z : ℤ). pos 0 -ℤ z) (to_z_pos w32 {n = v} (omega arith)) ∙ +ℤ_idl (neg_ℤ (pos v))

fits : (v : ℕ) → v < 2 ^ 16 → SFits w32 (neg_ℤ (pos v))
fits zero h = record { sfits = omega arith }
fits (suc v) h = record { sfits = omega arith }

pub returns-then-word-lt-TOP_BIT : goal.returns-then-word-lt-TOP_BIT
returns-then-word-lt-TOP_BIT c =
    let plus : c.args.word / 2 ^ 31 ≡ 0 = omega arith in
    ap (of_int binary64) (to_z_pos w32 {n = c.short_magnitude-v.result} (omega arith))
    ∙ sym (double_whole _ (omega arith) refl ∙ ap₂ signed_double plus (sym c.short_magnitude-v.ensures))

pub returns : goal.returns
returns c =
    let less : c.args.word / 2 ^ 31 ≡ 1 = omega arith in
    let v = c.short_magnitude-v.result in
    ap (λ (z : ℤ). of_int binary64 (to_z w32 (of_z w32 z))) (minus v (omega arith))
    ∙ ap (of_int binary64) (to_z-of_z (fits v (omega arith)))
    ∙ sym (double_whole _ (omega arith) refl ∙ ap₂ signed_double less (sym c.short_magnitude-v.ensures))
