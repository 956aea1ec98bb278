-- `short_floor` meets its contract: a law of `int_of` for each sign.
use Rattle.std.proofs.Common.{ap, ap₂, arith, cond, eqb, eq-eqb, eq-zero-or-pos, inl, inr, ne_eqb, sym, ℕ, ◌*◌, ◌-◌, ◌/◌, ◌<◌, ◌^◌, ◌∙◌, ◌≡◌, ◌⊎◌}
use Rattle.std.specs.Prelude.{Some}
use Rattle.edition.specs.declared.Edition.TheVariants.{Shipped}
use Rattle.number.specs.declared.Number.{Number}
use Rattle.number.specs.Number.{number, sign, mantissa, halves, short_of}
use Rattle.truncation.specs.TruncateLaws.{truncate_full, truncate_to_short}
use Rattle.truncation.specs.BitLaws.{dropped_lt}
use Rattle.truncation.specs.Int.{int_of}
use Rattle.truncation.specs.IntLaws.{int_positive}
use Rattle.truncation.specs.FloorLaws.{short_below}
use Rattle.truncation.proofs.whole.short_floor.Goals as goal
use Rattle.truncation.proofs.whole.short_floor.Goals.{Start}

pub returns : goal.returns
returns c = go (eq-zero-or-pos (sign x))
  where
    i : Start
    i = c.before.before.before

    x : Number
    x = number i.args.e i.args.word

    m : ℕ
    m = mantissa x

    k : ℕ
    k = 160 - x.b1

    -- what is put, by its sign byte and low half
    put : (b h : ℕ) → 255 * sign x ≡ b → c.flipped.result ≡ h → Some (halves b h) ≡ Some (number 0 c.halves_word.result)
    put b h e f = ap (λ (n : ℕ). Some (number 0 n)) (sym (c.halves_word.ensures ∙ ap₂ (λ (y z : ℕ). (halves y z).word) e f))

    flipped : c.flipped.result ≡ cond (eqb (sign x) 0) ((m - sign x) / 2 ^ k) (65535 - (m - sign x) / 2 ^ k)
    flipped = c.flipped.ensures ∙ ap (λ (r : ℕ). cond (eqb (sign x) 0) ((r - sign x) / 2 ^ k) (65535 - (r - sign x) / 2 ^ k)) c.mantissa.ensures

    go : (sign x ≡ 0) ⊎ (0 < sign x) → int_of Shipped x ≡ Some (number 0 c.halves_word.result)
    go (inl z) =
        int_positive Shipped x z
        ∙ ap Some (truncate_full Shipped x (omega (arith, i.requires)) ∙ truncate_to_short Shipped x i.requires.0 i.requires.1 ∙ ap (λ (s : ℕ). short_of s (m / 2 ^ k)) z)
        ∙ put 0 (m / 2 ^ k) (omega arith) (flipped ∙ simp (eq-eqb (sign x) 0 z) (ap (λ (n : ℕ). n / 2 ^ k) {x = m - sign x} {y = m} (omega arith)))
    go (inr p) =
        let one : sign x ≡ 1 = omega (arith, p) in
        short_below x (omega arith) one (omega (arith, i.requires)) i.requires.0 i.requires.1
        ∙ put 255 (65535 - (m - 1) / 2 ^ k) (omega arith) (flipped ∙ simp (ne_eqb (sign x) 0 (omega arith)) (ap (λ (n : ℕ). 65535 - (m - n) / 2 ^ k) one))

pub overflow_cast-q-2 : goal.overflow_cast-q-2
overflow_cast-q-2 c = record { fits = dropped_lt _ _ (omega arith) (omega arith) }
