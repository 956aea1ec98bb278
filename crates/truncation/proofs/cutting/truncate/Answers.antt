-- `truncate` meets its contract: the tests that led to each `return` are the premises of a case law. The whole part fits sixteen bits, since at
-- least sixteen places are shifted out, and clearing places makes no number larger.
use Rattle.std.proofs.Common.{ap, arith, lt_of_le_of_lt, mod-eq_of_lt, sym, ℕ, ◌%◌, ◌*◌, ◌-◌, ◌/◌, ◌<◌, ◌^◌, ◌∙◌, ◌≡◌}
use Rattle.edition.specs.declared.Edition.TheVariants.{Shipped}
use Rattle.number.specs.Number.{number, short_of}
use Rattle.truncation.specs.Truncate.{cleared}
use Rattle.truncation.specs.TruncateLaws.{taken_not_145, truncate_full, truncate_not_full, truncate_below_one, truncate_to_short, truncate_taken, truncate_cleared, truncate_whole}
use Rattle.truncation.specs.BitLaws.{cleared_le, dropped_lt}
use Rattle.truncation.proofs.cutting.truncate.Goals as goal

clearing_fits : (w k : ℕ) → w < 2 ^ 32 → (w / 2 ^ k * 2 ^ k) % 2 ^ 32 ≡ cleared k w
clearing_fits w k h = mod-eq_of_lt (lt_of_le_of_lt (cleared_le w k) h)

pub returns-then-e-lt-OF_65536 : goal.returns-then-e-lt-OF_65536
returns-then-e-lt-OF_65536 c =
    let x = c.args.x in
    ap (number 0) (c.short_word.ensures ∙ ap (λ (m : ℕ). (short_of (x.word / 2 ^ 31) (m / 2 ^ (160 - x.b1))).word) c.mantissa.ensures)
    ∙ sym (truncate_full Shipped _ (omega arith) ∙ truncate_to_short Shipped _ (omega arith) (omega arith))

pub returns-then-is_taken_65536 : goal.returns-then-is_taken_65536
returns-then-is_taken_65536 c =
    sym (truncate_full Shipped _ (omega arith) ∙ truncate_taken Shipped _ (omega arith) (sym c.is_taken_65536.ensures ∙ c.if-is_taken_65536.true))

pub returns : goal.returns
returns c =
    let x = c.args.x in
    ap (number x.b1) (clearing_fits x.word (160 - x.b1) (omega arith))
    ∙ sym (truncate_full Shipped x (omega arith) ∙ truncate_cleared Shipped x (omega arith) (sym c.is_taken_65536.ensures ∙ c.if-is_taken_65536.false) (omega arith))

pub returns-then-e-eq0 : goal.returns-then-e-eq0
returns-then-e-eq0 c = sym (truncate_not_full Shipped _ (omega arith))

pub returns-then-e-lt-OF_ONE : goal.returns-then-e-lt-OF_ONE
returns-then-e-lt-OF_ONE c = sym (truncate_full Shipped _ (omega arith) ∙ truncate_below_one Shipped _ (omega arith))

pub returns-then-e-ge-OF_WHOLE : goal.returns-then-e-ge-OF_WHOLE
returns-then-e-ge-OF_WHOLE c = sym (truncate_full Shipped _ (omega arith) ∙ truncate_whole Shipped _ (omega arith) (taken_not_145 _ Shipped (omega arith)) (omega arith))

pub overflow_cast-v-then-e-lt-OF_65536 : goal.overflow_cast-v-then-e-lt-OF_65536
overflow_cast-v-then-e-lt-OF_65536 c = record { fits = dropped_lt _ _ (omega arith) (omega arith) }
