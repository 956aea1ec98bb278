-- `floor_of` meets its contract: the tests that led to each `return` are the premises of a law of `int_of`. Clearing places makes no number larger,
-- and a bit at most 2^31 is set by a shift that loses nothing.
use Rattle.std.proofs.Common.{ap, ap₂, arith, false, lt_of_le_of_lt, mod-eq_of_lt, one-mul, pow_mono, shl_exact, sym, ℕ, ◌%◌, ◌*◌, ◌+◌, ◌-◌, ◌/◌, ◌<◌, ◌^◌, ◌∙◌, ◌≡◌, ◌≤◌}
use Rattle.std.specs.Prelude.{Some}
use Rattle.edition.specs.declared.Edition.TheVariants.{Shipped}
use Rattle.number.specs.declared.Number.{Number}
use Rattle.number.specs.Number.{number, mantissa, full_of}
use Rattle.truncation.specs.Truncate.{taken65536, cleared}
use Rattle.truncation.specs.BitLaws.{cleared_le}
use Rattle.truncation.specs.FloorLaws.{int_taken}
use Rattle.truncation.specs.StepLaws.{int_same, int_up, int_up_carried}
use Rattle.truncation.proofs.whole.floor_of.Goals as goal
use Rattle.truncation.proofs.whole.floor_of.Goals.{After-mantissa-m}

clearing : (m k : ℕ) → m < 2 ^ 32 → (m / 2 ^ k * 2 ^ k) % 2 ^ 64 ≡ cleared k m
clearing m k h = mod-eq_of_lt (lt_of_le_of_lt (cleared_le m k) (omega arith))

bit : (k : ℕ) → k ≤ 31 → ((1 * 2 ^ k) % 2 ^ 64 ≡ 2 ^ k) × (2 ^ k ≤ 2 ^ 31)
bit k h = (shl_exact {a = 1} 1 k 64 (omega arith) (omega arith) ∙ one-mul (2 ^ k), pow_mono {i = k} {j = 31} h)

abbrev x : After-mantissa-m → Number
x c = c.args.x

abbrev places : After-mantissa-m → ℕ
places c = 160 - (x c).b1

other : (c : After-mantissa-m) → taken65536 Shipped (x c) ≡ false
other c = sym c.is_taken_65536.ensures ∙ c.if-is_taken_65536.false

cut : (c : After-mantissa-m) → (c.mantissa-m.result / 2 ^ places c * 2 ^ places c) % 2 ^ 64 ≡ cleared (places c) (mantissa (x c))
cut c = ap (λ (m : ℕ). (m / 2 ^ places c * 2 ^ places c) % 2 ^ 64) c.mantissa-m.ensures ∙ clearing (mantissa (x c)) (places c) (omega arith)

raised : (c : After-mantissa-m) → places c ≤ 31
    → (c.mantissa-m.result / 2 ^ places c * 2 ^ places c) % 2 ^ 64 + (1 * 2 ^ places c) % 2 ^ 64 ≡ cleared (places c) (mantissa (x c)) + 2 ^ places c
raised c h = ap₂ ◌+◌ (cut c) (bit (places c) h).0

pub returns-then-is_taken_65536 : goal.returns-then-is_taken_65536
returns-then-is_taken_65536 c =
    int_taken Shipped _ (omega arith) (omega arith) (omega arith) (sym c.is_taken_65536.ensures ∙ c.if-is_taken_65536.true)

pub returns-then-cut-m : goal.returns-then-cut-m
returns-then-cut-m c =
    let d = c.before in
    int_same Shipped (x d) (omega arith) (omega arith) (omega arith) (omega arith) (other d) (sym (cut d) ∙ c.if-cut-m.true ∙ c.mantissa-m.ensures)

pub returns-then-more-lt-CARRY : goal.returns-then-more-lt-CARRY
returns-then-more-lt-CARRY c =
    let d = c.before.before.before in
    let r = raised d (omega arith) in
    int_up Shipped (x d) (omega arith) (omega arith) (omega arith) (omega arith) (other d) (λ e. c.if-cut-m.false (cut d ∙ e ∙ sym c.mantissa-m.ensures)) (omega arith)
    ∙ ap (λ (w : ℕ). Some (number (x d).b1 w)) (sym (c.full_word.ensures ∙ ap (λ (m : ℕ). (full_of 1 0 m).word) r))

pub returns : goal.returns
returns c =
    let d = c.before.before.before in
    let r = raised d (omega arith) in
    let less = cleared_le (mantissa (x d)) (places d) in
    int_up_carried Shipped (x d) (omega arith) (omega arith) (omega arith) (omega arith) (other d) (λ e. c.if-cut-m.false (cut d ∙ e ∙ sym c.mantissa-m.ensures))
    (omega arith) (omega (arith, (bit (places d) (omega arith)).1))
    ∙ ap (λ (w : ℕ). Some (number ((x d).b1 + 1) w)) (sym (c.full_word-2.ensures ∙ ap (λ (m : ℕ). (full_of 1 0 (m / 2)).word) r))
