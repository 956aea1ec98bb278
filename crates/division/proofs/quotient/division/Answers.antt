-- `division` meets its contract: each return is a law of `restacked_quotient`. Where neither number is zero, the laws close with the digits of the 33
-- rounds.
use Rattle.std.proofs.Common.{ap₂, arith, refl, sym, ℕ, ◌%◌, ◌+◌, ◌-◌, ◌/◌, ◌^◌, ◌∙◌, ◌≡◌}
use Rattle.number.specs.Number.{sign, mantissa, full_of}
use Rattle.ending.specs.Ending.{loose, closed}
use Rattle.division.specs.Rounds.{rounds33, digit34}
use Rattle.division.specs.Operand.{IsFull}
use Rattle.division.proofs.DivisionLaws.{quotient_by_zero, quotient_of_zero, quotient_closed, signs_differ}
use Rattle.division.proofs.quotient.division.Goals as goal

pub returns : goal.returns
returns c =
    let i = c.args in
    let x = full_of (i.s / 2 ^ 31) (i.e % 256) i.m in
    let y = full_of (i.t / 2 ^ 31) (i.f % 256) i.n in
    let q = c.digits-q.result in
    let w = q / 2 ^ 32 in
    let sx : i.s / 2 ^ 31 ≡ sign x = omega arith in
    let sy : i.t / 2 ^ 31 ≡ sign y = omega arith in
    let mx : i.m % 2 ^ 31 + 2 ^ 31 ≡ mantissa x = omega arith in
    let my : i.n % 2 ^ 31 + 2 ^ 31 ≡ mantissa y = omega arith in
    let fx : IsFull x = record { bytes = record { b1_below = omega arith; word_below = omega arith }; first = omega arith } in
    let fy : IsFull y = record { bytes = record { b1_below = omega arith; word_below = omega arith }; first = omega arith } in
    c.close.ensures
    ∙ ap₂ (λ (k z : ℕ). closed k (loose ((q + w) / 2 ^ w) (i.e % 256 + 128 + 256 - i.f % 256 + w) (z / 2 ^ w)))
    (signs_differ i.s i.t (omega arith) (omega arith) ∙ ap₂ (λ (a b : ℕ). (a + b) % 2) sx sy)
    (c.next_digit.ensures.0 ∙ ap₂ (λ (a b : ℕ). digit34 i.edition b (rounds33 a b)) mx my)
    ∙ sym (quotient_closed i.edition x y fx fy (c.digits-q.ensures.0 ∙ ap₂ (λ (a b : ℕ). (rounds33 a b).digits) mx my) w refl (omega arith))

pub returns-then-second-eq0 : goal.returns-then-second-eq0
returns-then-second-eq0 c = sym (quotient_by_zero _ _ _ c.if-second-eq0.true)

pub returns-then-first-eq0 : goal.returns-then-first-eq0
returns-then-first-eq0 c = sym (quotient_of_zero _ _ _ c.if-second-eq0.false c.if-first-eq0.true)
