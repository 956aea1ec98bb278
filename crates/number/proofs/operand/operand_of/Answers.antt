-- `operand_of` meets its contract: each way out is a law of what the number stands for.
use Rattle.std.proofs.Common.{ap, arith, refl, sym, ℕ, ◌%◌, ◌*◌, ◌-◌, ◌<◌, ◌^◌, ◌∙◌, ◌≡◌}
use lib.Count.{count_leading_zeros}
use Rattle.number.specs.Number.{number, full_of}
use Rattle.number.specs.LeadingZeros.{zeros_are, zeros_below}
use Rattle.number.proofs.RestackLaws.{restack_zero}
use Rattle.number.proofs.OperandLaws.{short_stands}
use Rattle.number.proofs.operand.operand_of.Goals as goal
use Rattle.number.proofs.operand.operand_of.Goals.{After-leading_zeros-places}

-- what is known of the number of zeros
counted : (c : After-leading_zeros-places) → (let v = c.in_ok-short.short.v in (c.leading_zeros-places.result ≡ count_leading_zeros 32 v) × (c.leading_zeros-places.result < 32))
counted c = (zeros_are _ _ (omega arith) c.leading_zeros-places.ensures, zeros_below _ _ (omega arith) c.leading_zeros-places.ensures c.if-short-eq0.false)

pub returns-then-short-eq0 : goal.returns-then-short-eq0
returns-then-short-eq0 c w i j =
    let m = c.in_ok-short.ensures.0 w i j in
    record { form = m.form; stands = sym (restack_zero (number 0 w) refl (sym m.away ∙ c.if-short-eq0.true)); byte = omega arith; none = λ e. refl }

pub returns : goal.returns
returns c w i j =
    let m = c.in_ok-short.ensures.0 w i j in
    let v = c.in_ok-short.short.v in
    let z = c.leading_zeros-places.result in
    record {
      form = m.form;
      stands = ap (λ (s : ℕ). full_of s (160 - z) (v * 2 ^ z % 2 ^ 32)) m.signs ∙ short_stands _ v z m.away c.if-short-eq0.false (counted c.before).0;
      byte = omega arith;
      none = λ e. absurd (omega (arith, (counted c.before).1));
    }

pub overflow_shl-result : goal.overflow_shl-result
overflow_shl-result c = (counted c.before).1

pub overflow_sub-result : goal.overflow_sub-result
overflow_sub-result c = omega (arith, (counted c.before).1)
