-- `ending` meets its contract: a T with its top bit set is closed as it stands, a zero T and an e below 0 are laws of `ended`, and otherwise it is shifted by
-- its leading zeros (`ended_shifted`).
use Rattle.std.proofs.Common.{ap, arith, sym, ℕ, ◌%◌, ◌*◌, ◌+◌, ◌-◌, ◌/◌, ◌<◌, ◌^◌, ◌∙◌, ◌≡◌}
use Rattle.number.specs.LeadingZeros.{zeros_below}
use Rattle.ending.specs.Ending.{loose, closed}
use Rattle.ending.proofs.EndingLaws.{ended_zero, ended_set, ended_below}
use Rattle.ending.specs.Shift.{taken_in}
use Rattle.ending.proofs.ShiftLaws.{ended_shifted, shift_fits}
use Rattle.ending.proofs.doubling.ending.Goals as goal
use Rattle.ending.proofs.doubling.ending.Goals.{After-leading_zeros-places, After-taken_in}

-- T is not zero: 31 places at most
z_below : (c : After-leading_zeros-places) → c.leading_zeros-places.result < 32
z_below c = zeros_below c.args.t _ (omega arith) c.leading_zeros-places.ensures c.if-t-eq0.false

-- what is shifted has room for what is taken in
fits : (c : After-taken_in) → (let i = c.args in let z = c.leading_zeros-places.result in
    (i.t * 2 ^ z % 2 ^ 32 + c.taken_in.result ≡ i.t * 2 ^ z + taken_in z i.digits) × (i.t * 2 ^ z + taken_in z i.digits < 2 ^ 32))
fits c = shift_fits _ _ _ _ (omega arith) c.if-t-eq0.false c.leading_zeros-places.ensures c.taken_in.ensures

pub returns-then-t-ge-TOP_BIT : goal.returns-then-t-ge-TOP_BIT
returns-then-t-ge-TOP_BIT c = c.close.ensures ∙ sym (ended_set _ _ _ _ (omega arith))

pub returns-then-t-eq0 : goal.returns-then-t-eq0
returns-then-t-eq0 c = sym (ended_zero _ _ _ _ (omega arith))

pub returns-then-e-lt-BIAS : goal.returns-then-e-lt-BIAS
returns-then-e-lt-BIAS c = sym (ended_below _ _ _ _ (omega arith))

pub overflow_cast-fall : goal.overflow_cast-fall
overflow_cast-fall c = omega (arith, z_below c)

pub overflow_shl-t : goal.overflow_shl-t
overflow_shl-t = z_below

pub taken_in-requires : goal.taken_in-requires
taken_in-requires c = omega (arith, z_below c)

pub overflow_add-t : goal.overflow_add-t
overflow_add-t c = omega (arith, fits c)

pub overflow_sub-e : goal.overflow_sub-e
overflow_sub-e c = omega (arith, z_below c.before)

pub overflow_shr-digits : goal.overflow_shr-digits
overflow_shr-digits c = omega (arith, z_below c.before)

pub returns : goal.returns
returns c =
    let i = c.args in
    let z = c.leading_zeros-places.result in
    c.close-2.ensures
    ∙ ap (λ (m : ℕ). closed i.sign (loose m (i.e - z) (i.digits / 2 ^ z))) (fits c.before).0
    ∙ sym (ended_shifted i.sign i.t i.e i.digits z (omega arith) c.if-t-eq0.false c.leading_zeros-places.ensures)
