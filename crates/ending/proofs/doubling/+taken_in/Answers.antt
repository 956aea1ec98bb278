-- `taken_in` meets its contract: it has the shape of `taken_in`, and the measure is the places left.
use Rattle.std.proofs.Common.{arith, pow_mono, shl_exact, sym, ℕ, ◌%◌, ◌*◌, ◌+◌, ◌-◌, ◌/◌, ◌<◌, ◌^◌, ◌≡◌, ◌≤◌}
use Rattle.ending.specs.Shift.{taken_in}
use Rattle.ending.proofs.ShiftLaws.{taken_in_none, taken_in_all, taken_in_next, taken_in_below}
use Rattle.ending.proofs.doubling.+taken_in.Goals as goal

-- the next digit in its place, and those behind it: no more than 32 bits hold
next : (z digits r : ℕ) → (z ≡ 0 → ⊥) → z ≤ 32 → r ≡ taken_in (z - 1) (digits / 2)
    → (digits % 2 * 2 ^ (z - 1) % 2 ^ 32 + r ≡ taken_in z digits) × (taken_in z digits < 2 ^ 32)
next z digits r n h e =
    let whole = shl_exact {a = digits % 2} 1 (z - 1) 32 (omega arith) (omega arith) in (
      omega (arith, whole, taken_in_next z digits n),
      omega (arith, taken_in_below z digits, pow_mono {i = z} {j = 32} h),
    )

pub returns-then-digits-eq0 : goal.returns-then-digits-eq0
returns-then-digits-eq0 t c = sym (taken_in_none _ _ (omega arith))

pub returns-then-places-eq0 : goal.returns-then-places-eq0
returns-then-places-eq0 t c = sym (taken_in_all _ _ (omega arith))

pub overflow_add-result : goal.overflow_add-result
overflow_add-result t c = let i = c.args in omega (arith, next i.places i.digits _ c.if-places-eq0.false (omega arith) c.taken_in.ensures)

pub returns : goal.returns
returns t c = let i = c.args in (next i.places i.digits _ c.if-places-eq0.false (omega arith) c.taken_in.ensures).0
