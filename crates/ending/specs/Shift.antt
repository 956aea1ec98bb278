-- So many doublings as one shift, by the digits that they take in; that they are one stands in proofs/ShiftLaws.
use Prim.Native.Nat.{ℕ, zero, suc, ◌+◌, ◌*◌, ◌-◌, ◌^◌, ◌/◌, ◌%◌}
use Rattle.ending.specs.Ending.{Loose, loose}

-- the next digits, so many, as the doublings take them in: the first comes to stand highest
unfoldable pub taken_in : ℕ → ℕ → ℕ
taken_in zero digits = 0
taken_in (suc places) digits = digits % 2 * 2 ^ places + taken_in places (digits / 2)

abbrev pub shifted : ℕ → Loose → Loose
shifted z l = loose (l.t * 2 ^ z + taken_in z l.digits) (l.e - z) (l.digits / 2 ^ z)
