-- The short route by its sign bytes, which settle the seventeenth bit as in the listing: what it answers. That the code's bytes come to it stands in proofs/SignBytesLaws.
use Rattle.std.specs.Prelude.{◌≡◌, ℕ, ◌-◌, ◌*◌, ◌/◌, ◌%◌, ◌^◌, ◌<◌, Bool, true, false, cond, ◌||◌, nat_lt, Some}
use Rattle.edition.specs.declared.Edition.TheVariants.{Shipped}
use Rattle.number.specs.declared.Number.{Number}
use Rattle.number.specs.Number.{number, malformed, sign, low, halves, stored_over}
use Rattle.addition.specs.declared.short.Short.{Short}
use Rattle.addition.specs.declared.short.Short.TheVariants.{Malformed, Stored, Exact, Beyond}
use Rattle.addition.specs.declared.short.Halves.{Halves}
use Rattle.addition.specs.Addition.{full_route, sum_of, second_of}

-- what the short route's answer says of two numbers; one that is full goes the full route too
unfoldable pub Says : Bool → Number → Number → Short → Type 0
Says less x y Malformed = malformed x || malformed y ≡ true
Says less x y (Stored b h) = (malformed x || malformed y ≡ false) × (sum_of Shipped x (second_of less y) ≡ Some (stored_over x (halves b h)))
Says less x y (Exact w) = (malformed x || malformed y ≡ false) × (sum_of Shipped x (second_of less y) ≡ Some (number 145 w))
Says less x y Beyond = sum_of Shipped x (second_of less y) ≡ full_route x (second_of less y)

-- The word of a sum of seventeen digits, by what its sign bytes make, 1 or 254, and its low half. The sign stands in place of the first digit, and the others are the
-- low half's, or those of what it is less than 65,536.
abbrev pub seventeen_of : ℕ → ℕ → ℕ
seventeen_of k w = cond (nat_lt k 128) (w * 2 ^ 15) ((2 ^ 32 - w * 2 ^ 15) % 2 ^ 32)

-- neither of two words is malformed
pub record Formed (x y : ℕ) : Type 0 where
  pub both : malformed (number 0 x) || malformed (number 0 y) ≡ false
  pub first : x / 2 ^ 24 ≡ 255 * (x / 2 ^ 31)
  pub second : y / 2 ^ 24 ≡ 255 * (y / 2 ^ 31)

pub record Split (n : Number) (h : Halves) : Type 0 where
  pub first : n.b1 ≡ 0
  pub bytes : h.byte ≡ 255 * sign n
  pub sign_below : sign n < 2
  pub lows : low n ≡ h.low
