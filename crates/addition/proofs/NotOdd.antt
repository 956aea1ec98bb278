-- No sum and no difference of the mended edition is odd.
use Rattle.std.proofs.Math.Path.{subst⁻¹}
use Rattle.std.specs.Prelude.{Some, None}
use Rattle.ending.specs.Ending.{Answer}
use Rattle.edition.specs.declared.Edition.TheVariants.{Shipped, Mended}
use Rattle.number.specs.declared.Number.{Number}
use Rattle.ending.specs.NotOdd.{NotOdd}
use Rattle.addition.specs.Addition.{sum_of, difference_of}
use Rattle.addition.specs.MendedLaws.{mended_answer}
use Rattle.addition.proofs.MendedLaws.{mended_never, sum_mended, difference_mended}

mended_not_odd : (a : Answer) → NotOdd (mended_answer a)
mended_not_odd (Some n) = mended_never n
mended_not_odd None = tt

pub sum_not_odd : (x y : Number) → NotOdd (sum_of Mended x y)
sum_not_odd x y = subst⁻¹ NotOdd (sum_mended x y) (mended_not_odd (sum_of Shipped x y))

pub difference_not_odd : (x y : Number) → NotOdd (difference_of Mended x y)
difference_not_odd x y = subst⁻¹ NotOdd (difference_mended x y) (mended_not_odd (difference_of Shipped x y))
