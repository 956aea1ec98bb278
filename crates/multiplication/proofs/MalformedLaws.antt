-- The product of two numbers of which one is malformed: there is none.
use Rattle.std.specs.Prelude.{◌≡◌, true, ◌||◌, None}
use Rattle.number.specs.declared.Number.{Number}
use Rattle.number.specs.Number.{malformed}
use Rattle.multiplication.specs.ShortProduct.{Multiplied}

pub multiplied_malformed : (x y : Number) → malformed x || malformed y ≡ true → Multiplied x y None
multiplied_malformed x y h = h
