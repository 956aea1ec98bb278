-- No quotient is odd, in either edition.
use Rattle.std.specs.Prelude.{refl, Bool, true, false, cond, eqb, Some, None}
use Rattle.std.proofs.Common.{inl}
use Rattle.edition.specs.declared.Edition.{Edition}
use Rattle.number.specs.declared.Number.{Number}
use Rattle.number.specs.Number.{zeros}
use Rattle.number.specs.OddLaws.{odd_ended}
use Rattle.number.specs.Restack.{restacked}
use Rattle.ending.proofs.EndsLaws.{ended_zero_or_full}
use Rattle.ending.specs.NotOdd.{NotOdd, ended_not_odd}
use Rattle.division.specs.Division.{full_quotient, restacked_quotient, quotient_of}

full_not_odd : (ed : Edition) (x y : Number) → NotOdd (full_quotient ed x y)
unfolding full_quotient
full_not_odd ed x y = ended_not_odd (full_quotient ed x y) (ended_zero_or_full _ _ _ _)

pub quotient_not_odd : (ed : Edition) (x y : Number) → NotOdd (quotient_of ed x y)
unfolding quotient_of restacked_quotient
quotient_not_odd ed x y = go (eqb (restacked y).b1 0) (eqb (restacked x).b1 0)
  where
    go : (a b : Bool) → NotOdd (cond a None (cond b (Some zeros) (full_quotient ed (restacked x) (restacked y))))
    go true b = tt
    go false true = odd_ended zeros (inl refl)
    go false false = full_not_odd ed (restacked x) (restacked y)
