-- What the ending gives is five zero bytes or a full number: never a short one, and never odd.
use Rattle.std.specs.Prelude.{ℕ, ◌+◌, ◌-◌, ◌^◌, ◌≡◌, refl, Bool, true, false, cond, ltb, eqb, Some, None}
use Rattle.std.proofs.Common.{inl, inr, arith, ltb-false}
use Rattle.std.proofs.lemmas.Bool.{eqb-false}
use Rattle.number.specs.Number.{zeros, full_of}
use Rattle.ending.specs.Ending.{Loose, loose, normal, rounded, closed, ended}
use Rattle.ending.specs.Ends.{ZeroOrFull}

pub closed_zero_or_full : (s : ℕ) (l : Loose) → ZeroOrFull (closed s l)
unfolding closed
closed_zero_or_full s l = go (ltb (255 + 256) l.e) (ltb l.e 256) (eqb l.e 256) refl refl
  where
    go : (a b c : Bool) → ltb l.e 256 ≡ b → eqb l.e 256 ≡ c
        → ZeroOrFull (cond a None (cond b (Some zeros) (cond c (Some (full_of s 1 (2 ^ 31))) (Some (full_of s (l.e - 256) (rounded l))))))
    go true b c p q = tt
    go false true c p q = inl refl
    go false false true p q = inr (omega arith)
    go false false false p q = inr (omega (arith, ltb-false l.e 256 p, eqb-false l.e 256 q))

pub ended_zero_or_full : (s t e digits : ℕ) → ZeroOrFull (ended s t e digits)
unfolding ended
ended_zero_or_full s t e digits = go (eqb t 0)
  where
    go : (a : Bool) → ZeroOrFull (cond a (Some zeros) (closed s (normal 31 (loose t e digits))))
    go true = inl refl
    go false = closed_zero_or_full s (normal 31 (loose t e digits))
