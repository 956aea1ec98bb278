-- Int in the mended edition of what the shipped one takes for -65,536. No public contract cites this file.
use Rattle.std.specs.Prelude.{ℕ, ◌+◌, ◌^◌, ◌<◌, ◌≡◌, refl, Bool, true, false, cond, List, eqb, get_or}
use Rattle.std.proofs.Common.{ap, arith, eqb-true}
use Rattle.std.proofs.lemmas.Bool.{false≢true, eqb-false}
use Rattle.edition.specs.declared.Edition.{Edition}
use Rattle.edition.specs.declared.Edition.TheVariants.{Shipped, Mended}
use Rattle.number.specs.declared.Number.{Number}
use Rattle.number.specs.Number.{number}
use Rattle.number.specs.FormLaws.{malformed_full}
use Rattle.number.specs.OddLaws.{odd_full}
use Rattle.truncation.specs.Truncate.{taken65536}
use Rattle.truncation.specs.TruncateLaws.{taken_145}
use Rattle.truncation.specs.Int.{int_of}
use Rattle.truncation.specs.MendedLaws.{int_exact, int_below}
use Rattle.slots.specs.Reach.{lacking, number_at, put_at}
use Rattle.slots.specs.ReachLaws.{none_at, number_bytes}
use Rattle.literals.specs.Literals.{row_of}
use Rattle.literals.specs.Reports.{malformed_in}
use Rattle.literals.specs.Operate.{outcome, operate_of}
use Rattle.literals.proofs.WayLaws.{one_done, one_kept}

-- what the shipped edition takes for -65,536, where the edition has no such test
abbrev pub taken_in : Edition → Number → Bool
taken_in Shipped x = false
taken_in Mended x = taken65536 Shipped x

pub tests : {ed : Edition} (x : Number) → ed ≡ Mended → taken_in ed x ≡ taken65536 Shipped x
tests x e = ap (λ (v : Edition). taken_in v x) e

-- the stack with int of that on top: a part below one is cut off, or none is
unfoldable pub int_top : List ℕ → ℕ → List ℕ
int_top s d = cond (eqb (number_at s d 0).word (2 ^ 31)) s (put_at s d 0 (number 145 (2 ^ 31 + 2 ^ 15)))

pub int_taken : (s : List ℕ) (d : ℕ) → ((j : ℕ) → get_or s j 0 < 256) → (ed : Edition) → taken_in ed (number_at s d 0) ≡ true → operate_of ed s d 39 ≡ (outcome 0 d, int_top s d)
unfolding row_of int_top
int_taken s d b Shipped t = absurd (false≢true t)
int_taken s d b Mended t = go (lacking s d 1) refl (eqb x.word (2 ^ 31)) refl
  where
    x : Number
    x = number_at s d 0

    full : x.b1 ≡ 145
    full = taken_145 x Shipped t

    formed : malformed_in Mended x ≡ false
    formed = simp (malformed_full x (omega (arith, full)), odd_full x (omega (arith, full)))

    go : (a : Bool) → lacking s d 1 ≡ a → (e : Bool) → eqb x.word (2 ^ 31) ≡ e
        → operate_of Mended s d 39 ≡ (outcome 0 d, cond e s (put_at s d 0 (number 145 (2 ^ 31 + 2 ^ 15))))
    go true l e h = absurd (omega (arith, full, ap (λ (n : Number). n.b1) (none_at s d 0 l)))
    go false l true h = one_kept Mended s d 39 int_of refl l b formed (int_exact x (number_bytes s d 0 b) t (eqb-true _ _ h))
    go false l false h = one_done Mended s d 39 int_of refl l _ formed (int_below x (number_bytes s d 0 b) t (eqb-false _ _ h))
