-- Odd among a literal's operands, where the edition minds, and -65,536 in the place of an odd answer.
use Rattle.std.specs.Prelude.{ℕ, ◌+◌, ◌-◌, ◌*◌, ◌≤◌, ◌≡◌, refl, Bool, true, false, cond, ◌||◌, List, length}
use Rattle.std.proofs.Common.{sym, ◌∙◌, ap, arith}
use Rattle.std.proofs.lemmas.Bool.{false≢true}
use Rattle.edition.specs.declared.Edition.{Edition}
use Rattle.edition.specs.declared.Edition.TheVariants.{Shipped, Mended}
use Rattle.number.specs.declared.Number.{Number}
use Rattle.number.specs.Number.{zeros, odd}
use Rattle.number.specs.OddLaws.{odd_positive}
use Rattle.addition.specs.Addition.{minus65536}
use Rattle.addition.specs.MendedLaws.{mended}
use Rattle.slots.specs.Slots.{number_in, put_in}
use Rattle.slots.specs.SlotFacts.{number_put, number_again, length_put}
use Rattle.slots.specs.Reach.{lacking, number_at, put_at}
use Rattle.slots.specs.ReachLaws.{has, enough, none_at, number_at_lem, put_there, lacking_same}

-- an odd number, where the edition minds
abbrev pub odd_in : Edition → Number → Bool
odd_in Shipped x = false
odd_in Mended x = odd x

pub minds : {ed : Edition} (x : Number) → ed ≡ Mended → odd_in ed x ≡ odd x
minds x e = ap (λ (v : Edition). odd_in v x) e

-- among the two on top, where there are two
unfoldable pub odd_pair : Edition → List ℕ → ℕ → Bool
odd_pair ed s d = cond (lacking s d 2) false (odd_in ed (number_at s d 1) || odd_in ed (number_at s d 0))

-- the stack with -65,536 on top where odd stands there
abbrev pub mended_top : Edition → List ℕ → ℕ → List ℕ
mended_top Shipped s d = s
mended_top Mended s d = cond (odd (number_at s d 0)) (put_at s d 0 minus65536) s

-- where odd is on top, there is a top
pub odd_there : (s : List ℕ) (d k : ℕ) → odd (number_at s d k) ≡ true → lacking s d (k + 1) ≡ false
odd_there s d k o = go (lacking s d (k + 1)) refl
  where
    go : (b : Bool) → lacking s d (k + 1) ≡ b → lacking s d (k + 1) ≡ false
    go true l = absurd (false≢true (sym (odd_positive zeros refl (omega arith)) ∙ sym (ap odd (none_at s d k l)) ∙ o))
    go false l = l

-- a number put with k above it, which are taken away: what stands on top is mended
module _ (s : List ℕ) (d k : ℕ) (a : lacking s d (k + 1) ≡ false) (n : Number) where
  abbrev i : ℕ
  i = d - (k + 1)

  fits : 5 * i + 5 ≤ length s
  fits = let h = has s d (k + 1) a in omega (arith, h.0.deep, h.1)

  left : lacking (put_in s i n) (d - k) 1 ≡ false
  left =
      let h = has s d (k + 1) a in
      lacking_same s (put_in s i n) (d - k) 1 (length_put s i fits n)
      ∙ enough s (d - k) 1 (record { short = h.0.short; deep = omega (arith, h.0.deep) }) (omega (arith, h.1))

  slot_is : d - k - 1 ≡ i
  slot_is = omega (arith, (has s d (k + 1) a).1)

  top_is : number_at (put_in s i n) (d - k) 0 ≡ n
  top_is = number_at_lem (put_in s i n) (d - k) 0 left ∙ ap (number_in (put_in s i n)) slot_is ∙ number_put s i fits n

  pub mended_put : mended_top Mended (put_at s d k n) (d - k) ≡ put_at s d k (mended n)
  mended_put = ap (λ (t : List ℕ). mended_top Mended t (d - k)) (put_there s d k n a) ∙ go (odd n) (ap odd top_is) ∙ sym (put_there s d k (mended n) a)
    where
      go : (b : Bool) → odd (number_at (put_in s i n) (d - k) 0) ≡ b → mended_top Mended (put_in s i n) (d - k) ≡ put_in s i (cond b minus65536 n)
      go true e =
          simp e (put_there (put_in s i n) (d - k) 0 minus65536 left ∙ ap (λ (j : ℕ). put_in (put_in s i n) j minus65536) slot_is ∙ number_again s i fits n minus65536)
      go false e = simp e
