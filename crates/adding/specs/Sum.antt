-- Literals 15 and 3 by one code: which route a sum takes. No public contract cites this file.
use Rattle.std.specs.Prelude.{◌≡◌, ℕ, ◌<◌, Bool, true, false, not, ◌⊎◌, ◌==◌, ◌≢◌, refl}
use Rattle.ending.specs.Ending.{Answer}
use Rattle.std.proofs.Common.{sym, ◌∙◌, ap, subst₂, inl, inr, eq-zero-or-pos, arith}
use Rattle.edition.specs.declared.Edition.{Edition}
use Rattle.edition.specs.declared.Edition.TheVariants.{Shipped}
use Rattle.number.specs.declared.Number.{Number}
use Rattle.number.specs.Number.{number}
use Rattle.number.proofs.NegateLaws.{negate_full}
use Rattle.addition.specs.declared.short.Short.{Short}
use Rattle.addition.specs.declared.short.Short.TheVariants.{Beyond}
use Rattle.addition.specs.Addition.{full_route, sum_of, difference_of, second_of}
use Rattle.addition.proofs.ShortRouteLaws.{first_full, second_full}
use Rattle.addition.specs.SignBytes.{Says}
use Rattle.literals.specs.Literals.{two, row, row_of}

-- whether what is added to a word flips its sign, as for a difference
abbrev pub flips : ℕ → Bool
flips f = not (f == 0)

abbrev pub literal_of : Bool → ℕ
literal_of true = 3
literal_of false = 15

abbrev pub total_of : Bool → Edition → Number → Number → Answer
total_of less ed x y = sum_of ed x (second_of less y)

pub sum_line : (less : Bool) → row_of (literal_of less) ≡ row (literal_of less) (two (total_of less)) 2 1
unfolding row_of difference_of
sum_line true = refl
sum_line false = refl

-- ---- which route

pub goes_first : (less : Bool) (x y : Number) → (x.b1 ≢ 0) → Says less x y Beyond
unfolding Says
goes_first less x y h = first_full Shipped x (second_of less y) h

pub goes_second : (less : Bool) (x y : Number) → (y.b1 ≢ 0) → Says less x y Beyond
unfolding Says
goes_second less x y h = go (eq-zero-or-pos x.b1)
  where
    kept : (b : Bool) → (second_of b y).b1 ≡ y.b1
    kept true = ap (λ (n : Number). n.b1) (negate_full y h)
    kept false = refl

    go : (x.b1 ≡ 0) ⊎ (0 < x.b1) → sum_of Shipped x (second_of less y) ≡ full_route x (second_of less y)
    go (inl f) = second_full Shipped x (second_of less y) f (λ e. h (sym (kept less) ∙ e))
    go (inr f) = first_full Shipped x (second_of less y) (omega arith)

-- what is said of two words holds of the numbers whose b1 is 0
pub says_short : (less : Bool) (x y : Number) (r : Short) → x.b1 ≡ 0 → y.b1 ≡ 0 → Says less (number 0 x.word) (number 0 y.word) r → Says less x y r
says_short less x y r f g = subst₂ (λ (a b : ℕ). Says less (number a x.word) (number b y.word) r) (sym f) (sym g)
