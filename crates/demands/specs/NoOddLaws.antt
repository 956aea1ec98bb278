-- A3, what no odd slot comes from: what each literal of the mended edition gives, and what a stack holds once a slot is written.
use Rattle.std.specs.Prelude.{ℕ, ◌<◌, ◌≡◌, refl, Bool, true, false, List, eqb}
use Rattle.std.proofs.Common.{arith, eqb-true}
use Rattle.std.proofs.lemmas.Bool.{eqb-false}
use Rattle.edition.specs.declared.Edition.TheVariants.{Mended}
use Rattle.number.specs.declared.Number.{Number}
use Rattle.number.specs.Number.{malformed, odd}
use Rattle.number.proofs.NotOdd.{negated_not_odd, restacked_not_odd}
use Rattle.ending.specs.NotOdd.{NotOdd}
use Rattle.addition.proofs.NotOdd.{sum_not_odd, difference_not_odd}
use Rattle.division.proofs.NotOdd.{quotient_not_odd}
use Rattle.multiplication.specs.NotOdd.{product_not_odd}
use Rattle.truncation.specs.NotOdd.{truncated_not_odd, int_not_odd}
use Rattle.slots.specs.Slots.{slot, number_in}
use Rattle.literals.specs.Literals.{Operation, exchange, delete, duplicate, one, two, unknown, Row, operation_of}
use Rattle.slots.specs.SlotFacts.{same_slot, number_slot}
use Rattle.demands.specs.Table.{◌and◌, each_row}
use Rattle.demands.specs.Bytes.{Only}

-- an operand that report 3 does not refuse
abbrev pub Takes : Number → Type 0
Takes x = (malformed x ≡ false) × (odd x ≡ false)

-- of such operands, an operation gives none that is odd; those without arithmetic move slots, or none
abbrev pub GivesNone : Operation → Type 0
GivesNone (one f) = (x : Number) → Takes x → NotOdd (f Mended x)
GivesNone (two f) = (x y : Number) → Takes x → Takes y → NotOdd (f Mended x y)
GivesNone exchange = Unit
GivesNone delete = Unit
GivesNone duplicate = Unit
GivesNone unknown = Unit

pub gives_none : (l : ℕ) → GivesNone (operation_of l)
unfolding operation_of
gives_none =
    each_row (λ (r : Row). GivesNone r.operation) (λ l. tt)
    (tt
    and tt
    and (λ x y p q. difference_not_odd x y)
    and (λ x y p q. product_not_odd x y)
    and (λ x y p q. quotient_not_odd Mended x y)
    and (λ x y p q. sum_not_odd x y)
    and (λ x p. negated_not_odd x p.0 p.1)
    and (λ x p. int_not_odd x p.1)
    and tt
    and (λ x p. truncated_not_odd x p.1)
    and (λ x p. restacked_not_odd x)
    and tt)

-- ---- the slots

-- the same bytes are the same number
pub from_slot : (s t : List ℕ) (i j : ℕ) → slot t j ≡ slot s i → odd (number_in s i) ≡ false → odd (number_in t j) ≡ false
from_slot s t i j e h = rw (number_slot t j, e, ← number_slot s i) h

-- five bytes in slot i, and the others as they were
pub only_none : (s t : List ℕ) (i : ℕ) (v : List ℕ) → Only s t i v → odd (number_in v 0) ≡ false → (e : ℕ)
    → ((j : ℕ) → j < e → (j ≡ i → ⊥) → odd (number_in s j) ≡ false) → (j : ℕ) → j < e → odd (number_in t j) ≡ false
only_none s t i v p h e rest j l = go (eqb j i) refl
  where
    go : (b : Bool) → eqb j i ≡ b → odd (number_in t j) ≡ false
    go true q = rw (eqb-true j i q, number_slot t i, p.there) h
    go false q =
        let n = eqb-false j i q in
        from_slot s t j j (same_slot t s j p.long (λ k g. p.elsewhere k (λ a b. n (omega arith)))) (rest j l n)
