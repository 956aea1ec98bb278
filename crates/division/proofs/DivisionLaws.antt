-- Division's laws: the 33 digits as one division, what the ending makes of them, and a law for each way through the definition.
use Rattle.std.specs.Prelude.{◌≡◌, refl, Bool, true, false, ℕ, zero, suc, ◌+◌, ◌*◌, ◌-◌, ◌^◌, ◌/◌, ◌%◌, ◌≤◌, ◌<◌, ltb, Some, None}
use Rattle.std.proofs.Common.{sym, ◌∙◌, ap, ap₂, arith}
use borrow.Author.Tests.{eq-eqb, ne_eqb, ltb-true, ltb-false}
use Rattle.std.specs.Int.Bits.{bit_xor}
use Rattle.std.proofs.lemmas.Nat.{xor_shr}
use Rattle.edition.specs.declared.Edition.{Edition}
use Rattle.number.specs.declared.Number.{Number}
use Rattle.number.specs.Number.{zeros, sign, mantissa}
use Rattle.ending.specs.Ending.{Loose, loose, doubled, normal, rounded, closed}
use Rattle.ending.proofs.EndingLaws.{normal_set, normal_again, closed_rounded, ended_set, ended_once}
use Rattle.division.specs.Rounds.{Mantissas, rounds33, digit34}
use Rattle.division.specs.RoundsLaws.{Writes, quotient_law, writes_div, writes_mod, writes_at_least, writes_below, digit34_lt}
use Rattle.division.specs.Division.{ended_rounds, full_quotient, restacked_quotient}
use Rattle.division.specs.Operand.{IsFull}
use Rattle.division.specs.DivisionLaws.{last}

-- The 33 digits are the whole quotient of m * 2^32 by n: the quotient law at 32 later rounds.
module _ (m n : ℕ) (are : Mantissas m n) where
  abbrev Q : ℕ
  Q = (rounds33 m n).digits

  pub rounds33_write : Writes n (m * 2 ^ 32) (rounds33 m n)
  rounds33_write = quotient_law m n 32 (omega arith)

  pub rounds33_div : m * 2 ^ 32 / n ≡ Q
  rounds33_div = writes_div rounds33_write

  pub rounds33_mod : m * 2 ^ 32 % n ≡ (rounds33 m n).left
  rounds33_mod = writes_mod rounds33_write

  -- one doubling at most sets the top bit of the first 32
  pub rounds33_low : 2 ^ 31 ≤ Q
  rounds33_low = writes_at_least rounds33_write (2 ^ 31) (omega arith)

  -- the digits are never all ones
  pub rounds33_below : Q < 2 ^ 33 - 1
  rounds33_below = writes_below rounds33_write (2 ^ 33 - 1) (omega arith)

  -- M below N needs a doubling, and then the first 32 after it are not all ones either
  pub rounds33_doubled : m < n → Q < 2 ^ 32 - 1
  rounds33_doubled h = writes_below rounds33_write (2 ^ 32 - 1) (omega arith)

  pub rounds33_above : n ≤ m → 2 ^ 32 ≤ Q
  rounds33_above h = writes_at_least rounds33_write (2 ^ 32) (omega arith)

  module _ (ed : Edition) where
    abbrev digits : ℕ
    digits = Q % 2 + 2 * ((last m n are) ed)

    module _ (s e : ℕ) where
      -- a quotient below 2^32 takes one doubling, which takes in digit 33; the 34th rounds it
      pub ended_doubled : Q < 2 ^ 32 → ended_rounds ed s e n (rounds33 m n) ≡ closed s (loose Q (e - 1) ((last m n are) ed))
      ended_doubled h =
          let low = rounds33_low in
          ended_once s (Q / 2) e digits (omega arith) (omega arith)
          ∙ ap₂ (λ (t d : ℕ). closed s (loose t (e - 1) d)) (omega arith) (omega arith)

      -- any other takes none, and digit 33 rounds it
      pub ended_whole_lem : 2 ^ 32 ≤ Q → ended_rounds ed s e n (rounds33 m n) ≡ closed s (loose (Q / 2) e (Q % 2))
      ended_whole_lem h =
          let one : digits % 2 ≡ Q % 2 % 2 = omega arith in
          ended_set s (Q / 2) e digits (omega arith)
          ∙ sym (closed_rounded s (loose (Q / 2) e digits))
          ∙ ap (λ (d : ℕ). closed s (loose (Q / 2 + d) e 0)) one
          ∙ closed_rounded s (loose (Q / 2) e (Q % 2))

    -- "this never reaches 2^32 here", in division
    pub quotient_rounded_below : (e : ℕ) → rounded (normal 31 (loose (Q / 2) e digits)) < 2 ^ 32
    quotient_rounded_below e = go (ltb m n) refl
      where
        l : Loose
        l = loose (Q / 2) e digits

        go : (b : Bool) → ltb m n ≡ b → rounded (normal 31 l) < 2 ^ 32
        go true h =
            let low = rounds33_low in
            let below = rounds33_doubled (ltb-true m n h) in
            let next : l.t < 2 ^ 31 = omega arith in
            rw (normal_again 31 l (omega arith) next, normal_set (31 - 1) (doubled l) (omega arith)) (omega arith)
        go false h =
            let above = rounds33_above (ltb-false m n h) in
            let below = rounds33_below in
            rw (normal_set 31 l (omega arith)) (omega arith)

-- of re-stacked numbers, a law a way through
module _ (ed : Edition) (x y : Number) where
  pub quotient_by_zero : y.b1 ≡ 0 → restacked_quotient ed x y ≡ None
  unfolding restacked_quotient
  quotient_by_zero h = simp (eq-eqb _ _ h)

  pub quotient_of_zero : (y.b1 ≡ 0 → ⊥) → x.b1 ≡ 0 → restacked_quotient ed x y ≡ Some zeros
  unfolding restacked_quotient
  quotient_of_zero h g = simp (ne_eqb _ _ h, eq-eqb _ _ g)

  pub quotient_full : IsFull x → IsFull y → restacked_quotient ed x y ≡ full_quotient ed x y
  unfolding restacked_quotient
  quotient_full f g = simp (ne_eqb y.b1 0 (omega arith), ne_eqb x.b1 0 (omega arith))

-- Of two full numbers, where q is the 33 digits: with one doubling, and with none.
module _ (ed : Edition) (x y : Number) (f : IsFull x) (g : IsFull y) {q : ℕ} (h : q ≡ (rounds33 (mantissa x) (mantissa y)).digits) where
  abbrev s : ℕ
  s = (sign x + sign y) % 2

  abbrev e : ℕ
  e = x.b1 + 129 + 256 - y.b1

  quotient_ended : restacked_quotient ed x y ≡ ended_rounds ed s e (mantissa y) (rounds33 (mantissa x) (mantissa y))
  unfolding full_quotient
  quotient_ended = quotient_full ed x y f g

  -- the rounding digit after a doubling
  abbrev next : ℕ
  next = digit34 ed (mantissa y) (rounds33 (mantissa x) (mantissa y))

  -- both at once: w is 1 where there is no doubling, and 0 where there is one
  pub quotient_closed : (w : ℕ) → w ≡ q / 2 ^ 32 → q < 2 ^ 33
      → restacked_quotient ed x y ≡ closed s (loose ((q + w) / 2 ^ w) (x.b1 + 128 + 256 - y.b1 + w) (next / 2 ^ w))
  quotient_closed zero i l =
      let below : q < 2 ^ 32 = omega (arith, i) in
      let one : next / 2 ^ 0 ≡ next = omega arith in
      quotient_ended
      ∙ ended_doubled _ _ (omega arith) ed _ _ (omega arith)
      ∙ ap₂ (λ (t k : ℕ). closed s (loose t k next)) (omega arith) (omega arith)
      ∙ ap (λ (d : ℕ). closed s (loose ((q + 0) / 2 ^ 0) (x.b1 + 128 + 256 - y.b1 + 0) d)) (sym one)
  quotient_closed (suc zero) i l =
      let above : 2 ^ 32 ≤ q = omega (arith, i) in
      let none : 0 ≡ next / 2 ^ 1 = omega (arith, digit34_lt (mantissa y) (rounds33 (mantissa x) (mantissa y)) ed) in
      quotient_ended
      ∙ ended_whole_lem _ _ (omega arith) ed _ _ (omega arith)
      ∙ sym (closed_rounded s (loose ((rounds33 (mantissa x) (mantissa y)).digits / 2) e ((rounds33 (mantissa x) (mantissa y)).digits % 2)))
      ∙ ap₂ (λ (t k : ℕ). closed s (loose t k 0)) (omega arith) (omega arith)
      ∙ ap (λ (d : ℕ). closed s (loose ((q + 1) / 2 ^ 1) (x.b1 + 128 + 256 - y.b1 + 1) d)) none
  quotient_closed (suc (suc w)) i l = absurd (omega (arith, i))

-- whether the signs on top of two words differ
pub signs_differ : (s t : ℕ) → s < 2 ^ 32 → t < 2 ^ 32 → bit_xor s t / 2 ^ 31 ≡ (s / 2 ^ 31 + t / 2 ^ 31) % 2
signs_differ s t h g = xor_shr s t 31 ∙ go (s / 2 ^ 31) (t / 2 ^ 31) (omega arith) (omega arith)
  where
    go : (a b : ℕ) → a < 2 → b < 2 → bit_xor a b ≡ (a + b) % 2
    go zero zero i j = refl
    go zero (suc zero) i j = refl
    go (suc zero) zero i j = refl
    go (suc zero) (suc zero) i j = refl
    go (suc (suc a)) b i j = absurd (omega arith)
    go zero (suc (suc b)) i j = absurd (omega arith)
    go (suc zero) (suc (suc b)) i j = absurd (omega arith)

-- and it fits 32 bits
pub quotient_fits : (q : ℕ) → q < 2 ^ 33 - 1 → (q + q / 2 ^ 32) / 2 ^ (q / 2 ^ 32) < 2 ^ 32
quotient_fits q h = go (q / 2 ^ 32) refl
  where
    go : (w : ℕ) → q / 2 ^ 32 ≡ w → (q + w) / 2 ^ w < 2 ^ 32
    go zero e = omega (arith, e)
    go (suc zero) e = omega (arith, e)
    go (suc (suc w)) e = absurd (omega (arith, e))
