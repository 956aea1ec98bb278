-- A2, on slots: every literal keeps them the same but for b5 of a short or odd number.
use Rattle.std.specs.Prelude.{ℕ, ◌<◌, ◌≡◌, refl, List, get_or}
use Rattle.ending.specs.Ending.{Answer}
use Rattle.std.proofs.Common.{sym, ◌∙◌, ap, inl, inr, arith, get_or-take}
use Rattle.edition.specs.declared.Edition.{Edition}
use Rattle.number.specs.declared.Number.{Number}
use Rattle.number.specs.NumberLaws.{upper}
use Rattle.slots.specs.Slots.{number_in, bytes_of}
use Rattle.literals.specs.Literals.{one, two, Row, operation_of}
use Rattle.slots.specs.SlotFacts.{number_back}
use Rattle.demands.specs.Table.{◌and◌, each_row}
use Rattle.demands.specs.Independence.{Answers, done, both_too_big, InBytes, Kept, Carried}
use Rattle.demands.specs.ButB5.{SameFour, Like, OnlyB5, SameButB5, four_of}
use Rattle.demands.specs.ButB5Operations.{KeepsOne, KeepsTwo, malformed_alike, shown_alike, negation_keeps, truncation_keeps, restacking_keeps, division_keeps, multiplication_keeps}
use Rattle.demands.specs.ButB5Sums.{addition_keeps, subtraction_keeps, int_keeps}

first_four : (p p' : List ℕ) → OnlyB5 p p' → SameFour (number_in p 0) (number_in p' 0)
unfolding number_in
first_four p p' o =
    four_of (number_in p 0) (number_in p' 0) (same 0 (omega arith))
    (upper _ _ _ _ o.byte ∙ rw (same 1 (omega arith), same 2 (omega arith), same 3 (omega arith)) (sym (upper _ _ _ _ o.byte')))
  where
    same : (k : ℕ) → k < 4 → get_or p k 0 ≡ get_or p' k 0
    same k h = sym (get_or-take 4 p k 0 h) ∙ ap (λ (q : List ℕ). get_or q k 0) o.four ∙ get_or-take 4 p' k 0 h

number_alike : (p p' : List ℕ) → SameButB5 p p' → Like (number_in p 0) (number_in p' 0)
number_alike p p' (inl e) = inl (ap (λ (q : List ℕ). number_in q 0) e)
number_alike p p' (inr o) = inr (record { four = first_four p p' o; form = o.form })

pub bytes_alike : (n m : Number) → Like n m → SameButB5 (bytes_of n) (bytes_of m)
unfolding bytes_of
bytes_alike n m (inl e) = inl (ap bytes_of e)
bytes_alike n m (inr b) =
    let f = b.four in
    inr (record { four = rw (f.b1_same, f.b2_same, f.b3_same, f.b4_same); form = rw (number_back n) b.form; byte = omega arith; byte' = omega arith })

in_bytes : {v v' : Answer} → Answers Like v v' → Answers (InBytes SameButB5) v v'
in_bytes (done r) = done (bytes_alike _ _ r)
in_bytes both_too_big = both_too_big

kept_one : (f : Edition → Number → Answer) → KeepsOne f → Kept SameButB5 (one f)
kept_one f k ed p p' r = in_bytes (k ed _ _ (number_alike p p' r))

kept_two : (f : Edition → Number → Number → Answer) → KeepsTwo f → Kept SameButB5 (two f)
kept_two f k ed p p' q q' r t = in_bytes (k ed _ _ _ _ (number_alike p p' r) (number_alike q q' t))

pub but_b5_carried : Carried SameButB5
unfolding operation_of
but_b5_carried =
    record {
      same = λ p. inl refl;
      forms = λ ed p p' r. malformed_alike _ _ (number_alike p p' r) ed;
      cells = λ p p' r. shown_alike _ _ (number_alike p p' r);
      operations =
          each_row (λ (r : Row). Kept SameButB5 r.operation) (λ l. tt)
          (tt
          and tt
          and kept_two _ subtraction_keeps
          and kept_two _ multiplication_keeps
          and kept_two _ division_keeps
          and kept_two _ addition_keeps
          and kept_one _ negation_keeps
          and kept_one _ int_keeps
          and tt
          and kept_one _ truncation_keeps
          and kept_one _ restacking_keeps
          and tt);
    }
