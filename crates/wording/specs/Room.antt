-- How long what is said may be.
use Rattle.std.specs.Prelude.{ℕ, ◌≤◌, ◌≡◌, Bool, true, false, cond, List, [], ◌∷◌, ◌++◌, eqb, length, take}
use Rattle.std.proofs.Common.{arith, length-append, length-take}
use Rattle.text.specs.Ascii.{ascii}
use Rattle.text.specs.Digits.{decimal_of, each_of, digits_length, each_length}
use Rattle.sheet.specs.declared.meaning.Fault.{Fault}
use Rattle.sheet.specs.declared.meaning.Fault.TheVariants.{LongLine, BareNumber, BadPush, BadLiteral, BadEdition, NoStep}
use Rattle.wording.specs.Wording.{top_of, step_answer, fault_of, shown_of, place_of}

top_length : (bs : List ℕ) → length bs ≤ 5 → length (top_of bs) ≤ 15
unfolding top_of
top_length bs h = go (eqb (length bs) 0)
  where
    go : (t : Bool) → length (cond t (ascii " -") (each_of (32 ∷ []) bs)) ≤ 15
    go true = omega arith
    go false = omega (arith, each_length (32 ∷ []) bs)

pub step_room : (report depth : ℕ) (top : List ℕ) → length top ≤ 5 → length (step_answer report depth top) ≤ 64
step_room report depth top h =
    let a = decimal_of report in
    let b = a ++ (32 ∷ []) in
    let c = b ++ decimal_of depth in
    let d = c ++ top_of top in
    omega (
      arith,
      length-append a (32 ∷ []),
      length-append b (decimal_of depth),
      length-append c (top_of top),
      length-append d (10 ∷ []),
      digits_length 19 report,
      digits_length 19 depth,
      top_length top h,
    )

shown_length : (bs : List ℕ) → length (shown_of bs) ≡ length bs
unfolding shown_of
shown_length [] = omega arith
shown_length (b ∷ bs) = let rest = shown_length bs in omega arith

pub fault_length : (f : Fault) → length (fault_of f) ≤ 100
unfolding fault_of
fault_length LongLine = omega arith
fault_length BareNumber = omega arith
fault_length BadPush = omega arith
fault_length BadLiteral = omega arith
fault_length BadEdition = omega arith
fault_length NoStep = omega arith

pub place_length : (first : List ℕ) (number : ℕ) (text : List ℕ) → length first ≤ 16 → length (place_of first number text) ≤ 100
place_length first number text h =
    let a = first ++ decimal_of number in
    let b = a ++ ascii ": " in
    let c = b ++ shown_of (take 60 text) in
    omega (
      arith,
      length-append first (decimal_of number),
      length-append a (ascii ": "),
      length-append b (shown_of (take 60 text)),
      length-append c (ascii ": "),
      digits_length 19 number,
      shown_length (take 60 text),
      length-take 60 text,
    )
