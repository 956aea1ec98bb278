-- Laws of what is shown of a line.
use Rattle.std.specs.Prelude.{ℕ, ◌+◌, ◌<◌, ◌≡◌, refl, List, [], ◌∷◌, ◌++◌, length, take, get_or}
use Rattle.std.proofs.lemmas.List.{take_more}
use Rattle.text.specs.Put.{Text, puts_of}
use Rattle.text.proofs.Puts.{puts_append}
use Rattle.wording.specs.Wording.{shown_byte, shown_of}

shown_append : (xs ys : List ℕ) → shown_of (xs ++ ys) ≡ shown_of xs ++ shown_of ys
unfolding shown_of
shown_append [] ys = refl
shown_append (x ∷ xs) ys = simp (shown_append xs ys)

-- one byte more of a list
pub shown_take : (t : Text) (bs : List ℕ) (i : ℕ) → i < length bs
    → puts_of t (shown_of (take (i + 1) bs)) ≡ puts_of (puts_of t (shown_of (take i bs))) (shown_byte (get_or bs i 0) ∷ [])
unfolding shown_of
shown_take t bs i h =
    rw (take_more bs i 0 h, shown_append (take i bs) (get_or bs i 0 ∷ []))
    (puts_append t (shown_of (take i bs)) (shown_byte (get_or bs i 0) ∷ []))
