-- Whether a record's top is the stack's, by the numbers that the bytes make: five bytes are the same exactly where b1 and the word are.
use Rattle.std.specs.Prelude.{◌≡◌, ℕ, ◌+◌, ◌-◌, ◌/◌, ◌%◌, ◌^◌, ◌<◌, Bool, true, false, not, ◌&&◌, List, length, drop, ◌==◌, ◌≢◌, nat_eq, nat_lt, slice_index, slice_index_or}
use Rattle.std.proofs.Math.Path.{refl, sym}
use Rattle.std.proofs.Common.{◌∙◌, ap, ap₂, arith, length-take, length-drop, get_or-take, get_or-drop, ltb-true, ltb-false, eq-eqb, ne_eqb, eqb-true}
use Rattle.std.proofs.lemmas.Bool.{false≢true, eqb-false}
use Rattle.std.proofs.Math.Bool.{and-eq-true_iff}
use Rattle.std.proofs.Math.ListN.{get_or-eq_default}
use Rattle.number.specs.declared.Number.{Number}
use Rattle.number.specs.Number.{number, b2, b3, b4, b5, swapped_of}
use Rattle.number.specs.NumberLaws.{word_of_lem, swapped_word}
use Rattle.slots.specs.Slots.{slot, bytes_of}
use Rattle.slots.specs.SlotLaws.{bytes_of_slot}
use Rattle.slots.proofs.PushLaws.{alone_bytes}
use Rattle.slots.specs.Reach.{lacking, number_at}
use Rattle.slots.specs.ReachLaws.{has, none_at, number_at_lem}
use Rattle.slots.specs.View.{view_of}
use Rattle.slots.specs.ViewLaws.{view_empty, view_top}
use Rattle.recording.specs.Recording.{literal_in, top_in, same, zeros}
use Rattle.recording.specs.RecordingLaws.{same_by}
use Rattle.replaying.specs.Replay.{top_of, top_differs}

-- the top's bytes: the number's, and zeros where there is none
module _ (s : List ℕ) (d : ℕ) where
  pub top_none : lacking s d 1 ≡ true → top_of s d ≡ zeros 5
  unfolding top_of
  top_none h = rw (view_empty s d h) refl

  module _ (h : lacking s d 1 ≡ false) where
    long : length (view_of s d) ≡ 5
    long = let w = has s d 1 h in ap length (view_top s d h) ∙ simp (length-take, length-drop) (omega (arith, w.0.deep, w.1))

    top_seen : top_of s d ≡ view_of s d
    unfolding top_of
    top_seen = simp (ne_eqb (length (view_of s d)) 0 (omega (arith, long)))

    pub top_slot : top_of s d ≡ slot s (d - 1)
    unfolding slot
    top_slot = top_seen ∙ view_top s d h

  pub top_long : length (top_of s d) ≡ 5
  top_long = go (lacking s d 1) refl
    where
      go : (b : Bool) → lacking s d 1 ≡ b → length (top_of s d) ≡ 5
      go true h = ap length (top_none h)
      go false h = ap length (top_seen h) ∙ long h

  pub top_number : ((k : ℕ) → slice_index s k < 256) → top_of s d ≡ bytes_of (number_at s d 0)
  unfolding bytes_of
  top_number b = go (lacking s d 1) refl
    where
      go : (t : Bool) → lacking s d 1 ≡ t → top_of s d ≡ bytes_of (number_at s d 0)
      go true h = top_none h ∙ rw (none_at s d 0 h) refl
      go false h = let w = has s d 1 h in top_slot h ∙ sym (ap bytes_of (number_at_lem s d 0 h) ∙ bytes_of_slot s (d - 1) (omega (arith, w.0.deep, w.1)) b)

-- five bytes are the same where b1 and the word are
pub same_number : (n m : Number) → (n.b1 == m.b1) && (n.word == m.word) ≡ same (bytes_of n) (bytes_of m)
unfolding bytes_of
same_number n m =
    same_by _
    (λ h. let p = (and-eq-true_iff (n.b1 == m.b1) _).0 h in rw (eqb-true n.b1 m.b1 p.0, eqb-true n.word m.word p.1) refl)
    (λ h.
    let at : (k : ℕ) → slice_index (bytes_of n) k ≡ slice_index_or (bytes_of m) k 0 = λ k. ap (λ (x : List ℕ). slice_index x k) h in
    let is : (b2 n ≡ b2 m) × (b3 n ≡ b3 m) × (b4 n ≡ b4 m) × (b5 n ≡ b5 m) = (at 1, at 2, at 3, at 4) in
    let words : n.word ≡ m.word = sym (word_of_lem n) ∙ rw (is.0, is.1, is.2, is.3) (word_of_lem m) in
    (and-eq-true_iff (n.b1 == m.b1) _).1 (eq-eqb _ _ (at 0), eq-eqb _ _ words))

-- and the words are, where they are the same swapped
swapped_twice : (w : ℕ) → w < 2 ^ 32 → swapped_of (swapped_of w) ≡ w
swapped_twice w h =
    swapped_word (w / 2 ^ 24) (w / 2 ^ 16 % 256) (w / 2 ^ 8 % 256) (w % 256) (omega arith) (omega arith) (omega arith) (omega arith) ∙ word_of_lem (number 0 w)

swapped_same : (u v : ℕ) → u < 2 ^ 32 → v < 2 ^ 32 → (u == v) ≡ (swapped_of u == swapped_of v)
swapped_same u v p q = go (u == v) refl
  where
    go : (t : Bool) → (u == v) ≡ t → t ≡ (swapped_of u == swapped_of v)
    go true e = sym (eq-eqb _ _ (ap swapped_of (eqb-true u v e)))
    go false e = sym (ne_eqb _ _ (λ z. eqb-false u v e (sym (swapped_twice u p) ∙ ap swapped_of z ∙ swapped_twice v q)))

part_bytes : (x : List ℕ) → ((k : ℕ) → slice_index x k < 256) → (k : ℕ) → slice_index (top_in x) k < 256
part_bytes x b k = go (nat_lt k 5) refl
  where
    go : (t : Bool) → nat_lt k 5 ≡ t → slice_index (top_in x) k < 256
    go true h = omega (arith, get_or-take 5 (drop 4 x) k 0 (ltb-true k 5 h), get_or-drop 4 x k 0, b (4 + k))
    go false h = omega (arith, get_or-eq_default (top_in x) 0 {n = k} (omega (arith, ltb-false k 5 h, length-take 5 (drop 4 x))))

-- a record's top, in each case
module _ (x s : List ℕ) (d : ℕ) where
  pub top_of_push : literal_in x ≡ 0 → false ≡ top_differs x s d
  unfolding top_differs
  top_of_push h = simp (eq-eqb _ _ h)

  pub top_of_literal : (literal_in x ≢ 0) → not (same (top_of s d) (top_in x)) ≡ top_differs x s d
  unfolding top_differs
  top_of_literal h = sym (simp (ne_eqb _ _ h))

  module _ {five : List ℕ} (f : five ≡ top_in x) where
    pub top_not_five : (length five ≢ 5) → false ≡ same (top_of s d) (top_in x)
    top_not_five h = same_by false (λ z. absurd (false≢true z)) (λ z. absurd (h (ap length f ∙ sym (ap length z) ∙ top_long s d)))

    module _ (h : length five ≡ 5) (b : (k : ℕ) → slice_index s k < 256) (c : (k : ℕ) → slice_index x k < 256) where
      abbrev n : Number
      n = number_at s d 0

      abbrev m : Number
      m = number_at five 1 0

      by_number : same (top_of s d) (top_in x) ≡ (n.b1 == m.b1) && n.word == m.word
      by_number = ap₂ same (top_number s d b) (sym (alone_bytes five h (rw f (part_bytes x c)) ∙ f)) ∙ sym (same_number n m)

      pub top_b1 : (n.b1 ≢ m.b1) → false ≡ same (top_of s d) (top_in x)
      top_b1 z = sym (by_number ∙ simp (ne_eqb _ _ z))

      pub top_four : n.b1 ≡ m.b1 → (u v : ℕ) → u < 2 ^ 32 → v < 2 ^ 32 → swapped_of u ≡ n.word → swapped_of v ≡ m.word → (u == v) ≡ same (top_of s d) (top_in x)
      top_four z u v p q i j = swapped_same u v p q ∙ ap₂ nat_eq i j ∙ sym (by_number ∙ simp (eq-eqb _ _ z))
