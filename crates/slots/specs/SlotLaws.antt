-- Laws of slots: five stores are a put_slot, and a slot is its five bytes.
use Rattle.std.specs.Prelude.{◌≡◌, ℕ, suc, ◌+◌, ◌*◌, ◌/◌, ◌%◌, ◌^◌, ◌<◌, ◌≤◌, List, [], ◌∷◌, ◌++◌, length, take, drop, set, slice_index, slice_index_or, slice_set}
use Rattle.std.proofs.Math.Path.{refl, sym, ap}
use Rattle.std.proofs.Common.{◌∙◌, ap₂, append_assoc, length-append, length-drop, take_all}
use native.Mathlib.Omega.{arith}
use Rattle.std.proofs.Math.Numerals.{towards_suc, add_five}
use Rattle.std.proofs.Math.ListN.{take-append-drop, length-take}
use Rattle.std.proofs.lemmas.List.{set-get_or, set_comm}
use Rattle.std.proofs.lemmas.List.Edits.{sets-eq}
use Rattle.std.proofs.Math.Seq.{get_or-set_other, drop-cons, drop-drop}
use Rattle.number.specs.declared.Number.{Number}
use Rattle.number.specs.Number.{b2, low, word_of, swapped_of, bytes, halves, stored_over}
use Rattle.number.specs.NumberLaws.{word_bytes, swapped_word, over_halves}
use Rattle.slots.specs.Slots.{slot, number_in, bytes_of, put_slot, put_in}

-- b2 to b5 of slot i with the low byte first, as the machine holds a word, read and written
abbrev pub four_in : List ℕ → ℕ → ℕ
four_in s i = word_of (slice_index s (5 * i + 4)) (slice_index s (5 * i + 3)) (slice_index s (5 * i + 2)) (slice_index s (5 * i + 1))

abbrev pub put_four : List ℕ → ℕ → ℕ → List ℕ
put_four s i f = slice_set (slice_set (slice_set (slice_set s (5 * i + 1) (f % 256)) (5 * i + 2) (f / 2 ^ 8 % 256)) (5 * i + 3) (f / 2 ^ 16 % 256)) (5 * i + 4) (f / 2 ^ 24)

pub four_word : (s : List ℕ) (i : ℕ) → ((k : ℕ) → slice_index s k < 256) → swapped_of (four_in s i) ≡ (number_in s i).word
unfolding number_in
four_word s i b = swapped_word _ _ _ _ (b (5 * i + 1)) (b (5 * i + 2)) (b (5 * i + 3)) (b (5 * i + 4))

-- what a short number goes by
pub parts_in : (s : List ℕ) (i : ℕ) → ((k : ℕ) → slice_index s k < 256)
    → (b2 (number_in s i) ≡ slice_index s (5 * i + 1)) × (low (number_in s i) ≡ 256 * slice_index s (5 * i + 3) + slice_index s (5 * i + 2))
unfolding number_in
parts_in s i b =
    let are = word_bytes _ _ _ _ (b (5 * i + 2)) (b (5 * i + 3)) (b (5 * i + 4)) in
    (are.0, ap₂ (λ (c d : ℕ). 256 * d + c) are.1 are.2)

-- five bytes are read: the slot
abbrev pub five_at : List ℕ → ℕ → List ℕ
five_at s at = slice_index s at ∷ slice_index s (at + 1) ∷ slice_index s (at + 2) ∷ slice_index s (at + 3) ∷ slice_index s (at + 4) ∷ []

module _ (s : List ℕ) (i : ℕ) (h : 5 * i + 5 ≤ length s) where
  pub five_stores : (a b c d e : ℕ)
      → slice_set (slice_set (slice_set (slice_set (slice_set s (5 * i) a) (5 * i + 1) b) (5 * i + 2) c) (5 * i + 3) d) (5 * i + 4) e ≡ put_slot s i (a ∷ b ∷ c ∷ d ∷ e ∷ [])
  unfolding put_slot
  five_stores a b c d e = simp towards_suc (sets-eq (a ∷ b ∷ c ∷ d ∷ e ∷ []) s (5 * i) h ∙ simp add_five)

  -- with the first byte stored last
  pub first_last : (a b c d e : ℕ)
      → slice_set (slice_set (slice_set (slice_set (slice_set s (5 * i + 1) b) (5 * i + 2) c) (5 * i + 3) d) (5 * i + 4) e) (5 * i) a ≡ put_slot s i (a ∷ b ∷ c ∷ d ∷ e ∷ [])
  first_last a b c d e =
      let two = set s (5 * i + 1) b in
      let three = set two (5 * i + 2) c in
      let four = set three (5 * i + 3) d in
      set_comm four (5 * i + 4) (5 * i) e a (λ h. omega arith)
      ∙ ap (λ (t : List ℕ). set t (5 * i + 4) e)
      (set_comm three (5 * i + 3) (5 * i) d a (λ h. omega arith)
      ∙ ap (λ (t : List ℕ). set t (5 * i + 3) d)
      (set_comm two (5 * i + 2) (5 * i) c a (λ h. omega arith) ∙ ap (λ (t : List ℕ). set t (5 * i + 2) c) (set_comm s (5 * i + 1) (5 * i) b a (λ h. omega arith))))
      ∙ five_stores a b c d e

  -- a number, its word swapped
  swapped_bytes : (n : Number) → n.word < 2 ^ 32 → (let f = swapped_of n.word in n.b1 ∷ f % 256 ∷ f / 2 ^ 8 % 256 ∷ f / 2 ^ 16 % 256 ∷ f / 2 ^ 24 ∷ [] ≡ bytes_of n)
  unfolding bytes_of
  swapped_bytes n h =
      let w = n.word in
      let are = word_bytes (w % 256) (w / 2 ^ 8 % 256) (w / 2 ^ 16 % 256) (w / 2 ^ 24) (omega arith) (omega arith) (omega arith) in
      rw (are.0, are.1, are.2, are.3) refl

  pub put_swapped : (n : Number) → n.word < 2 ^ 32 → slice_set (put_four s i (swapped_of n.word)) (5 * i) n.b1 ≡ put_in s i n
  put_swapped n h = first_last n.b1 _ _ _ _ ∙ ap (put_slot s i) (swapped_bytes n h)

  -- a short number's sign byte and low half, with the first byte and the last left as they are
  pub put_halves : ((k : ℕ) → slice_index s k < 256) → (b h : ℕ) → h < 2 ^ 16
      → slice_set (slice_set (slice_set s (5 * i + 1) b) (5 * i + 2) (h % 256)) (5 * i + 3) (h / 256) ≡ put_in s i (stored_over (number_in s i) (halves b h))
  unfolding number_in bytes_of
  put_halves k b h q =
      let at = 5 * i in
      let x = number_in s i in
      let first = slice_index_or s at 0 in
      let last = slice_index_or s (at + 4) 0 in
      let t = set (slice_set (slice_set s (at + 1) b) (at + 2) (h % 256)) (at + 3) (h / 256) in
      let n1 : at + 4 ≡ at + 1 → ⊥ = λ e. omega arith in
      let n2 : at + 4 ≡ at + 2 → ⊥ = λ e. omega arith in
      let n3 : at + 4 ≡ at + 3 → ⊥ = λ e. omega arith in
      let kept : slice_index_or t (at + 4) 0 ≡ last = simp get_or-set_other in
      let own = (word_bytes _ _ _ _ (k (at + 2)) (k (at + 3)) (k (at + 4))).3 in
      let are = word_bytes b (h % 256) (h / 256) last (omega arith) (omega arith) (k (at + 4)) in
      sym (set-get_or t (at + 4) 0)
      ∙ ap (λ (v : ℕ). set t (at + 4) v) kept
      ∙ ap (λ (u : List ℕ). set (slice_set (slice_set (slice_set u (at + 1) b) (at + 2) (h % 256)) (at + 3) (h / 256)) (at + 4) last) (sym (set-get_or s at 0))
      ∙ five_stores first b (h % 256) (h / 256) last
      ∙ ap (put_slot s i) (sym (ap bytes_of (over_halves x b h q ∙ ap (bytes first b (h % 256) (h / 256)) own) ∙ rw (are.0, are.1, are.2, are.3) refl))

  pub slot_five : slot s i ≡ five_at s (5 * i)
  unfolding slot
  slot_five =
      simp towards_suc
      (rw (
        drop-cons s (5 * i) 0 (omega arith),
        drop-cons s (suc (5 * i)) 0 (omega arith),
        drop-cons s (suc (suc (5 * i))) 0 (omega arith),
        drop-cons s (suc (suc (suc (5 * i)))) 0 (omega arith),
        drop-cons s (suc (suc (suc (suc (5 * i))))) 0 (omega arith),
      ))

  -- a slot with its own bytes put into it
  slot_kept : put_slot s i (slot s i) ≡ s
  unfolding put_slot slot
  slot_kept =
      rw (append_assoc, ← drop-drop 5 (5 * i) s)
      (ap (λ (r : List ℕ). take (5 * i) s ++ r) (take-append-drop 5 (drop (5 * i) s)) ∙ take-append-drop (5 * i) s)

  -- a number's bytes are those of the slot that it is read from
  pub bytes_of_slot : ((k : ℕ) → slice_index s k < 256) → bytes_of (number_in s i) ≡ slot s i
  unfolding number_in bytes_of
  bytes_of_slot b =
      let at = 5 * i in
      let are = word_bytes (slice_index s (at + 1)) _ _ _ (b (at + 2)) (b (at + 3)) (b (at + 4)) in
      rw (are.0, are.1, are.2, are.3) refl ∙ sym slot_five

  -- so putting it there again changes nothing
  pub number_kept : ((k : ℕ) → slice_index s k < 256) → put_in s i (number_in s i) ≡ s
  number_kept b = ap (put_slot s i) (bytes_of_slot b) ∙ slot_kept

  pub length_put_slot : (five : List ℕ) → length five ≡ 5 → length (put_slot s i five) ≡ length s
  unfolding put_slot
  length_put_slot five f = simp (length-append, length-take, length-drop) (omega arith)

-- five bytes are all of a list of five
pub five_of_lem : (p : List ℕ) → length p ≡ 5 → five_at p 0 ≡ p
unfolding slot
five_of_lem p h = sym (slot_five p 0 (omega arith)) ∙ take_all 5 p (omega arith)
