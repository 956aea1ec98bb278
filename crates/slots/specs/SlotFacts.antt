-- What a slot is read as, what putting five bytes into it changes, byte by byte, and what that leaves. Byte k is in slot k / 5.
use Rattle.std.specs.Prelude.{◌≡◌, ℕ, ◌+◌, ◌-◌, ◌*◌, ◌/◌, ◌%◌, ◌<◌, ◌≤◌, min, List, ◌++◌, length, take, drop, ◌≢◌, slice_index}
use Rattle.std.proofs.Math.Path.{refl, ap₂}
use Rattle.std.proofs.Common.{sym, ◌∙◌, ap, add-zero, arith, length-take, length-drop, length-append, drop_at, get_or-take, get_or-drop, ext_get_or, get_or-set_other}
use mathlib.Core.List.{append_assoc}
use Rattle.std.proofs.Math.Seq.{take_at, length-take-le}
use Rattle.number.specs.declared.Number.{Number}
use Rattle.number.specs.NumberLaws.{word_of_lem}
use Rattle.slots.specs.Slots.{slot, number_in, bytes_of, put_slot, put_in}
use Rattle.slots.specs.SlotLaws.{five_stores, five_of_lem, length_put_slot}

slot_length : (s : List ℕ) (i : ℕ) → length (slot s i) ≡ min 5 (length s - 5 * i)
unfolding slot
slot_length s i = simp (length-take, length-drop)

pub slot_byte : (s : List ℕ) (i k : ℕ) → k < 5 → slice_index (slot s i) k ≡ slice_index s (5 * i + k)
unfolding slot
slot_byte s i k h = get_or-take 5 (drop (5 * i) s) k 0 h ∙ get_or-drop (5 * i) s k 0

pub byte_in_slot : (s : List ℕ) (k : ℕ) → slice_index s k ≡ slice_index (slot s (k / 5)) (k % 5)
byte_in_slot s k = ap (λ (j : ℕ). slice_index s j) (omega arith) ∙ sym (slot_byte s (k / 5) (k % 5) (omega arith))

-- two stacks of one length with the same bytes there have the same slot
pub same_slot : (s s' : List ℕ) (i : ℕ) → length s ≡ length s' → ((k : ℕ) → k / 5 ≡ i → slice_index s k ≡ slice_index s' k) → slot s i ≡ slot s' i
same_slot s s' i l e =
    ext_get_or 0 (slot s i) (slot s' i) (omega (arith, slot_length s i, slot_length s' i)) (λ k h.
    let g : k < 5 = omega (arith, slot_length s i) in
    slot_byte s i k g ∙ e (5 * i + k) (omega arith) ∙ sym (slot_byte s' i k g))

-- a number is read from the five bytes of its slot alone
pub number_slot : (s : List ℕ) (i : ℕ) → number_in s i ≡ number_in (slot s i) 0
unfolding number_in
number_slot s i =
    rw (
      slot_byte s i 0 (omega arith),
      slot_byte s i 1 (omega arith),
      slot_byte s i 2 (omega arith),
      slot_byte s i 3 (omega arith),
      slot_byte s i 4 (omega arith),
      add-zero (5 * i),
    )

-- a number is read back from its five bytes
pub number_back : (n : Number) → number_in (bytes_of n) 0 ≡ n
unfolding number_in bytes_of
number_back n = ap (λ (w : ℕ). record { b1 = n.b1; word = w }) (word_of_lem n)

pub number_there : (s : List ℕ) (i : ℕ) (n : Number) → slot s i ≡ bytes_of n → number_in s i ≡ n
number_there s i n e = number_slot s i ∙ ap (λ (five : List ℕ). number_in five 0) e ∙ number_back n

module _ (s : List ℕ) (i : ℕ) (h : 5 * i + 5 ≤ length s) where
  pub length_slot : length (slot s i) ≡ 5
  length_slot = omega (arith, slot_length s i)

  module _ (five : List ℕ) (f : length five ≡ 5) where
    from_slot : drop (5 * i) (put_slot s i five) ≡ five ++ drop (5 * i + 5) s
    unfolding put_slot
    from_slot = rw append_assoc (drop_at (take (5 * i) s) (five ++ drop (5 * i + 5) s) (5 * i) (length-take-le (5 * i) s (omega arith)))

    -- the slot holds the five bytes
    pub put_slot_lem : slot (put_slot s i five) i ≡ five
    unfolding slot
    put_slot_lem = rw from_slot (take_at five (drop (5 * i + 5) s) 5 f)

    -- every byte outside the slot is as it was
    pub put_elsewhere : (k : ℕ) → (5 * i ≤ k → k < 5 * i + 5 → ⊥) → slice_index (put_slot s i five) k ≡ slice_index s k
    put_elsewhere k o =
        let n0 : k ≡ 5 * i → ⊥ = λ e. o (omega arith) (omega arith) in
        let n1 : k ≡ 5 * i + 1 → ⊥ = λ e. o (omega arith) (omega arith) in
        let n2 : k ≡ 5 * i + 2 → ⊥ = λ e. o (omega arith) (omega arith) in
        let n3 : k ≡ 5 * i + 3 → ⊥ = λ e. o (omega arith) (omega arith) in
        let n4 : k ≡ 5 * i + 4 → ⊥ = λ e. o (omega arith) (omega arith) in
        rw (← five_of_lem five f, ← five_stores s i h _ _ _ _ _) (simp get_or-set_other)

    -- so is every other slot
    pub put_other : (j : ℕ) → (j ≢ i) → slot (put_slot s i five) j ≡ slot s j
    put_other j n = same_slot (put_slot s i five) s j (length_put_slot s i h five f) (λ k e. put_elsewhere k (λ p q. n (omega arith)))

    -- and what is put there next stands alone
    pub put_again : (other : List ℕ) → put_slot (put_slot s i five) i other ≡ put_slot s i other
    unfolding put_slot
    put_again other =
        let a = take (5 * i) s in
        let b = drop (5 * i + 5) s in
        let n = length-take-le (5 * i) s (omega arith) in
        ap₂ (λ (p q : List ℕ). p ++ other ++ q)
        (ap (take (5 * i)) (append_assoc a five b) ∙ take_at a (five ++ b) (5 * i) n)
        (drop_at (a ++ five) b (5 * i + 5) (length-append a five ∙ omega arith))

-- a number that was put is read, and another takes its place
module _ (s : List ℕ) (i : ℕ) (h : 5 * i + 5 ≤ length s) (n : Number) where
  pub number_put : number_in (put_in s i n) i ≡ n
  unfolding bytes_of
  number_put = number_there (put_in s i n) i n (put_slot_lem s i h (bytes_of n) refl)

  pub number_again : (m : Number) → put_in (put_in s i n) i m ≡ put_in s i m
  unfolding bytes_of
  number_again m = put_again s i h (bytes_of n) refl (bytes_of m)

  pub length_put : length (put_in s i n) ≡ length s
  unfolding bytes_of
  length_put = length_put_slot s i h (bytes_of n) refl
