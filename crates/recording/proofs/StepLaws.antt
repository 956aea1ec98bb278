-- The test of a recording, a record or several at a time from a place on; and the top of a record that is too short.
use Rattle.std.specs.Prelude.{◌≡◌, ℕ, ◌+◌, ◌-◌, ◌*◌, ◌/◌, ◌≤◌, ◌<◌, Bool, true, false, ◌||◌, List, [], ◌∷◌, ltb, length, take, drop, get_or}
use Rattle.std.proofs.Math.Path.{refl, sym, ap}
use Rattle.std.proofs.Math.Bool.{or-false}
use Rattle.std.proofs.Common.{◌∙◌, ap₂, arith, length-take, length-drop, drop_of_length-le, drop-drop, get_or-drop, get_or-take, take_all}
use Rattle.recording.specs.Recording.{top_in, rest_in, first, stray}
use Rattle.recording.proofs.ScanLaws.{rest_of_bytes, stray_one_by, stray_split}

-- bytes 9 to 15 of a record that is whole
module _ (r : List ℕ) (at : ℕ) (h : at + 16 ≤ length r) where
  abbrev here : List ℕ
  here = first (drop at r)

  long : length here ≡ 16
  long = simp (length-take, length-drop) (omega arith)

  byte_in : (k : ℕ) → k < 16 → get_or here k 0 ≡ get_or r (at + k) 0
  byte_in k g = get_or-take 16 (drop at r) k 0 g ∙ get_or-drop at r k 0

  abbrev b : ℕ → ℕ
  b k = get_or r (at + k) 0

  rest_is : rest_in here ≡ b 9 ∷ b 10 ∷ b 11 ∷ b 12 ∷ b 13 ∷ b 14 ∷ b 15 ∷ []
  rest_is =
      rest_of_bytes here long
      ∙ rw (
        byte_in 9 (omega arith),
        byte_in 10 (omega arith),
        byte_in 11 (omega arith),
        byte_in 12 (omega arith),
        byte_in 13 (omega arith),
        byte_in 14 (omega arith),
        byte_in 15 (omega arith),
      ) refl

  -- with byte 8 below them they make a number, which is a byte exactly where they are zero
  pub stray_by : b 8 < 256 → (j : ℕ)
      → j ≡ b 8 + 256 * b 9 + 65536 * b 10 + 16777216 * b 11 + 4294967296 * b 12 + 1099511627776 * b 13 + 281474976710656 * b 14 + 72057594037927936 * b 15
      → ltb 255 j ≡ stray 1 (drop at r)
  unfolding stray
  stray_by l j e =
      let same : (k : ℕ) → k < 16 → get_or here k 0 ≡ b k = byte_in in
      let number : j ≡ get_or here 8 0 + 256 * get_or here 9 0 + 65536 * get_or here 10 0 + 16777216 * get_or here 11 0 + 4294967296 * get_or here 12 0 + 1099511627776 * get_or here 13 0
      + 281474976710656 * get_or here 14 0 + 72057594037927936 * get_or here 15 0 =
      rw (same 8 (omega arith), same 9 (omega arith), same 10 (omega arith), same 11 (omega arith), same 12 (omega arith), same 13 (omega arith), same 14 (omega arith), same 15 (omega arith)) e in
      stray_one_by here long (omega (arith, l, byte_in 8 (omega arith))) j number ∙ sym (or-false _)

-- the test of the records that are left from a place on
abbrev pub left : List ℕ → ℕ → Bool
left r at = stray ((length r - at) / 16) (drop at r)

-- they are tested m at a time
module _ (r : List ℕ) (at m : ℕ) where
  pub more_stray : (n : ℕ) {a b : Bool} → a ≡ stray m (drop at r) → b ≡ stray n (drop (at + 16 * m) r) → a || b ≡ stray (m + n) (drop at r)
  more_stray n p q = ap₂ ◌||◌ p (q ∙ ap (stray n) (sym (drop-drop (16 * m) at r))) ∙ sym (stray_split m n (drop at r))

  module _ (k : at + 16 * m ≤ length r) where
    split : left r at ≡ stray m (drop at r) || left r (at + 16 * m)
    split =
        let e : (length r - at) / 16 ≡ m + (length r - (at + 16 * m)) / 16 = omega arith in
        ap (λ (n : ℕ). stray n (drop at r)) e ∙ sym (more_stray _ refl refl)

    pub found_stray : true ≡ stray m (drop at r) → true ≡ left r at
    found_stray h = sym (split ∙ simp (sym h))

    pub next_stray : false ≡ stray m (drop at r) → left r at ≡ left r (at + 16 * m)
    next_stray h = split ∙ simp (sym h)

pub none_stray : (r : List ℕ) (at : ℕ) → length r ≤ at → false ≡ left r at
unfolding stray
none_stray r at h = let e : (length r - at) / 16 ≡ 0 = omega arith in rw e refl

-- the top of a record that is too short is what there is of it
module _ (x : List ℕ) where
  pub top_part : length x ≤ 9 → take (length x - 4) (drop 4 x) ≡ top_in x
  top_part h = take_all (length x - 4) (drop 4 x) (omega (arith, length-drop 4 x)) ∙ sym (take_all 5 (drop 4 x) (omega (arith, length-drop 4 x)))

  pub top_none : length x ≤ 4 → [] ≡ top_in x
  top_none h = rw (drop_of_length-le x h) refl
