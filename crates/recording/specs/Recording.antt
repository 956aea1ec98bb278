-- Document 02, A5: "A recording is records of 16 bytes, no header: byte 0 the literal (0 for push), 1 the report, 2 and 3 the depth after, low first,
-- 4 to 8 the top slot after (for a push, the pushed bytes, not compared; zeros at depth 0), 9 to 15 zero."
use Rattle.std.specs.Prelude.{ℕ, zero, suc, ◌+◌, ◌*◌, ◌/◌, ◌%◌, Bool, true, false, not, ◌&&◌, ◌||◌, List, [], ◌∷◌, eqb, ltb, length, get_or, take, drop}

-- the fields of a record
abbrev pub literal_in : List ℕ → ℕ
literal_in x = get_or x 0 0

abbrev pub report_in : List ℕ → ℕ
report_in x = get_or x 1 0

abbrev pub depth_in : List ℕ → ℕ
depth_in x = get_or x 2 0 + 256 * get_or x 3 0

abbrev pub top_in : List ℕ → List ℕ
top_in x = take 5 (drop 4 x)

abbrev pub rest_in : List ℕ → List ℕ
rest_in x = take 7 (drop 9 x)

-- the first record of a recording, those after it, and how many there are
abbrev pub first : List ℕ → List ℕ
first r = take 16 r

abbrev pub later : List ℕ → List ℕ
later r = drop 16 r

abbrev pub records : List ℕ → ℕ
records r = length r / 16

-- whether two lists of bytes are the same
unfoldable pub same : List ℕ → List ℕ → Bool
same [] [] = true
same [] (y ∷ ys) = false
same (x ∷ xs) [] = false
same (x ∷ xs) (y ∷ ys) = eqb x y && same xs ys

abbrev pub zeros : ℕ → List ℕ
zeros zero = []
zeros (suc n) = 0 ∷ zeros n

-- "over 64,000 bytes, a part record, or nonzero bytes 9 to 15", the last of a record, and of any of n records
abbrev pub stray_one : List ℕ → Bool
stray_one x = not (same (rest_in x) (zeros 7))

unfoldable pub stray : ℕ → List ℕ → Bool
stray zero r = false
stray (suc n) r = stray_one (first r) || stray n (later r)

unfoldable pub not_a_recording : List ℕ → Bool
not_a_recording r = ltb 64000 (length r) || not (eqb (length r % 16) 0) || stray (records r) r
