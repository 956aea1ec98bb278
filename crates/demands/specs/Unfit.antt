-- A5, what is no recording: "over 64,000 bytes, a part record, or nonzero bytes 9 to 15".
use Rattle.std.specs.Prelude.{ℕ, zero, suc, ◌+◌, ◌-◌, ◌*◌, ◌%◌, ◌≤◌, ◌<◌, ◌≡◌, refl, ◌↔◌, Bool, true, false, not, ◌&&◌, ◌||◌, List, [], ◌∷◌, eqb, ltb, length, get_or, drop}
use Rattle.std.proofs.Common.{sym, ◌∙◌, ap, true≢false, arith, length-take, length-drop, get_or-take, get_or-drop, ltb-true, ltb-false, eqb-true, lt-ltb, ne_eqb}
use Rattle.std.proofs.lemmas.Bool.{false≢true, eqb-false}
use Rattle.std.proofs.Math.Bool.{or-true}
use Rattle.recording.specs.Recording.{rest_in, first, later, records, same, zeros, stray, not_a_recording}
use Rattle.recording.specs.RecordingLaws.{same_true, by_rest}

-- byte 9 to 15 of one of the first n records is not zero
pub record StrayByte (n : ℕ) (r : List ℕ) : Type 0 where
  pub number : ℕ
  pub byte : ℕ
  pub inside : number < n
  pub low : 9 ≤ byte
  pub high : byte ≤ 15
  pub there : get_or r (16 * number + byte) 0 ≡ 0 → ⊥

pub data Unfit (r : List ℕ) : Type 0 where
  over : 64000 < length r → Unfit r
  part : (length r % 16 ≡ 0 → ⊥) → Unfit r
  nonzero : StrayByte (records r) r → Unfit r

zero_byte : (n j : ℕ) → get_or (zeros n) j 0 ≡ 0
zero_byte zero j = refl
zero_byte (suc n) zero = refl
zero_byte (suc n) (suc j) = zero_byte n j

-- bytes that are not all zero have one that is not
some : (xs : List ℕ) → same xs (zeros (length xs)) ≡ false → (j : ℕ) × (j < length xs) × (get_or xs j 0 ≡ 0 → ⊥)
unfolding same
some [] h = absurd (true≢false h)
some (x ∷ xs) h = go (eqb x 0) refl h (some xs)
  where
    go : (b : Bool) → eqb x 0 ≡ b → b && same xs (zeros (length xs)) ≡ false
        → (same xs (zeros (length xs)) ≡ false → (j : ℕ) × (j < length xs) × (get_or xs j 0 ≡ 0 → ⊥))
        → (j : ℕ) × (j < suc (length xs)) × (get_or (x ∷ xs) j 0 ≡ 0 → ⊥)
    go true e g f = let y = f g in (suc y.0, omega (arith, y.1), y.2)
    go false e g f = (0, omega arith, eqb-false _ _ e)

-- bytes 9 to 15 of the first record
rest_byte : (r : List ℕ) (j : ℕ) → j < 7 → get_or (rest_in (first r)) j 0 ≡ get_or r (9 + j) 0
rest_byte r j h = get_or-take 7 (drop 9 (first r)) j 0 h ∙ get_or-drop 9 (first r) j 0 ∙ get_or-take 16 r (9 + j) 0 (omega arith)

-- what the test of n whole records finds
found : (n : ℕ) (r : List ℕ) → 16 * n ≤ length r → stray n r ≡ true → StrayByte n r
unfolding stray
found zero r l h = absurd (false≢true h)
found (suc n) r l h = go (same (rest_in (first r)) (zeros 7)) refl h (found n (later r) (omega (arith, length-drop 16 r)))
  where
    long : length (rest_in (first r)) ≡ 7
    long = simp (length-take, length-drop) (omega arith)

    go : (b : Bool) → same (rest_in (first r)) (zeros 7) ≡ b → not b || stray n (later r) ≡ true
        → (stray n (later r) ≡ true → StrayByte n (later r)) → StrayByte (suc n) r
    go true e g f =
        let y = f g in
        let at : 16 + (16 * y.number + y.byte) ≡ 16 * suc y.number + y.byte = omega arith in
        record {
          number = suc y.number;
          byte = y.byte;
          inside = omega (arith, y.inside);
          low = y.low;
          high = y.high;
          there = λ z. y.there (get_or-drop 16 r (16 * y.number + y.byte) 0 ∙ ap (λ (k : ℕ). get_or r k 0) at ∙ z);
        }
    go false e g f =
        let y = some (rest_in (first r)) (rw long e) in
        let at : 9 + y.0 ≡ 16 * 0 + (9 + y.0) = omega arith in
        record {
          number = 0;
          byte = 9 + y.0;
          inside = omega arith;
          low = omega arith;
          high = omega (arith, y.1, long);
          there = λ z. y.2 (rest_byte r y.0 (omega (arith, y.1, long)) ∙ ap (λ (k : ℕ). get_or r k 0) at ∙ z);
        }

-- and a byte that is not zero is found
finds : (n : ℕ) (r : List ℕ) (i k : ℕ) → i < n → 9 ≤ k → k ≤ 15 → (get_or r (16 * i + k) 0 ≡ 0 → ⊥) → stray n r ≡ true
unfolding stray
finds zero r i k g a b h = absurd (omega arith)
finds (suc n) r zero k g a b h = go (same (rest_in (first r)) (zeros 7)) refl
  where
    go : (t : Bool) → same (rest_in (first r)) (zeros 7) ≡ t → not t || stray n (later r) ≡ true
    go false e = refl
    go true e =
        let at : 16 * 0 + k ≡ 9 + (k - 9) = omega arith in
        absurd
        (h
        (ap (λ (j : ℕ). get_or r j 0) at
        ∙ sym (rest_byte r (k - 9) (omega arith))
        ∙ ap (λ (xs : List ℕ). get_or xs (k - 9) 0) (same_true _ _ e)
        ∙ zero_byte 7 (k - 9)))
finds (suc n) r (suc i) k g a b h =
    let at : 16 + (16 * i + k) ≡ 16 * suc i + k = omega arith in
    rw (finds n (later r) i k (omega arith) a b (λ z. h (sym (get_or-drop 16 r (16 * i + k) 0 ∙ ap (λ (j : ℕ). get_or r j 0) at) ∙ z)))
    (or-true (not (same (rest_in (first r)) (zeros 7))))

-- What the test of a recording refuses, exactly.
pub not_a_recording_lem : (r : List ℕ) → (not_a_recording r ≡ true) ↔ Unfit r
unfolding not_a_recording
not_a_recording_lem r = (by_length (ltb 64000 (length r)) refl, holds)
  where
    by_records : length r ≤ 64000 → (b : Bool) → eqb (length r % 16) 0 ≡ b → not_a_recording r ≡ true → Unfit r
    by_records l true e h = nonzero (found (records r) r (omega arith) (by_rest r l (eqb-true _ _ e) ∙ h))
    by_records l false e h = part (eqb-false _ _ e)

    by_length : (b : Bool) → ltb 64000 (length r) ≡ b → not_a_recording r ≡ true → Unfit r
    by_length true e h = over (ltb-true _ _ e)
    by_length false e h = by_records (ltb-false _ _ e) (eqb (length r % 16) 0) refl h

    holds : Unfit r → not_a_recording r ≡ true
    holds (over h) = simp (lt-ltb _ _ h)
    holds (part h) = simp (ne_eqb _ _ h, or-true)
    holds (nonzero y) = simp (finds (records r) r y.number y.byte y.inside y.low y.high y.there, or-true)
