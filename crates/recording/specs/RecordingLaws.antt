-- Laws of a recording: when two lists are the same, where a record's bytes stand, and the test of a recording, a law a way out.
use Prim.Native.Nat.{ℕ, ◌+◌, ◌*◌, ◌%◌, ◌≤◌, ◌<◌}
use Rattle.std.specs.Prelude.{◌≡◌, Bool, ◌||◌, eqb, length, drop}
use Rattle.std.proofs.Math.Path.{refl, sym, ap}
use Rattle.std.proofs.Common.{◌∙◌, true≢false, drop-drop}
use Rattle.std.proofs.Math.Bool.{true, false, not, and-eq-true_iff}
use Rattle.std.proofs.lemmas.Bool.{false≢true}
use mathlib.Core.List.{List, [], ◌∷◌}
use native.Mathlib.Omega.{arith}
use Rattle.std.proofs.Math.Dec.{ltb}
use borrow.Author.Tests.{lt-ltb, le-ltb, ltb-false, eq-eqb, ne_eqb, eqb-true}
use Rattle.recording.specs.Recording.{later, records, same, stray, not_a_recording}

pub same_refl : (xs : List ℕ) → same xs xs ≡ true
unfolding same
same_refl [] = refl
same_refl (x ∷ xs) = simp (eq-eqb x x refl, same_refl xs)

pub same_true : (xs ys : List ℕ) → same xs ys ≡ true → xs ≡ ys
unfolding same
same_true [] [] h = refl
same_true [] (y ∷ ys) h = absurd (false≢true h)
same_true (x ∷ xs) [] h = absurd (false≢true h)
same_true (x ∷ xs) (y ∷ ys) h =
    let p = (and-eq-true_iff (eqb x y) (same xs ys)).0 h in
    rw (eqb-true x y p.0, same_true xs ys p.1) refl

-- a test that holds exactly where two lists are equal says whether they are the same
pub same_by : (b : Bool) {xs ys : List ℕ} → (b ≡ true → xs ≡ ys) → (xs ≡ ys → b ≡ true) → b ≡ same xs ys
same_by true {xs} {ys} f g = sym (ap (same xs) (sym (f refl)) ∙ same_refl xs)
same_by false {xs} {ys} f g = go (same xs ys) refl
  where
    go : (t : Bool) → same xs ys ≡ t → false ≡ t
    go true e = g (same_true xs ys e)
    go false e = refl

-- the records after record i
pub next_record : (r : List ℕ) (i : ℕ) → later (drop (16 * i) r) ≡ drop (16 * (i + 1)) r
next_record r i = let e : 16 * i + 16 ≡ 16 * (i + 1) = omega arith in rw (drop-drop 16 (16 * i) r, e) refl

module _ (r : List ℕ) where
  pub too_long : 64000 < length r → true ≡ not_a_recording r
  unfolding not_a_recording
  too_long h = simp (lt-ltb _ _ h)

  module _ (l : length r ≤ 64000) where
    pub part_record : (length r % 16 ≡ 0 → ⊥) → true ≡ not_a_recording r
    unfolding not_a_recording
    part_record h = simp (le-ltb _ _ l, ne_eqb _ _ h)

    pub by_rest : length r % 16 ≡ 0 → stray (records r) r ≡ not_a_recording r
    unfolding not_a_recording
    by_rest h = simp (le-ltb _ _ l, eq-eqb _ _ h)

pub whole_records : (r : List ℕ) → not_a_recording r ≡ false → length r % 16 ≡ 0
unfolding not_a_recording
whole_records r h = go (ltb 64000 (length r)) (eqb (length r % 16) 0) refl h
  where
    go : (a b : Bool) → eqb (length r % 16) 0 ≡ b → a || not b || stray (records r) r ≡ false → length r % 16 ≡ 0
    go true b e k = absurd (true≢false k)
    go false true e k = eqb-true _ _ e
    go false false e k = absurd (true≢false k)

pub not_too_long : (r : List ℕ) → not_a_recording r ≡ false → length r ≤ 64000
unfolding not_a_recording
not_too_long r h = go (ltb 64000 (length r)) refl h
  where
    go : (b : Bool) → ltb 64000 (length r) ≡ b → b || not (eqb (length r % 16) 0) || stray (records r) r ≡ false → length r ≤ 64000
    go true e k = absurd (true≢false k)
    go false e k = ltb-false _ _ e
