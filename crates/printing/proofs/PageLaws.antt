-- What `show` prints, a law a case: a literal's name, a record's top, and the lines that are left.
use Rattle.std.specs.Prelude.{ℕ, suc, ◌+◌, ◌-◌, ◌*◌, ◌≤◌, ◌<◌, ◌≡◌, true, false, List, [], drop}
use Rattle.std.proofs.Math.Path.{refl}
use Rattle.std.proofs.Common.{◌∙◌, ap, arith}
use borrow.Author.Tests.{eq-eqb, ne_eqb}
use Rattle.text.specs.Put.{Text, puts_of, puts_join}
use Rattle.wording.specs.Wording.{step_answer}
use Rattle.recording.specs.Recording.{literal_in, depth_in, top_in, first}
use Rattle.recording.specs.RecordingLaws.{next_record}
use Rattle.replaying.specs.Replay.{top_differs}
use Rattle.printing.specs.Names.{number_name, name_of}
use Rattle.printing.specs.Page.{shown_top, record_line, record_lines}

-- what is put may be said in another way
pub puts_same : (t : Text) {u : Text} {xs ys : List ℕ} → xs ≡ ys → u ≡ puts_of t xs → u ≡ puts_of t ys
puts_same t f e = rw (← f) e

-- a literal in no row has no name
module _ (l : ℕ) (p : l ≡ 0 → ⊥) (a : l ≡ 1 → ⊥) (b : l ≡ 2 → ⊥) (c : l ≡ 3 → ⊥) (d : l ≡ 4 → ⊥) (e : l ≡ 5 → ⊥) (f : l ≡ 15 → ⊥) (g : l ≡ 27 → ⊥)
    (h : l ≡ 39 → ⊥) (i : l ≡ 49 → ⊥) (j : l ≡ 58 → ⊥) (k : l ≡ 61 → ⊥) where
  pub no_name : name_of l ≡ number_name l
  unfolding name_of
  no_name =
      simp (
        ne_eqb l 0 p,
        ne_eqb l 1 a,
        ne_eqb l 2 b,
        ne_eqb l 3 c,
        ne_eqb l 4 d,
        ne_eqb l 5 e,
        ne_eqb l 15 f,
        ne_eqb l 27 g,
        ne_eqb l 39 h,
        ne_eqb l 49 i,
        ne_eqb l 58 j,
        ne_eqb l 61 k,
      )

pub answer_parts : {a b c d : ℕ} {s t : List ℕ} → a ≡ b → c ≡ d → s ≡ t → step_answer a c s ≡ step_answer b d t
answer_parts {a} {b} {c} {d} {s} {t} p q r = ap (λ (n : ℕ). step_answer n c s) p ∙ ap (λ (n : ℕ). step_answer b n s) q ∙ ap (step_answer b d) r

module _ (x : List ℕ) where
  pub shown_push : literal_in x ≡ 0 → shown_top x ≡ top_in x
  unfolding shown_top
  shown_push h = simp (eq-eqb _ _ h)

  module _ (l : literal_in x ≡ 0 → ⊥) where
    pub shown_deep : (depth_in x ≡ 0 → ⊥) → shown_top x ≡ top_in x
    unfolding shown_top
    shown_deep h = simp (ne_eqb _ _ l, ne_eqb _ _ h)

    module _ (d : depth_in x ≡ 0) where
      pub shown_other : top_differs x [] 0 ≡ true → shown_top x ≡ top_in x
      unfolding shown_top
      shown_other h = simp (ne_eqb _ _ l, eq-eqb _ _ d, h)

      pub shown_none : top_differs x [] 0 ≡ false → shown_top x ≡ []
      unfolding shown_top
      shown_none h = simp (ne_eqb _ _ l, eq-eqb _ _ d, h)

-- the lines that are left, after i of them
module _ (t : Text) (r : List ℕ) (n i : ℕ) where
  pub no_lines : n ≤ i → puts_of t (record_lines (n - i) i (drop (16 * i) r)) ≡ t
  unfolding record_lines puts_of
  no_lines h = let e : n - i ≡ 0 = omega arith in rw e refl

  pub next_line : {u : Text} → i < n → u ≡ puts_of t (record_line i (first (drop (16 * i) r)))
      → puts_of t (record_lines (n - i) i (drop (16 * i) r)) ≡ puts_of u (record_lines (n - (i + 1)) (i + 1) (drop (16 * (i + 1)) r))
  unfolding record_lines
  next_line h e =
      let one_more : n - i ≡ suc (n - (i + 1)) = omega arith in
      rw (one_more, e, ← next_record r i) (simp (← puts_join))
