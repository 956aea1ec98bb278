-- A text's beginning, its blanks and its comment, byte by byte, and what follows a word: a law a case.
use Rattle.std.specs.Prelude.{ℕ, suc, ◌+◌, ◌-◌, ◌<◌, ◌≤◌, ◌≡◌, true, false, List, None, length, take, drop, get_or}
use Rattle.std.proofs.Common.{arith, length-drop, drop_of_length-le, drop-cons, take_all, eq-eqb, ne_eqb}
use Rattle.std.proofs.Math.ListN.{get_or-eq_default}
use Rattle.std.proofs.Math.Numerals.{add-one}
use Rattle.words.specs.Begins.{begins}
use Rattle.words.specs.Blanks.{blank, comment_from, started, end_of}
use Rattle.words.specs.After.{any_of, after}

-- texts of which i bytes are the same
module _ (ws s : List ℕ) (i : ℕ) where
  pub begins_done : length ws ≤ i → begins (drop i ws) (drop i s) ≡ true
  unfolding begins
  begins_done h = rw (drop_of_length-le ws h)

  module _ (h : i < length ws) where
    pub begins_short : length s ≤ i → begins (drop i ws) (drop i s) ≡ false
    unfolding begins
    begins_short g = rw (drop-cons ws i 0 h, drop_of_length-le s g)

    module _ (g : i < length s) where
      pub begins_differs : (get_or s i 0 ≡ get_or ws i 0 → ⊥) → begins (drop i ws) (drop i s) ≡ false
      unfolding begins
      begins_differs e = rw (drop-cons s i 0 g, drop-cons ws i 0 h) (simp (ne_eqb _ _ e))

      pub begins_next : get_or s i 0 ≡ get_or ws i 0 → begins (drop i ws) (drop i s) ≡ begins (drop (i + 1) ws) (drop (i + 1) s)
      unfolding begins
      begins_next e = rw (drop-cons s i 0 g, drop-cons ws i 0 h, add-one i) (simp (eq-eqb _ _ e))

-- a list of which i bytes are passed
module _ (s : List ℕ) (i : ℕ) where
  pub comment_none : length s ≤ i → comment_from i (drop i s) ≡ i
  unfolding comment_from
  comment_none h = rw (drop_of_length-le s h)

  pub start_none : length s ≤ i → started (drop i s) ≡ drop i s
  unfolding started
  start_none h = rw (drop_of_length-le s h)

  module _ (h : i < length s) where
    pub comment_here : get_or s i 0 ≡ 35 → comment_from i (drop i s) ≡ i
    unfolding comment_from
    comment_here e = rw (drop-cons s i 0 h) (simp (eq-eqb _ _ e))

    pub comment_later : (get_or s i 0 ≡ 35 → ⊥) → comment_from i (drop i s) ≡ comment_from (i + 1) (drop (i + 1) s)
    unfolding comment_from
    comment_later e = rw (drop-cons s i 0 h) (simp (ne_eqb _ _ e, add-one i))

    pub start_here : blank (get_or s i 0) ≡ false → started (drop i s) ≡ drop i s
    unfolding started
    start_here b = rw (drop-cons s i 0 h) (simp b)

    pub start_later : blank (get_or s i 0) ≡ true → started (drop i s) ≡ started (drop (i + 1) s)
    unfolding started
    start_later b = rw (drop-cons s i 0 h, add-one i) (simp b)

-- where it ends, for a list of which n bytes are left
module _ (s : List ℕ) (n : ℕ) where
  pub end_none : n ≡ 0 → end_of s n ≡ n
  unfolding end_of
  end_none h = rw h

  pub end_here : (m : ℕ) → blank (get_or s m 0) ≡ false → n ≡ suc m → end_of s n ≡ n
  unfolding end_of
  end_here m t h = rw h (simp t)

  pub end_before : (m : ℕ) → blank (get_or s m 0) ≡ true → n ≡ suc m → end_of s n ≡ end_of s m
  unfolding end_of
  end_before m t h = rw h (simp t)

-- a list from a place on
pub rest : (s : List ℕ) (i : ℕ) → take (length s - i) (drop i s) ≡ drop i s
rest s i = take_all (length s - i) (drop i s) (omega (arith, length-drop i s))

module _ (word s : List ℕ) where
  pub after_word : begins word s ≡ true → blank (get_or s (length word) 0) ≡ true → after word s ≡ any_of (started (drop (length word) s))
  unfolding after
  after_word e b = simp (e, b)

  pub after_other : begins word s ≡ false → after word s ≡ None
  unfolding after
  after_other e = simp e

  pub after_joined : begins word s ≡ true → blank (get_or s (length word) 0) ≡ false → after word s ≡ None
  unfolding after
  after_joined e b = simp (e, b)

  pub after_alone : begins word s ≡ true → length s ≤ length word → after word s ≡ None
  unfolding blank
  after_alone e h = after_joined e (rw (get_or-eq_default s 0 h))
