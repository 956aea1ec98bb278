-- Text put into a buffer that the caller lends, from a place on. What finds no room is left out.
use Rattle.std.specs.Prelude.{ℕ, ◌+◌, ◌<◌, ◌≤◌, ◌≡◌, refl, Bool, true, false, cond, List, [], ◌∷◌, ◌++◌, ltb, length, set, take}
use Rattle.std.proofs.Common.{sym, ◌∙◌, ap, append-nil, append_assoc, arith, add-one, length-set, take-suc-set, lt-ltb, le-ltb}

-- the buffer, and the place after what was put last
abbrev pub Text : Type 0
Text = List ℕ × ℕ

unfoldable pub put_of : Text → ℕ → Text
put_of t b = cond (ltb t.1 (length t.0)) (set t.0 t.1 b, t.1 + 1) t

pub put_room : (out : List ℕ) (at b : ℕ) → at < length out → (set out at b, at + 1) ≡ put_of (out, at) b
unfolding put_of
put_room out at b h = simp (lt-ltb _ _ h)

pub put_full : (out : List ℕ) (at b : ℕ) → length out ≤ at → (out, at) ≡ put_of (out, at) b
unfolding put_of
put_full out at b h = simp (le-ltb _ _ h)

-- the bytes of a list, one after the other
unfoldable pub puts_of : Text → List ℕ → Text
puts_of t [] = t
puts_of t (b ∷ bs) = puts_of (put_of t b) bs

-- one text after another is the two joined
pub puts_join : (t : Text) (xs ys : List ℕ) → puts_of (puts_of t xs) ys ≡ puts_of t (xs ++ ys)
unfolding puts_of
puts_join t [] ys = refl
puts_join t (x ∷ xs) ys = puts_join (put_of t x) xs ys

pub puts_then : (t : Text) {u v : Text} (xs ys : List ℕ) → v ≡ puts_of t xs → u ≡ puts_of v ys → u ≡ puts_of t (xs ++ ys)
puts_then t xs ys e f = f ∙ ap (λ (w : Text). puts_of w ys) e ∙ puts_join t xs ys

pub put_last : (t : Text) {u : Text} (x : ℕ) → u ≡ put_of t x → u ≡ puts_of t (x ∷ [])
unfolding puts_of
put_last t x e = e

-- what stands before the place
abbrev pub before : Text → List ℕ
before t = take t.1 t.0

-- where there is room, what is put is added to it
pub puts_after : (out : List ℕ) (at : ℕ) (xs : List ℕ) → at + length xs ≤ length out → before (puts_of (out, at) xs) ≡ take at out ++ xs
unfolding puts_of
puts_after out at [] h = sym (append-nil (take at out))
puts_after out at (x ∷ xs) h =
    ap (λ (t : Text). before (puts_of t xs)) (sym (put_room out at x (omega arith)))
    ∙ puts_after (set out at x) (at + 1) xs (omega (arith, length-set out at x))
    ∙ ap (λ (ys : List ℕ). ys ++ xs) (ap (λ (n : ℕ). take n (set out at x)) (add-one at) ∙ take-suc-set out at x (omega arith))
    ∙ append_assoc (take at out) (x ∷ []) xs

-- and in any case the buffer keeps its length
put_length : (t : Text) (b : ℕ) → length (put_of t b).0 ≡ length t.0
unfolding put_of
put_length t b = go (ltb t.1 (length t.0))
  where
    go : (h : Bool) → length (cond h (set t.0 t.1 b, t.1 + 1) t).0 ≡ length t.0
    go true = length-set t.0 t.1 b
    go false = refl

pub puts_length : (t : Text) (xs : List ℕ) → length (puts_of t xs).0 ≡ length t.0
unfolding puts_of
puts_length t [] = refl
puts_length t (x ∷ xs) = puts_length (put_of t x) xs ∙ put_length t x

-- a buffer with room for a text has all of it
pub puts_whole : (out xs : List ℕ) → length xs ≤ length out → before (puts_of (out, 0) xs) ≡ xs
puts_whole out xs h = puts_after out 0 xs (omega arith)
