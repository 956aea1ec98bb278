-- What a stack lacks or has, a law a way to find out.
use Rattle.std.specs.Prelude.{◌≡◌, ℕ, ◌+◌, ◌-◌, ◌*◌, ◌/◌, ◌%◌, ◌^◌, ◌<◌, ◌≤◌, max, Bool, true, false, cond, ◌||◌, List, length, nat_lt, slice_index}
use Rattle.std.proofs.Math.Path.{refl}
use Rattle.std.proofs.Common.{sym, ◌∙◌, ap, ap₂, arith}
use borrow.Author.Tests.{lt-ltb, le-ltb, ltb-true, ltb-false}
use Rattle.number.specs.declared.Number.{Number}
use Rattle.number.specs.Number.{zeros}
use Rattle.number.specs.NumberLaws.{Bytes}
use Rattle.slots.specs.Slots.{slot, number_in, put_slot, put_in}
use Rattle.slots.specs.SlotLaws.{bytes_of_slot}
use Rattle.slots.specs.Reports.{over_limits}
use Rattle.slots.specs.LimitLaws.{Within, within, within_of, over_depth}
use Rattle.slots.specs.Reach.{lacking, number_at, put_at, copied_of}

module _ (s : List ℕ) (d n : ℕ) where
  pub lacking_over : over_limits s d ≡ true → lacking s d n ≡ true
  unfolding lacking
  lacking_over h = simp h

  pub lacking_few : d < n → lacking s d n ≡ true
  unfolding lacking
  lacking_few h = go (over_limits s d)
    where
      go : (b : Bool) → b || nat_lt d n ≡ true
      go true = refl
      go false = lt-ltb d n h

  pub enough : Within s d → n ≤ d → lacking s d n ≡ false
  unfolding lacking
  enough w h = simp (within s d w, le-ltb d n h)

  -- the length is within its limit and the numbers are enough: whether the depth fits decides
  pub by_fit : length s ≤ 16000 → n ≤ d → (b : Bool) → nat_lt (length s) (5 * d) ≡ b → b ≡ lacking s d n
  by_fit h g true e = sym (lacking_over (over_depth s d (ltb-true _ _ e)))
  by_fit h g false e = sym (enough (record { short = h; deep = ltb-false _ _ e }) g)

  pub has : lacking s d n ≡ false → Within s d × (n ≤ d)
  unfolding lacking
  has h = go (over_limits s d) refl h
    where
      go : (b : Bool) → over_limits s d ≡ b → b || nat_lt d n ≡ false → Within s d × (n ≤ d)
      go true e k = absurd (let z : ◌≡◌ {A = ℕ} 0 1 = cc in omega arith)
      go false e k = (within_of s d e, ltb-false d n k)

module _ (s : List ℕ) (d k : ℕ) where
  pub none_at : lacking s d (k + 1) ≡ true → number_at s d k ≡ zeros
  unfolding number_at
  none_at h = simp h

  pub number_at_lem : lacking s d (k + 1) ≡ false → number_at s d k ≡ number_in s (d - (k + 1))
  unfolding number_at
  number_at_lem h = simp h

  pub put_nowhere : (n : Number) → lacking s d (k + 1) ≡ true → put_at s d k n ≡ s
  unfolding put_at
  put_nowhere n h = simp h

  pub put_there : (n : Number) → lacking s d (k + 1) ≡ false → put_at s d k n ≡ put_in s (d - (k + 1)) n
  unfolding put_at
  put_there n h = simp h

  -- where the bytes are bytes, it is put as the bytes of its slot
  pub put_slot_there : (i : ℕ) → ((j : ℕ) → slice_index s j < 256) → 5 * i + 5 ≤ length s → lacking s d (k + 1) ≡ false → put_at s d k (number_in s i) ≡ put_slot s (d - (k + 1)) (slot s i)
  put_slot_there i b h l = put_there (number_in s i) l ∙ ap (put_slot s (d - (k + 1))) (bytes_of_slot s i h b)

-- what a stack lacks goes by its length alone
pub lacking_same : (s t : List ℕ) (d n : ℕ) → length t ≡ length s → lacking t d n ≡ lacking s d n
unfolding lacking over_limits
lacking_same s t d n h = simp h

-- a number is made of the stack's bytes
pub number_bytes : (s : List ℕ) (d k : ℕ) → ((j : ℕ) → slice_index s j < 256) → Bytes (number_at s d k)
unfolding number_in number_at
number_bytes s d k b = go (lacking s d (k + 1))
  where
    i : ℕ
    i = 5 * (d - (k + 1))

    go : (t : Bool) → Bytes (cond t zeros (number_in s (d - (k + 1))))
    go true = record { b1_below = omega arith; word_below = omega arith }
    go false = record { b1_below = b i; word_below = omega (arith, b (i + 1), b (i + 2), b (i + 3), b (i + 4)) }

-- ---- the top once more above itself

module _ (s : List ℕ) (d : ℕ) where
  pub copied_nowhere : lacking s (d + 1) 2 ≡ true → copied_of s d ≡ s
  unfolding copied_of
  copied_nowhere h = simp h

  pub copied_at : lacking s (d + 1) 2 ≡ false → copied_of s d ≡ put_at s (d + 1) 0 (number_at s (d + 1) 1)
  unfolding copied_of
  copied_at h = simp h

  pub copied_there : lacking s (d + 1) 2 ≡ false → copied_of s d ≡ put_in s d (number_in s (d - 1))
  copied_there h =
      let y = has s (d + 1) 2 h in
      let below : d + 1 - 2 ≡ d - 1 = omega arith in
      let above : d + 1 - 1 ≡ d = omega arith in
      copied_at h
      ∙ put_there s (d + 1) 0 (number_at s (d + 1) 1) (enough s (d + 1) 1 y.0 (omega arith))
      ∙ ap₂ (put_in s) above (number_at_lem s (d + 1) 1 h ∙ ap (number_in s) below)

  -- by the slot of the top, r, which wraps where there is none, and how many numbers there may be below one more
  module _ (r m : ℕ) (l : length s ≤ 16000) (e : (r + 1) % 2 ^ 64 ≡ d) (g : r < 2 ^ 64) (h : m ≡ max 5 (length s)) where
    pub no_copy : m / 5 - 1 ≤ r → lacking s (d + 1) 2 ≡ true
    no_copy i = go (lacking s (d + 1) 2) refl
      where
        go : (b : Bool) → lacking s (d + 1) 2 ≡ b → b ≡ true
        go true j = refl
        go false j = let y = has s (d + 1) 2 j in absurd (omega (arith, y.0.deep, y.1))

    pub copies : r < m / 5 - 1 → lacking s (d + 1) 2 ≡ false
    copies i = enough s (d + 1) 2 (record { short = l; deep = omega arith }) (omega arith)
