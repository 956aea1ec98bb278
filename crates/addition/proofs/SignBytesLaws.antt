-- The short route by its sign bytes, which settle the seventeenth bit as in the listing: what it answers, and that the code's bytes come to it.
use Rattle.std.specs.Prelude.{◌≡◌, ℕ, zero, suc, ◌+◌, ◌-◌, ◌*◌, ◌/◌, ◌%◌, ◌^◌, ◌<◌, ◌≤◌, Bool, true, false, cond, ◌||◌, ◌⊎◌, ◌==◌, bit_or, nat_lt, Some}
use Rattle.std.proofs.Math.Path.{refl, ap, subst}
use Rattle.std.proofs.Common.{sym, ◌∙◌, ap₂, subst₂, inl, inr, eq-zero-or-pos, add-zero, arith}
use Rattle.std.proofs.Math.Bool.{or-true}
use borrow.Author.Tests.{lt-ltb, le-ltb, ne_eqb, eqb-true, eqb-false, ltb-true, ltb-false}
use Rattle.std.specs.Int.Bits.{or_lt, or_add_and}
use Rattle.std.proofs.lemmas.Nat.{and_le_l, and_le_r}
use Rattle.edition.specs.declared.Edition.TheVariants.{Shipped}
use Rattle.number.specs.declared.Number.{Number}
use Rattle.number.specs.Number.{number, malformed, sign, low, complement_of, short_magnitude, halves, stored_over, short_of}
use Rattle.number.specs.NumberLaws.{places, low_halves, magnitude_cases}
use Rattle.number.specs.FormLaws.{malformed_short, malformed_between, malformed_negative}
use Rattle.number.specs.Negate.{negated}
use Rattle.number.proofs.NegateLaws.{negate_zero, negate_short}
use Rattle.addition.specs.declared.short.Short.TheVariants.{Malformed, Stored, Exact, Beyond}
use Rattle.addition.specs.declared.short.Halves.{Halves}
use Rattle.addition.specs.Addition.{full_route, sum_of, second_of}
use Rattle.addition.specs.ShortRouteLaws.{carry_of, negatives, wrapped}
use Rattle.addition.proofs.ShortRouteLaws.{total, sum_positive, sum_shipped, sum_beyond}
use Rattle.addition.proofs.ShortExact.{positive_exact, negative_exact}
use Rattle.addition.specs.SecondHalves.{halves_of, second_halves, added_halves}
use Rattle.addition.specs.SignBytes.{Formed, Says, Split, seventeen_of}

-- a word by one more than its first byte, wrapped
unformed : (w k : ℕ) → w < 2 ^ 32 → k ≡ (w / 2 ^ 24 + 1) % 256 → 1 < k → malformed (number 0 w) ≡ true
unformed w k l e g = malformed_between (number 0 w) refl (omega arith) (omega arith)

formed : (w k : ℕ) → w < 2 ^ 32 → k ≡ (w / 2 ^ 24 + 1) % 256 → k ≤ 1 → (malformed (number 0 w) ≡ false) × (w / 2 ^ 24 ≡ 255 * (w / 2 ^ 31))
formed w k l e g = go (eq-zero-or-pos (w / 2 ^ 24))
  where
    go : (w / 2 ^ 24 ≡ 0) ⊎ (0 < w / 2 ^ 24) → (malformed (number 0 w) ≡ false) × (w / 2 ^ 24 ≡ 255 * (w / 2 ^ 31))
    go (inl p) = (malformed_short (number 0 w) refl (omega arith), omega arith)
    go (inr p) = let last : w / 2 ^ 24 ≡ 255 = omega arith in (malformed_negative (number 0 w) refl (omega arith) l, omega arith)

-- by one question for both
module _ (x y i j : ℕ) (l : x < 2 ^ 32) (m : y < 2 ^ 32) (e : i ≡ (x / 2 ^ 24 + 1) % 256) (f : j ≡ (y / 2 ^ 24 + 1) % 256) where
  pub one_unformed : 1 < bit_or i j → (less : Bool) → Says less (number 0 x) (number 0 y) Malformed
  unfolding Says
  one_unformed h less = go (nat_lt 1 i) (nat_lt 1 j) refl refl
    where
      go : (a b : Bool) → nat_lt 1 i ≡ a → nat_lt 1 j ≡ b → malformed (number 0 x) || malformed (number 0 y) ≡ true
      go true b p q = simp (unformed x i l e (ltb-true _ _ p))
      go false true p q = ap (λ (t : Bool). malformed (number 0 x) || t) (unformed y j m f (ltb-true _ _ q)) ∙ or-true (malformed (number 0 x))
      go false false p q = let a = ltb-false 1 i p in let b = ltb-false 1 j q in absurd (omega (arith, or_lt 1 i j (omega arith) (omega arith)))

  pub both_formed : bit_or i j ≤ 1 → Formed x y
  both_formed h =
      let a = formed x i l e (omega (arith, or_add_and i j, and_le_r i j)) in
      let b = formed y j m f (omega (arith, or_add_and i j, and_le_l i j)) in
      record { both = simp (a.0, b.0); first = a.1; second = b.1 }

split_halves : (s h : ℕ) → s < 2 → h < 2 ^ 16 → Split (halves (255 * s) h) (halves_of (255 * s) h)
split_halves s h l g =
    let is : sign (halves (255 * s) h) ≡ s = omega arith in
    record { first = refl; bytes = ap (λ (i : ℕ). 255 * i) (sym is); sign_below = omega arith; lows = low_halves (255 * s) h g }

-- of a number that is not malformed
second_split : (less : Bool) (w : ℕ) → w < 2 ^ 32 → w / 2 ^ 24 ≡ 255 * (w / 2 ^ 31)
    → Split (second_of less (number 0 w)) (second_halves less (w / 2 ^ 24) (low (number 0 w)))
second_split false w l e = record { first = refl; bytes = e; sign_below = omega arith; lows = refl }
second_split true w l e = go (low y == 0) refl (magnitude_cases y (record { b1_below = omega arith; word_below = l }))
  where
    y : Number
    y = number 0 w

    -- by what it is negated to
    split : (b s h k : ℕ) → b ≡ 255 * s → k ≡ h → s < 2 → h < 2 ^ 16 → negated y ≡ halves (255 * s) h → Split (negated y) (halves_of b k)
    split b s h k f g l m e =
        subst (λ (n : Number). Split n (halves_of b k)) (sym e) (subst₂ (λ (i j : ℕ). Split (halves (255 * s) h) (halves_of i j)) (sym f) (sym g) (split_halves s h l m))

    go : (z : Bool) → (low y == 0) ≡ z → ((sign y ≡ 0) × (short_magnitude y ≡ low y)) ⊎ ((sign y ≡ 1) × (short_magnitude y ≡ complement_of (low y)))
        → Split (negated y) (cond z (halves_of 0 (low y)) (halves_of (255 - w / 2 ^ 24) (complement_of (low y))))
    go true f (inl p) =
        let none = eqb-true (low y) 0 f in
        let same = negate_zero y refl (omega (arith, places w)) in
        subst (λ (n : Number). Split n (halves_of 0 (low y))) (sym same) (record { first = refl; bytes = ap (λ (i : ℕ). 255 * i) (sym p.0); sign_below = omega arith; lows = refl })
    go true f (inr p) =
        let none = eqb-true (low y) 0 f in
        split 0 0 0 (low y) refl none (omega arith) (omega arith) (negate_short y refl (omega arith) ∙ ap₂ short_of {x = 1 - sign y} {y = 0} (omega (arith, p.0)) (p.1 ∙ ap complement_of none))
    go false f (inl p) =
        let some = eqb-false (low y) 0 f in
        split _ 1 (complement_of (low y)) _ (omega arith) refl (omega arith) (omega arith)
        (negate_short y refl (omega (arith, places w)) ∙ ap₂ short_of {x = 1 - sign y} {y = 1} (omega (arith, p.0)) p.1)
    go false f (inr p) =
        split _ 0 (complement_of (low y)) _ (omega arith) refl (omega arith) (omega arith)
        (negate_short y refl (omega arith) ∙ ap₂ short_of {x = 1 - sign y} {y = 0} (omega (arith, p.0)) p.1)

-- n sign bytes of 255 that, with the carry, make neither 0 nor 255
abbrev Alike : ℕ → ℕ → ℕ → Type 0
Alike n c k = ((n ≡ 0) × (c ≡ 1) × (k ≡ 1)) ⊎ ((n ≡ 2) × (c ≡ 0) × (k ≡ 254))

alike : (n c k : ℕ) → n < 3 → c < 2 → k ≡ (255 * n % 256 + c) % 256 → 2 ≤ (k + 1) % 256 → Alike n c k
alike zero c k l m h e = inl (refl, omega arith, omega arith)
alike (suc zero) c k l m h e = absurd (omega arith)
alike (suc (suc zero)) c k l m h e = inr (refl, omega arith, omega arith)
alike (suc (suc (suc n))) c k l m h e = absurd (omega arith)

-- the sign bytes and the carry, settled
module _ (x y : Number) (b c k : ℕ) (p : b ≡ 255 * sign x) (q : c ≡ 255 * sign y) (l : sign x < 2) (m : sign y < 2)
    (h : k ≡ ((b + c) % 256 + carry_of (wrapped x y) (low x)) % 256) where
  ways : carry_of (wrapped x y) (low x) < 2
  ways = go (nat_lt (wrapped x y) (low x))
    where
      go : (t : Bool) → cond t 1 0 < 2
      go true = omega arith
      go false = omega arith

  module _ (f : x.b1 ≡ 0) (g : y.b1 ≡ 0) where
    pub bytes_stored : (k + 1) % 256 < 2 → sum_of Shipped x y ≡ Some (stored_over x (halves k (wrapped x y)))
    bytes_stored e = go (k == 0) refl
      where
        go : (t : Bool) → (k == 0) ≡ t → sum_of Shipped x y ≡ Some (stored_over x (halves k (wrapped x y)))
        go true i =
            let none = eqb-true k 0 i in
            sum_positive Shipped x y f g (omega (arith, ways)) ∙ ap (λ (n : ℕ). Some (stored_over x (halves n (wrapped x y)))) (sym none)
        go false i =
            let all : k ≡ 255 = omega (arith, eqb-false k 0 i) in
            sum_shipped x y f g (omega (arith, ways)) ∙ ap (λ (n : ℕ). Some (stored_over x (halves n (wrapped x y)))) (sym all)

    module _ (e : 2 ≤ (k + 1) % 256) where
      pub bytes_beyond : sum_of Shipped x y ≡ full_route x y
      bytes_beyond = sum_beyond Shipped x y f g (λ i. omega (arith, ways)) (λ i. omega (arith, ways))

      -- both have one sign, and neither counts as zero
      pub bytes_exact : 0 < low x → 0 < low y → sum_of Shipped x y ≡ Some (number 145 (seventeen_of k (wrapped x y)))
      bytes_exact i j = bytes_beyond ∙ go (alike (negatives x y) carry k (omega arith) ways (h ∙ ap (λ (n : ℕ). (n % 256 + carry) % 256) {x = b + c} {y = 255 * negatives x y} (omega arith)) e)
        where
          carry : ℕ
          carry = carry_of (wrapped x y) (low x)

          go : Alike (negatives x y) carry k → full_route x y ≡ Some (number 145 (seventeen_of k (wrapped x y)))
          go (inl a) =
              positive_exact x y f g i j (wrapped x y) (omega arith) (omega arith) (omega arith) (total x y ∙ ap (λ (n : ℕ). wrapped x y + 2 ^ 16 * n) a.1)
              ∙ sym (simp (lt-ltb k 128 (omega arith)))
          go (inr a) =
              negative_exact x y f g i j (wrapped x y) (omega arith) (omega arith) (omega arith) (total x y ∙ ap (λ (n : ℕ). wrapped x y + 2 ^ 16 * n) a.1 ∙ add-zero (wrapped x y))
              ∙ sym (simp (le-ltb k 128 (omega arith)))

-- what is answered goes by the sign bytes and low halves, added
module _ (less : Bool) (x y : ℕ) (l : x < 2 ^ 32) (m : y < 2 ^ 32) (f : Formed x y) where
  abbrev first : Number
  first = number 0 x

  abbrev other : Number
  other = second_of less (number 0 y)

  abbrev halved : Halves
  halved = second_halves less (y / 2 ^ 24) (low (number 0 y))

  abbrev sum : Halves
  sum = added_halves (x / 2 ^ 24) (low first) halved

  split : Split other halved
  split = second_split less y m f.second

  lows : wrapped first other ≡ sum.low
  lows = ap (λ (h : ℕ). (low first + h) % 2 ^ 16) split.lows

  settled : sum.byte ≡ ((x / 2 ^ 24 + halved.byte) % 256 + carry_of (wrapped first other) (low first)) % 256
  settled = ap (λ (w : ℕ). ((x / 2 ^ 24 + halved.byte) % 256 + carry_of w (low first)) % 256) (sym lows)

  pub answer_stored : (sum.byte + 1) % 256 < 2 → Says less first (number 0 y) (Stored sum.byte sum.low)
  unfolding Says
  answer_stored h = (
    f.both,
    bytes_stored first other _ _ sum.byte f.first split.bytes (omega arith) split.sign_below settled refl split.first h
        ∙ ap (λ (w : ℕ). Some (stored_over first (halves sum.byte w))) lows,
  )

  pub answer_beyond : 2 ≤ (sum.byte + 1) % 256 → Says less first (number 0 y) Beyond
  unfolding Says
  answer_beyond h = bytes_beyond first other _ _ sum.byte f.first split.bytes (omega arith) split.sign_below settled refl split.first h

  pub answer_exact : 2 ≤ (sum.byte + 1) % 256 → 0 < low first → 0 < low (number 0 y) → Says less first (number 0 y) (Exact (seventeen_of sum.byte sum.low))
  unfolding Says
  answer_exact h p q = (
    f.both,
    bytes_exact first other _ _ sum.byte f.first split.bytes (omega arith) split.sign_below settled refl split.first h p (second_some less)
        ∙ ap (λ (w : ℕ). Some (number 145 (seventeen_of sum.byte w))) lows,
  )
    where
      -- nor is the second one when it is negated
      second_some : (b : Bool) → 0 < low (second_of b (number 0 y))
      second_some b = subst (λ (n : ℕ). 0 < n) (sym (second_split b y m f.second).lows) (go b)
        where
          go : (b : Bool) → 0 < (second_halves b (y / 2 ^ 24) (low (number 0 y))).low
          go true = simp (ne_eqb (low (number 0 y)) 0 (omega arith)) (omega arith)
          go false = q
