-- Each way out of a literal's code in either edition, by what the shipped edition does. No public contract cites this file.
use Rattle.std.specs.Prelude.{ℕ, ◌+◌, ◌-◌, ◌≡◌, ◌⊎◌, Bool, ◌||◌, List, ltb, Some, None}
use Rattle.ending.specs.Ending.{Answer}
use Rattle.std.proofs.Math.Path.{refl}
use Rattle.std.proofs.Common.{sym, ◌∙◌, ap, inl, inr, arith}
use Rattle.std.proofs.Math.Bool.{true, false, cond, or-true}
use Rattle.std.proofs.lemmas.Bool.{false≢true}
use Rattle.edition.specs.declared.Edition.{Edition}
use Rattle.edition.specs.declared.Edition.TheVariants.{Shipped, Mended}
use Rattle.number.specs.declared.Number.{Number}
use Rattle.number.specs.Number.{malformed, odd}
use Rattle.addition.specs.MendedLaws.{mended, mended_answer}
use Rattle.slots.specs.Outcome.{Outcome}
use Rattle.slots.specs.Reports.{over_limits}
use Rattle.slots.specs.Reach.{lacking, refusal_of, number_at, put_at}
use Rattle.literals.specs.Literals.{one, two, row, row_of}
use Rattle.literals.specs.Reports.{malformed_in}
use Rattle.literals.specs.Operate.{outcome, operate_of}
use Rattle.literals.proofs.WayLaws.{one_lacking, one_malformed, one_done, two_lacking, two_malformed, two_too_big, two_done}
use Rattle.odd.specs.Mending.{odd_in, odd_pair, mended_top, odd_there, mended_put}

-- Of operands that are not odd, both editions refuse a literal with one report, or both store a number with k above it: the shipped one n, the mended one m.
pub record Refuses (s : List ℕ) (d l : ℕ) : Type 0 where
  report : ℕ
  some : report ≡ 0 → ⊥
  both : (ed : Edition) → operate_of ed s d l ≡ (outcome report d, s)

pub record Stores (s : List ℕ) (d l k : ℕ) (n m : Number) : Type 0 where
  there : lacking s d (k + 1) ≡ false
  shipped : operate_of Shipped s d l ≡ (outcome 0 (d - k), put_at s d k n)
  mends : operate_of Mended s d l ≡ (outcome 0 (d - k), put_at s d k m)

module _ (s : List ℕ) (d l : ℕ) where
  refused : (p : ℕ) → (p ≡ 0 → ⊥) → ((ed : Edition) → operate_of ed s d l ≡ (outcome p d, s)) → Refuses s d l
  refused p n h = record { report = p; some = n; both = h }

  -- the same number
  same : {k : ℕ} {n : Number} → Refuses s d l ⊎ Stores s d l k n n → operate_of Mended s d l ≡ operate_of Shipped s d l
  same (inl r) = r.both Mended ∙ sym (r.both Shipped)
  same (inr t) = t.mends ∙ sym t.shipped

  -- a mended one: what the code finds on top after the shipped edition's literal, with its report q, and mends
  module _ (q d' : ℕ) (s' : List ℕ) (e : operate_of Shipped s d l ≡ (outcome q d', s')) where
    abbrev pub Follows : Edition → Type 0
    Follows ed = ((q ≡ 0 → ⊥) → operate_of ed s d l ≡ (outcome q d', s')) × (q ≡ 0 → operate_of ed s d l ≡ (outcome 0 d', mended_top ed s' d'))

    follows_shipped : Follows Shipped
    follows_shipped = ((λ n. e), (λ z. e ∙ ap (λ (p : ℕ). (outcome p d', s')) z))

    follows : {k : ℕ} {n : Number} → Refuses s d l ⊎ Stores s d l k n (mended n) → Follows Mended
    follows (inl r) =
        let is = sym (r.both Shipped) ∙ e in
        ((λ c. r.both Mended ∙ is), (λ z. absurd (r.some (ap (λ (o : Outcome × List ℕ). o.0.report) is ∙ z))))
    follows {k} {n} (inr t) =
        let is = sym t.shipped ∙ e in (
          (λ c. absurd (c (sym (ap (λ (o : Outcome × List ℕ). o.0.report) is)))),
          (λ z.
              t.mends
              ∙ ap (λ (u : List ℕ). (outcome 0 (d - k), u)) (sym (mended_put s d k t.there n))
              ∙ ap (λ (o : Outcome × List ℕ). (outcome 0 o.0.depth, mended_top Mended o.1 o.0.depth)) is),
        )

-- the stack by another name
pub leaves : {o : Outcome × List ℕ} {d : ℕ} {t u : List ℕ} → o ≡ (outcome 0 d, t) → u ≡ t → o ≡ (outcome 0 d, u)
leaves {d = d} e f = e ∙ ap (λ (v : List ℕ). (outcome 0 d, v)) (sym f)

refusal_some : (s : List ℕ) (d t : ℕ) → refusal_of s d t ≡ 0 → ⊥
unfolding refusal_of
refusal_some s d t = go (over_limits s d) (ltb d t)
  where
    go : (a b : Bool) → ◌≡◌ {A = ℕ} (cond a 1 (cond b 2 4)) 0 → ⊥
    go true b e = omega arith
    go false true e = omega arith
    go false false e = omega arith

-- ---- a literal that looks at the top

module _ (s : List ℕ) (d l : ℕ) (f : Edition → Number → Answer) (r : row_of l ≡ row l (one f) 1 1) where
  abbrev x : Number
  x = number_at s d 0

  pub top_refused : (ed : Edition) → odd_in ed x ≡ true → operate_of ed s d l ≡ (outcome 3 d, s)
  top_refused Shipped h = absurd (false≢true h)
  top_refused Mended h = one_malformed Mended s d l f r (odd_there s d 0 h) (ap (λ (t : Bool). malformed x || t) h ∙ or-true (malformed x))

  ways : (n m : Number) → f Shipped x ≡ Some n → f Mended x ≡ Some m → odd x ≡ false → Refuses s d l ⊎ Stores s d l 0 n m
  ways n m g h o = go (lacking s d 1) (malformed x) refl refl
    where
      formless : (ed : Edition) → malformed x ≡ true → malformed_in ed x ≡ true
      formless Shipped b = b
      formless Mended b = simp b

      none_above : (v : Number) → ◌≡◌ {A = Outcome × List ℕ} (outcome 0 d, put_at s d 0 v) (outcome 0 (d - 0), put_at s d 0 v)
      none_above v = let same : d ≡ d - 0 = omega arith in ap (λ (e : ℕ). (outcome 0 e, put_at s d 0 v)) same

      go : (a b : Bool) → lacking s d 1 ≡ a → malformed x ≡ b → Refuses s d l ⊎ Stores s d l 0 n m
      go true b i j = inl (refused s d l (refusal_of s d 1) (refusal_some s d 1) (λ ed. one_lacking ed s d l f r i (refusal_of s d 1) refl))
      go false true i j = inl (refused s d l 3 (λ z. omega arith) (λ ed. one_malformed ed s d l f r i (formless ed j)))
      go false false i j =
          inr (record { there = i; shipped = one_done Shipped s d l f r i n j g ∙ none_above n; mends = one_done Mended s d l f r i m (simp (j, o)) h ∙ none_above m })

  module _ (n : Number) (g : f Shipped x ≡ Some n) where
    pub top_same : (ed : Edition) → odd_in ed x ≡ false → f Mended x ≡ f Shipped x → operate_of ed s d l ≡ operate_of Shipped s d l
    top_same Shipped o h = refl
    top_same Mended o h = same s d l (ways n n g (h ∙ g) o)

    pub top_follows : (q d' : ℕ) (s' : List ℕ) (e : operate_of Shipped s d l ≡ (outcome q d', s')) (ed : Edition) → odd_in ed x ≡ false
        → (ed ≡ Mended → f Mended x ≡ Some (mended n)) → Follows s d l q d' s' e ed
    top_follows q d' s' e Shipped o h = follows_shipped s d l q d' s' e
    top_follows q d' s' e Mended o h = follows s d l q d' s' e (ways n (mended n) g (h refl) o)

-- ---- a literal that looks at the two on top

-- two of four, in the order that the reports ask them
some_second : (a b c e : Bool) → b || e ≡ true → (a || b) || (c || e) ≡ true
some_second true b c e h = refl
some_second false true c e h = refl
some_second false false c e h = ap (λ (t : Bool). c || t) h ∙ or-true c

some_first : (a b c e : Bool) → a || c ≡ true → (a || b) || (c || e) ≡ true
some_first true b c e h = refl
some_first false b true e h = or-true b
some_first false b false e h = absurd (false≢true h)

none_of : (a b c e : Bool) → a || c ≡ false → b || e ≡ false → (a || b) || (c || e) ≡ false
none_of false false false false h k = refl
none_of true b c e h k = absurd (false≢true (sym h))
none_of false b true e h k = absurd (false≢true (sym h))
none_of false true false e h k = absurd (false≢true (sym k))
none_of false false false true h k = absurd (false≢true (sym k))

module _ (s : List ℕ) (d l : ℕ) (f : Edition → Number → Number → Answer) (r : row_of l ≡ row l (two f) 2 1) where
  abbrev lower : Number
  lower = number_at s d 1

  abbrev upper : Number
  upper = number_at s d 0

  pub pair_refused : (ed : Edition) → odd_pair ed s d ≡ true → operate_of ed s d l ≡ (outcome 3 d, s)
  unfolding odd_pair
  pair_refused ed = go ed (lacking s d 2) refl
    where
      go : (v : Edition) (a : Bool) → lacking s d 2 ≡ a → cond a false (odd_in v lower || odd_in v upper) ≡ true → operate_of v s d l ≡ (outcome 3 d, s)
      go v true k h = absurd (false≢true h)
      go Shipped false k h = absurd (false≢true h)
      go Mended false k h = two_malformed Mended s d l f r k (some_second (malformed lower) (odd lower) (malformed upper) (odd upper) h)

  -- well formed, where neither is odd
  pub formed : (ed : Edition) → lacking s d 2 ≡ false → odd_pair ed s d ≡ false → malformed lower || malformed upper ≡ false → malformed_in ed lower || malformed_in ed upper ≡ false
  unfolding odd_pair
  formed Shipped i o m = m
  formed Mended i o m = none_of (malformed lower) (odd lower) (malformed upper) (odd upper) m (simp i at o)

  pub formless : (ed : Edition) → malformed lower || malformed upper ≡ true → malformed_in ed lower || malformed_in ed upper ≡ true
  formless Shipped m = m
  formless Mended m = some_first (malformed lower) (odd lower) (malformed upper) (odd upper) m

  pair_ways : (g : Number → Number) → ((n : Number) → f Shipped lower upper ≡ Some n → f Mended lower upper ≡ Some (g n)) → (f Shipped lower upper ≡ None → f Mended lower upper ≡ None)
      → odd_pair Mended s d ≡ false → Refuses s d l ⊎ ((n : Number) × Stores s d l 1 n (g n))
  pair_ways g h b o = go (lacking s d 2) (malformed lower || malformed upper) (f Shipped lower upper) refl refl refl
    where
      go : (p q : Bool) (c : Answer) → lacking s d 2 ≡ p → malformed lower || malformed upper ≡ q → f Shipped lower upper ≡ c
          → Refuses s d l ⊎ ((n : Number) × Stores s d l 1 n (g n))
      go true q c i j k = inl (refused s d l (refusal_of s d 2) (refusal_some s d 2) (λ ed. two_lacking ed s d l f r i (refusal_of s d 2) refl))
      go false true c i j k = inl (refused s d l 3 (λ z. omega arith) (λ ed. two_malformed ed s d l f r i (formless ed j)))
      go false false None i j k = inl (refused s d l 6 (λ z. omega arith) each)
        where
          each : (ed : Edition) → operate_of ed s d l ≡ (outcome 6 d, s)
          each Shipped = two_too_big Shipped s d l f r i j k
          each Mended = two_too_big Mended s d l f r i (formed Mended i o j) (b k)
      go false false (Some n) i j k =
          inr (n, record { there = i; shipped = two_done Shipped s d l f r i j n k; mends = two_done Mended s d l f r i (formed Mended i o j) (g n) (h n k) })

  pub pair_same : (ed : Edition) → odd_pair ed s d ≡ false → f Mended lower upper ≡ f Shipped lower upper → operate_of ed s d l ≡ operate_of Shipped s d l
  pair_same Shipped o h = refl
  pair_same Mended o h = go (pair_ways (λ n. n) (λ n k. h ∙ k) (λ k. h ∙ k) o)
    where
      go : Refuses s d l ⊎ ((n : Number) × Stores s d l 1 n n) → operate_of Mended s d l ≡ operate_of Shipped s d l
      go (inl t) = same s d l {k = 1} {n = lower} (inl t)
      go (inr (n, t)) = same s d l (inr t)

  pub pair_follows : (q d' : ℕ) (s' : List ℕ) (e : operate_of Shipped s d l ≡ (outcome q d', s')) (ed : Edition) → odd_pair ed s d ≡ false
      → f Mended lower upper ≡ mended_answer (f Shipped lower upper) → Follows s d l q d' s' e ed
  pair_follows q d' s' e Shipped o h = follows_shipped s d l q d' s' e
  pair_follows q d' s' e Mended o h = go (pair_ways mended (λ n k. h ∙ ap mended_answer k) (λ k. h ∙ ap mended_answer k) o)
    where
      go : Refuses s d l ⊎ ((n : Number) × Stores s d l 1 n (mended n)) → Follows s d l q d' s' e Mended
      go (inl t) = follows s d l q d' s' e {k = 1} {n = lower} (inl t)
      go (inr (n, t)) = follows s d l q d' s' e (inr t)
