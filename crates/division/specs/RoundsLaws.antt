-- The quotient law: the first round and k later ones write the whole quotient of M times 2^k by N, and leave its remainder.
use Rattle.std.specs.Prelude.{◌≡◌, refl, Bool, true, false, ℕ, zero, suc, ◌+◌, ◌*◌, ◌-◌, ◌^◌, ◌/◌, ◌%◌, ◌≤◌, ◌<◌, leb}
use Rattle.std.proofs.Common.{sym, ap, ◌∙◌, add-mul, suc-mul, mul_assoc, pow-suc, mul-le-mul_right, arith, le-leb, leb-true, leb-false}
use Rattle.std.proofs.Math.Arith.{digits_div, digits_mod}
use Rattle.std.proofs.lemmas.Bool.{lt-leb}
use Rattle.edition.specs.declared.Edition.{Edition}
use Rattle.edition.specs.declared.Edition.TheVariants.{Shipped, Mended}
use Rattle.division.specs.Rounds.{Trial, trial, tried, left_doubled, rounds, digit34}

-- In units of n, the digits and what is left write v.
pub record Writes (n v : ℕ) (s : Trial) : Type 0 where
  pub whole : s.digits * n + s.left ≡ v
  pub less : s.left < n

writes_as : {n v w : ℕ} {s : Trial} → v ≡ w → Writes n v s → Writes n w s
writes_as e h = record { whole = h.whole ∙ e; less = h.less }

module _ (n : ℕ) (s : Trial) where
  tried_goes : n ≤ s.left → tried n s ≡ trial (2 * s.digits + 1) (s.left - n)
  unfolding tried
  tried_goes h = simp (le-leb _ _ h)

  tried_stays : s.left < n → tried n s ≡ trial (2 * s.digits) s.left
  unfolding tried
  tried_stays h = simp (lt-leb _ _ h)

  -- a try moves the digits up a place, and they and the rest write what they wrote
  tried_writes : s.left < 2 * n → Writes n (2 * (s.digits * n) + s.left) (tried n s)
  tried_writes h = by_test (leb n s.left) refl
    where
      by_test : (b : Bool) → leb n s.left ≡ b → Writes n (2 * (s.digits * n) + s.left) (tried n s)
      by_test true e =
          let g : n ≤ s.left = leb-true _ _ e in
          rw (tried_goes g)
          (record {
            whole = omega (arith, add-mul (2 * s.digits) 1 n, mul_assoc 2 s.digits n);
            less = omega arith;
          })
      by_test false e =
          let g : s.left < n = leb-false _ _ e in
          rw (tried_stays g) (record { whole = omega (arith, mul_assoc 2 s.digits n); less = g })

  digit_stays : s.left < n → (tried n s).digits % 2 ≡ 0
  digit_stays h = rw (tried_stays h) (omega arith)

  digit_goes : n ≤ s.left → (tried n s).digits % 2 ≡ 1
  digit_goes h = rw (tried_goes h) (omega arith)

module _ (n : ℕ) (s : Trial) where
  pub digit34_lt : (ed : Edition) → digit34 ed n s < 2
  digit34_lt Shipped = omega arith
  digit34_lt Mended = omega arith

  -- "The 34th is 0": after the rounds, what is left is below n.
  pub digit34_zero : s.left < n → digit34 Shipped n s ≡ 0
  digit34_zero h = digit_stays n _ (omega arith)

  -- Tried after a doubling, it is 1 where twice what is left is n or more.
  pub digit34_goes : n ≤ 2 * s.left → digit34 Mended n s ≡ 1
  digit34_goes h = digit_goes n (left_doubled s) h

  pub digit34_stays : 2 * s.left < n → digit34 Mended n s ≡ 0
  digit34_stays h = digit_stays n (left_doubled s) h

-- The quotient law, for any number of rounds: Q * N + R = M * 2^k, and R is below N.
pub quotient_law : (m n later : ℕ) → m < 2 * n → Writes n (m * 2 ^ later) (rounds m n later)
unfolding rounds
quotient_law m n zero h = writes_as (omega arith) (tried_writes n (trial 0 m) h)
quotient_law m n (suc k) h =
    let before : Writes n (m * 2 ^ k) (rounds m n k) = quotient_law m n k h in
    writes_as (omega (arith, ap (λ (p : ℕ). m * p) (pow-suc 2 k), mul_assoc m (2 ^ k) 2))
    (tried_writes n (left_doubled (rounds m n k)) (omega arith))

module _ {n v : ℕ} {s : Trial} (h : Writes n v s) where
  -- the digits are the quotient of one division
  pub writes_div : v / n ≡ s.digits
  writes_div = ap (λ (x : ℕ). x / n) (sym h.whole) ∙ digits_div s.digits h.less

  -- and what is left is its remainder
  pub writes_mod : v % n ≡ s.left
  writes_mod = ap (λ (x : ℕ). x % n) (sym h.whole) ∙ digits_mod s.digits h.less

  pub writes_at_least : (c : ℕ) → c * n ≤ v → c ≤ s.digits
  writes_at_least c g =
      let no : ¬ (s.digits < c) = λ f. omega (arith, mul-le-mul_right n f, suc-mul s.digits n) in
      omega arith

  pub writes_below : (c : ℕ) → v < c * n → s.digits < c
  writes_below c g = let no : ¬ (c ≤ s.digits) = λ f. omega (arith, mul-le-mul_right n f) in omega arith
