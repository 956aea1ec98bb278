-- The ending's laws: a law for each way through its definitions.
use Rattle.std.specs.Prelude.{◌≡◌, ◌⊎◌, Bool, ℕ, zero, suc, ◌+◌, ◌*◌, ◌-◌, ◌^◌, ◌%◌, ◌≤◌, ◌<◌, ltb, eqb, Some, None}
use Rattle.std.proofs.Math.Path.{refl, ap}
use Rattle.std.proofs.Common.{sym, ◌∙◌, inl, inr, eq-zero-or-pos, sub-one}
use Rattle.std.proofs.Math.Bool.{true, false, cond}
use native.Mathlib.Omega.{arith}
use borrow.Author.Tests.{lt-ltb, le-ltb, eq-eqb, ne_eqb, ltb-true, ltb-false}
use Rattle.number.specs.declared.Number.{Number}
use Rattle.number.specs.Number.{number, zeros, full_of}
use Rattle.ending.specs.Ending.{Loose, loose, doubled, normal, rounded, closed, ended, Answer}

-- the top bit is set: nothing is doubled
pub normal_set : (places : ℕ) (l : Loose) → 2 ^ 31 ≤ l.t → normal places l ≡ l
unfolding normal
normal_set zero l h = refl
normal_set (suc k) l h = simp (le-ltb _ _ h)

-- no place is left
pub normal_none : (places : ℕ) (l : Loose) → places ≡ 0 → normal places l ≡ l
unfolding normal
normal_none zero l h = refl
normal_none (suc k) l h = absurd (omega arith)

pub normal_again : (places : ℕ) (l : Loose) → (places ≡ 0 → ⊥) → l.t < 2 ^ 31 → normal places l ≡ normal (places - 1) (doubled l)
unfolding normal
normal_again zero l f h = absurd (f refl)
normal_again (suc k) l f h = simp (lt-ltb _ _ h, sub-one)

-- a doubling lowers the exponent by one, and there is one for each place at most
pub normal_exponent : (places : ℕ) (l : Loose) → (l.e ≤ (normal places l).e + places) × ((normal places l).e ≤ l.e)
unfolding normal
normal_exponent zero l = omega arith
normal_exponent (suc k) l = by_test (ltb l.t (2 ^ 31)) (normal_exponent k (doubled l))
  where
    by_test :
        (b : Bool) → (l.e - 1 ≤ (normal k (doubled l)).e + k) × ((normal k (doubled l)).e ≤ l.e - 1) →
        (l.e ≤ (cond b (normal k (doubled l)) l).e + suc k) × ((cond b (normal k (doubled l)) l).e ≤ l.e)
    by_test true h = omega arith
    by_test false h = omega arith

-- "this never reaches 2^32 here": a lone rounding digit is added to T, or it is taken in by a doubling and nothing is added
pub rounded_below : (places : ℕ) (l : Loose) → l.digits < 2 → rounded l < 2 ^ 32 → rounded (normal places l) < 2 ^ 32
unfolding normal
rounded_below zero l h g = g
rounded_below (suc k) l h g = by_test (ltb l.t (2 ^ 31)) refl (rounded_below k (doubled l) (omega arith))
  where
    by_test :
        (b : Bool) → ltb l.t (2 ^ 31) ≡ b → (rounded (doubled l) < 2 ^ 32 → rounded (normal k (doubled l)) < 2 ^ 32) →
        rounded (cond b (normal k (doubled l)) l) < 2 ^ 32
    by_test true e again = let low : l.t < 2 ^ 31 = ltb-true _ _ e in again (omega arith)
    by_test false e again = g

-- in addition, which hands over no digits
pub sum_rounded_below : (t e : ℕ) → t < 2 ^ 32 → rounded (normal 31 (loose t e 0)) < 2 ^ 32
sum_rounded_below t e h = rounded_below 31 (loose t e 0) (omega arith) (omega arith)

module _ (s : ℕ) (l : Loose) where
  pub closed_too_big : 511 < l.e → closed s l ≡ None
  unfolding closed
  closed_too_big h = simp (lt-ltb _ _ h)

  pub closed_below_zero : l.e < 256 → closed s l ≡ Some zeros
  unfolding closed
  closed_below_zero h = let g : l.e ≤ 511 = omega arith in simp (le-ltb _ _ g, lt-ltb _ _ h)

  pub closed_smallest : l.e ≡ 256 → closed s l ≡ Some (full_of s 1 (2 ^ 31))
  unfolding closed
  closed_smallest h =
      let g : l.e ≤ 511 = omega arith in let k : 256 ≤ l.e = omega arith in
      simp (le-ltb _ _ g, le-ltb _ _ k, eq-eqb _ _ h)

  pub closed_stored : 256 < l.e → l.e ≤ 511 → closed s l ≡ Some (full_of s (l.e - 256) (rounded l))
  unfolding closed
  closed_stored h g =
      let k : 256 ≤ l.e = omega arith in let f : l.e ≡ 256 → ⊥ = omega arith in
      simp (le-ltb _ _ g, le-ltb _ _ k, ne_eqb _ _ f)

  -- the digit that rounds may have been added before
  pub closed_rounded : closed s (loose (rounded l) l.e 0) ≡ closed s l
  unfolding closed
  closed_rounded =
      let same : rounded l + 0 % 2 ≡ rounded l = omega arith in
      ap (λ (m : ℕ). cond (ltb (255 + 256) l.e) None (cond (ltb l.e 256) (Some zeros) (cond (eqb l.e 256) (Some (full_of s 1 (2 ^ 31))) (Some (full_of s (l.e - 256) m))))) same

  -- no other way out is report 6
  pub closed_too_big_only : closed s l ≡ None → 511 < l.e
  unfolding closed
  closed_too_big_only h = ltb-true _ _ (first _ _ (done (ltb l.e 256) (eqb l.e 256) _ _ _) h)
    where
      first : (b : Bool) (r : Answer) → ¬ (r ≡ None) → cond b None r ≡ None → b ≡ true
      first true r f e = refl
      first false r f e = absurd (f e)

      done : (b c : Bool) (x y z : Number) → ¬ (cond b (Some x) (cond c (Some y) (Some z)) ≡ None)
      done true c x y z e = let o : ◌≡◌ {A = ℕ} 0 1 = cc in omega arith
      done false true x y z e = let o : ◌≡◌ {A = ℕ} 0 1 = cc in omega arith
      done false false x y z e = let o : ◌≡◌ {A = ℕ} 0 1 = cc in omega arith

-- at an exponent of 0 or below the magnitude does not count
pub closed_any : (s t u e : ℕ) → e ≤ 256 → closed s (loose t e 0) ≡ closed s (loose u e 0)
closed_any s t u e h = go (ltb e 256) refl
  where
    go : (b : Bool) → ltb e 256 ≡ b → closed s (loose t e 0) ≡ closed s (loose u e 0)
    go true i = let g = ltb-true e 256 i in closed_below_zero s (loose t e 0) g ∙ sym (closed_below_zero s (loose u e 0) g)
    go false i = let g : e ≡ 256 = omega (arith, ltb-false e 256 i) in closed_smallest s (loose t e 0) g ∙ sym (closed_smallest s (loose u e 0) g)

-- the top bit goes without saying
pub closed_low_bits : (s t e : ℕ) → closed s (loose t e 0) ≡ closed s (loose (t % 2 ^ 31) e 0)
unfolding closed
closed_low_bits s t e =
    let same : (t + 0) % 2 ^ 31 ≡ (t % 2 ^ 31 + 0) % 2 ^ 31 = omega arith in
    ap (λ (m : ℕ). cond (ltb (255 + 256) e) None (cond (ltb e 256) (Some zeros) (cond (eqb e 256) (Some (full_of s 1 (2 ^ 31))) (Some (number (e - 256) (m + 2 ^ 31 * (s % 2))))))) same

module _ (s t e digits : ℕ) where
  pub ended_zero : t ≡ 0 → ended s t e digits ≡ Some zeros
  unfolding ended
  ended_zero h = simp (eq-eqb _ _ h)

  pub ended_other : (t ≡ 0 → ⊥) → ended s t e digits ≡ closed s (normal 31 (loose t e digits))
  unfolding ended
  ended_other f = simp (ne_eqb _ _ f)

  -- an exponent below 0 stays there
  pub ended_below : e < 256 → ended s t e digits ≡ Some zeros
  ended_below h = go (eq-zero-or-pos t)
    where
      go : (t ≡ 0) ⊎ (0 < t) → ended s t e digits ≡ Some zeros
      go (inl z) = ended_zero z
      go (inr p) =
          let n = normal_exponent 31 (loose t e digits) in
          ended_other (omega arith) ∙ closed_below_zero s (normal 31 (loose t e digits)) (omega arith)

  -- an exponent up to 255 stays there
  pub ended_too_big_only : ended s t e digits ≡ None → 511 < e
  ended_too_big_only h = go (eq-zero-or-pos t)
    where
      go : (t ≡ 0) ⊎ (0 < t) → 511 < e
      go (inl z) = absurd (let d = ended_zero z in let o : ◌≡◌ {A = ℕ} 0 1 = cc in omega arith)
      go (inr p) =
          let l = normal 31 (loose t e digits) in
          let n = normal_exponent 31 (loose t e digits) in
          let b : 511 < l.e = closed_too_big_only s l (sym (ended_other (omega arith)) ∙ h) in
          omega arith

  -- the top bit is set already
  pub ended_set : 2 ^ 31 ≤ t → ended s t e digits ≡ closed s (loose t e digits)
  ended_set h = let f : t ≡ 0 → ⊥ = omega arith in rw (ended_other f, normal_set 31 (loose t e digits) h)

  -- one doubling sets it
  pub ended_once : 2 ^ 30 ≤ t → t < 2 ^ 31 → ended s t e digits ≡ closed s (doubled (loose t e digits))
  ended_once h g =
      let f : t ≡ 0 → ⊥ = omega arith in let d : 2 ^ 31 ≤ 2 * t + digits % 2 = omega arith in
      rw (ended_other f, normal_again 31 (loose t e digits) (omega arith) g, normal_set (31 - 1) (doubled (loose t e digits)) d)
