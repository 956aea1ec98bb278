-- Demand 3 holds of every division of two full numbers, in either edition. M below N takes one doubling, and the mantissa is the whole quotient, rounded by the
-- 34th digit; else it takes none, and the mantissa is half the quotient, rounded by digit 33.
use Rattle.std.specs.Prelude.{◌≡◌, refl, Bool, true, false, ◌↔◌, ◌⊎◌, ℕ, ◌+◌, ◌*◌, ◌-◌, ◌^◌, ◌/◌, ◌%◌, ◌≤◌, ◌<◌, ltb, None}
use Rattle.std.proofs.Common.{sym, ◌∙◌, inl, inr, mul_comm, add-mul, mul_assoc, eq-zero-or-pos, arith, ltb-true, ltb-false, lt-ltb, le-ltb}
use Rattle.std.proofs.Math.Path.{ap}
use Rattle.std.proofs.Math.Nat.{div-div-eq-div-mul}
use Rattle.std.proofs.Math.Arith.{digits_div}
use Rattle.edition.specs.declared.Edition.{Edition}
use Rattle.edition.specs.declared.Edition.TheVariants.{Shipped, Mended}
use Rattle.number.specs.declared.Number.{Number}
use Rattle.number.specs.Number.{zeros, mantissa, full_of}
use Rattle.number.specs.NumberLaws.{Bytes, mantissa_full}
use Rattle.number.specs.Restack.{restacked, CountsAsZero}
use Rattle.number.proofs.RestackValueLaws.{restacked_zero}
use Rattle.ending.specs.Ending.{Loose, loose, rounded, closed, Answer}
use Rattle.ending.proofs.EndingLaws.{closed_too_big, closed_too_big_only, closed_stored}
use Rattle.division.specs.Rounds.{Mantissas, rounds33, digit34}
use Rattle.division.specs.RoundsLaws.{Writes, digit34_zero, digit34_goes, digit34_stays}
use Rattle.division.specs.Division.{ended_rounds, full_quotient, quotient_of}
use Rattle.division.specs.DivisionLaws.{last}
use Rattle.division.proofs.DivisionLaws.{rounds33_write, rounds33_low, rounds33_below, rounds33_doubled, rounds33_above, ended_doubled, ended_whole_lem, quotient_by_zero, quotient_of_zero, quotient_full}
use Rattle.division.specs.Operand.{restacked_full}
use Rattle.division.specs.Demand3.{nearest, added, exact, R, Exception, Demand3, QuotientTooBig}

-- v / n rounded, where twice v and n over are c times n and a rest
nearest_is : (v n c : ℕ) {d : ℕ} → 2 * v + n ≡ c * n + d → d < n → nearest v n ≡ c / 2
nearest_is v n c {d} e h =
    ap (λ (k : ℕ). (2 * v + n) / k) (mul_comm 2 n) ∙ sym (div-div-eq-div-mul (2 * v + n) n 2)
    ∙ ap (λ (k : ℕ). k / n / 2) e ∙ ap (λ (k : ℕ). k / 2) (digits_div c h)

module _ (ed : Edition) (s a b m n : ℕ) (are : Mantissas m n) (bh : b < 256) where
  abbrev Q : ℕ
  Q = (rounds33 m n).digits

  abbrev answer : Answer
  answer = ended_rounds ed s (a + 129 + 256 - b) n (rounds33 m n)

  writes : Writes n (m * 2 ^ 32) (rounds33 m n)
  writes = rounds33_write m n are

  -- What the ending comes to: the loose number that is closed, and its mantissa when the next digit is added.
  record Ends : Type 0 where
    l : Loose
    is : answer ≡ closed s l
    e_is : l.e + b ≡ a + added m n + 256
    low : 2 ^ 31 ≤ rounded l
    high : rounded l < 2 ^ 32
    as_nearest : ¬ Exception m n ed → rounded l ≡ nearest (exact m n) n
    below_nearest : Exception m n ed → rounded l + 1 ≡ nearest (exact m n) n

  -- the whole quotient, rounded to nearest, by twice the remainder
  half_up : m < n → n ≤ 2 * R m n → nearest (m * 2 ^ 32) n ≡ Q + 1
  half_up h g =
      let twice : (2 * Q) * n ≡ 2 * (Q * n) = mul_assoc 2 Q n in
      let near = nearest_is (m * 2 ^ 32) n (2 * Q + 2) {d = 2 * R m n - n} (omega (arith, add-mul (2 * Q) 2 n, writes.whole)) (omega (arith, writes.less)) in
      omega arith

  half_down : m < n → 2 * R m n < n → nearest (m * 2 ^ 32) n ≡ Q
  half_down h g =
      let twice : (2 * Q) * n ≡ 2 * (Q * n) = mul_assoc 2 Q n in
      let near = nearest_is (m * 2 ^ 32) n (2 * Q + 1) {d = 2 * R m n} (omega (arith, add-mul (2 * Q) 1 n, writes.whole)) g in
      omega arith

  -- what the 34th digit makes of it: where it is always 0 the exception is left
  by_last : (v : Edition) → m < n → (¬ Exception m n v → nearest (m * 2 ^ 32) n ≡ Q + digit34 v n (rounds33 m n) % 2)
      × (Exception m n v → nearest (m * 2 ^ 32) n ≡ Q + digit34 v n (rounds33 m n) % 2 + 1)
  by_last Shipped h =
      let none = digit34_zero n (rounds33 m n) writes.less in (
        (λ no_exception. let g : ¬ (n ≤ 2 * R m n) = λ f. no_exception (h, f) in omega (arith, half_down h (omega arith))),
        (λ exception. omega (arith, half_up h exception.1)),
      )
  by_last Mended h = ((λ no_exception. go (ltb (2 * R m n) n) refl), (λ exception. absurd exception))
    where
      go : (t : Bool) → ltb (2 * R m n) n ≡ t → nearest (m * 2 ^ 32) n ≡ Q + digit34 Mended n (rounds33 m n) % 2
      go true e = let g = ltb-true _ _ e in let d = digit34_stays n (rounds33 m n) g in omega (arith, half_down h g)
      go false e = let g = ltb-false _ _ e in let d = digit34_goes n (rounds33 m n) g in omega (arith, half_up h g)

  below : m < n → Ends
  below h =
      let add : added m n ≡ 128 = simp (lt-ltb m n h) in
      let same : nearest (m * 2 ^ 32) n ≡ nearest (exact m n) n = simp (lt-ltb m n h) in
      let ql = rounds33_low m n are in
      let qh = rounds33_doubled m n are h in
      let near = by_last ed h in
      record {
        l = loose Q (a + 129 + 256 - b - 1) (last m n are ed);
        is = ended_doubled m n are ed s (a + 129 + 256 - b) (omega arith);
        e_is = omega arith;
        low = omega arith;
        high = omega arith;
        as_nearest = λ no_exception. sym (near.0 no_exception) ∙ same;
        below_nearest = λ exception. sym (near.1 exception) ∙ same;
      }

  -- the exception is of M below N alone
  none_above : (v : Edition) → n ≤ m → ¬ Exception m n v
  none_above Shipped h x = omega (arith, x.0)
  none_above Mended h x = x

  not_below : n ≤ m → Ends
  not_below h =
      let add : added m n ≡ 129 = simp (le-ltb m n h) in
      let all : exact m n ≡ m * 2 ^ 31 = simp (le-ltb m n h) in
      let ql = rounds33_above m n are h in
      let qh = rounds33_below m n are in
      let near = nearest_is (exact m n) n (Q + 1) {d = R m n} (omega (arith, add-mul Q 1 n, writes.whole)) writes.less in
      record {
        l = loose (Q / 2) (a + 129 + 256 - b) (Q % 2);
        is = ended_whole_lem m n are ed s (a + 129 + 256 - b) ql;
        e_is = omega arith;
        low = omega arith;
        high = omega arith;
        as_nearest = λ no_exception. omega arith;
        below_nearest = λ exception. absurd (none_above ed h exception);
      }

  ends : Ends
  ends = by_test (ltb m n) refl
    where
      by_test : (c : Bool) → ltb m n ≡ c → Ends
      by_test true h = below (ltb-true _ _ h)
      by_test false h = not_below (ltb-false _ _ h)

  plain_demand3 : Demand3 m n ed a b answer
  plain_demand3 =
      let e = ends in
      let l = e.l in
      record {
        digits = record { mantissas = are; quotient = writes.whole; remainder = writes.less };
        report6 = (
          (λ big. omega (arith, closed_too_big_only s l (sym e.is ∙ big))),
          (λ big. e.is ∙ closed_too_big s l (omega arith)),
        );
        result = λ E is one top.
            let same = mantissa_full s (l.e - 256) (rounded l) e.low e.high in (
              full_of s (l.e - 256) (rounded l),
              e.is ∙ closed_stored s l (omega arith) (omega arith),
              record {
                exponent = omega arith;
                rounded = λ no_exception. same ∙ e.as_nearest no_exception;
                one_lower = λ exception. ap (λ (k : ℕ). k + 1) same ∙ e.below_nearest exception;
              },
            );
      }

-- Demand 3: of any two numbers, neither counting as zero.
module _ (ed : Edition) (x y : Number) (bx : Bytes x) (by : Bytes y) where
  pub demand3 : ¬ CountsAsZero x → ¬ CountsAsZero y →
      Demand3 (mantissa (restacked x)) (mantissa (restacked y)) ed (restacked x).b1 (restacked y).b1 (quotient_of ed x y)
  unfolding quotient_of full_quotient
  demand3 nx ny =
      let f = restacked_full x bx nx in
      let g = restacked_full y by ny in
      rw (quotient_full ed (restacked x) (restacked y) f g) (plain_demand3 ed _ _ _ _ _ (omega arith) (omega arith))

  -- report 6 of any two
  pub quotient_too_big : (quotient_of ed x y ≡ None) ↔ QuotientTooBig x y
  unfolding quotient_of
  quotient_too_big = ((λ e. only e (eq-zero-or-pos (restacked x).b1) (eq-zero-or-pos (restacked y).b1)), so)
    where
      other : (z : Number) → 0 < z.b1 → ¬ (z ≡ zeros)
      other z p e = omega (arith, ap (λ (n : Number). n.b1) e)

      only : quotient_of ed x y ≡ None → ((restacked x).b1 ≡ 0) ⊎ (0 < (restacked x).b1) → ((restacked y).b1 ≡ 0) ⊎ (0 < (restacked y).b1) → QuotientTooBig x y
      only e p (inl z) = inl (restacked_zero y by z)
      only e (inl z) (inr q) = absurd (let d = quotient_of_zero ed (restacked x) (restacked y) (omega arith) z in let o : ◌≡◌ {A = ℕ} 0 1 = cc in omega arith)
      only e (inr p) (inr q) = let nx = other (restacked x) p in let ny = other (restacked y) q in inr (nx, ny, (demand3 nx ny).report6.0 e)

      so : QuotientTooBig x y → quotient_of ed x y ≡ None
      so (inl z) = quotient_by_zero ed (restacked x) (restacked y) (ap (λ (n : Number). n.b1) z)
      so (inr (nx, ny, e)) = (demand3 nx ny).report6.1 e
