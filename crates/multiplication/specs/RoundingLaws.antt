-- The theorems of `Rounding` hold of any two numbers.
use Rattle.std.specs.Prelude.{◌≡◌, refl, ◌↔◌, ◌⊎◌, Bool, true, false, cond, ℕ, ◌+◌, ◌*◌, ◌-◌, ◌^◌, ◌/◌, ◌%◌, ◌≤◌, ◌<◌, ltb, leb, eqb, Some, None}
use Rattle.std.proofs.Common.{sym, ◌∙◌, ap, ap₂, subst, inl, inr, ⊎_elim, mul-le-mul, eq-zero-or-pos, arith, leb-true, leb-false, ltb-true, ltb-false, eqb-true}
use Rattle.std.proofs.lemmas.Bool.{eqb-false}
use Rattle.number.specs.declared.Number.{Number}
use Rattle.number.specs.Number.{mantissa, full_of, short_magnitude, short_of}
use Rattle.number.specs.NumberLaws.{Bytes, sign_full}
use Rattle.number.specs.Restack.{full_of_short, restacked, CountsAsZero}
use Rattle.number.proofs.RestackLaws.{restack_full, restack_some, restack_zero}
use Rattle.number.proofs.RestackValueLaws.{full_of_short_lem, restacked_sign}
use Rattle.number.proofs.RestackNegated.{short_parts}
use Rattle.ending.specs.Ending.{loose, closed, Answer}
use Rattle.ending.proofs.EndingLaws.{closed_too_big, closed_too_big_only, closed_stored}
use Rattle.division.specs.Demand3.{nearest}
use Rattle.division.specs.Operand.{IsFull, restacked_full}
use Rattle.multiplication.specs.Multiplication.{both_short, short_product, stays_short, short_stored, sign_of_two, taken, product_mantissa, restacked_product, product_of}
use Rattle.multiplication.specs.MultiplicationLaws.{both_zero, product_restacked, product_beyond, bounds, mantissa_bounds, is_ended, ended_low, ended_high, zero_first, zero_second}
use Rattle.multiplication.specs.ShortProduct.{product_some, full_route_exact}
use Rattle.multiplication.specs.Rounding.{Overflows, ProductTooBig, Rounded, Result, Products}

-- ---- of two full numbers

-- the top bit goes without saying
kept : (s n m : ℕ) → 2 ^ 31 ≤ m → m < 2 ^ 32 → mantissa (full_of s n (m % 2 ^ 31)) ≡ m
kept s n m h g = omega arith

all_clear : (s n m : ℕ) → m ≡ 2 ^ 32 → mantissa (full_of s n (m % 2 ^ 31)) ≡ 2 ^ 31
all_clear s n m h = omega arith

module _ (x y : Number) (f : IsFull x) (g : IsFull y) where
  abbrev p : ℕ
  p = mantissa x * mantissa y

  abbrev s : ℕ
  s = sign_of_two x y

  -- the exponent + 256, before the rounding
  abbrev e : ℕ
  e = x.b1 + y.b1 + 256 - taken p

  abbrev m : ℕ
  m = product_mantissa p

  -- the carry, by P
  record Carry : Type 0 where
    over : (511 < e + m / 2 ^ 32) ↔ Overflows x.b1 y.b1 p
    stored : (n : ℕ) → n + 256 ≡ e + m / 2 ^ 32 → Rounded x.b1 y.b1 p (full_of s n (m % 2 ^ 31))

  carry : Carry
  carry = go (leb (2 ^ 63) p) refl
    where
      k : ℕ
      k = x.b1 + y.b1

      sum_cases : 383 < k → (384 < k) ⊎ (k ≡ 384)
      sum_cases h = by (ltb 384 k) refl
        where
          by : (b : Bool) → ltb 384 k ≡ b → (384 < k) ⊎ (k ≡ 384)
          by true i = inl (ltb-true _ _ i)
          by false i = inr (omega (arith, ltb-false 384 k i))

      go : (b : Bool) → leb (2 ^ 63) p ≡ b → Carry
      go true i =
          let large = leb-true (2 ^ 63) p i in
          let is : m ≡ nearest p (2 ^ 32) = simp i in
          let less : taken p ≡ 128 = simp i in
          let most = bounds x y f g in
          let none : m / 2 ^ 32 ≡ 0 = omega arith in
          let low : 2 ^ 31 ≤ m = omega arith in
          let high : m < 2 ^ 32 = omega arith in
          record {
            over = ((λ h. ⊎_elim inl (λ q. inr (q, omega arith)) (sum_cases (omega arith))), ⊎_elim (λ h. omega arith) (λ h. omega arith));
            stored = λ n h. inl (omega arith, kept s n m low high ∙ is);
          }
      go false i =
          let small = leb-false (2 ^ 63) p i in
          let is : m ≡ nearest p (2 ^ 31) = simp i in
          let less : taken p ≡ 129 = simp i in
          let high = (mantissa_bounds x y f g).1 in
          record {
            over = (
              (λ h. ⊎_elim inl (λ q. inr (q, omega arith)) (sum_cases (omega arith))),
              ⊎_elim (λ h. omega arith) (λ h. let up : m ≡ 2 ^ 32 = omega arith in omega arith),
            );
            stored = by (eqb m (2 ^ 32)) refl;
          }
        where
          by : (b : Bool) → eqb m (2 ^ 32) ≡ b → (n : ℕ) → n + 256 ≡ e + m / 2 ^ 32 → Rounded x.b1 y.b1 p (full_of s n (m % 2 ^ 31))
          by true j n h =
              let small = leb-false (2 ^ 63) p i in
              let is : m ≡ nearest p (2 ^ 31) = simp i in
              let up = eqb-true m (2 ^ 32) j in
              let less : taken p ≡ 129 = simp i in
              let near : nearest p (2 ^ 32) ≡ 2 ^ 31 = omega arith in
              inl (omega arith, all_clear s n m up ∙ sym near)
          by false j n h =
              let small = leb-false (2 ^ 63) p i in
              let is : m ≡ nearest p (2 ^ 31) = simp i in
              let most = mantissa_bounds x y f g in
              let below : m < 2 ^ 32 = omega (arith, eqb-false m (2 ^ 32) j) in
              let less : taken p ≡ 129 = simp i in
              inr (omega arith, kept s n m most.0 below ∙ is)

  -- E of 1 or more
  high_closed : 256 < e → restacked_product x y ≡ closed s (loose (m % 2 ^ 31) (e + m / 2 ^ 32) 0)
  high_closed h = is_ended x y f g ∙ ended_high s m e h (mantissa_bounds x y f g).1

  -- The full route, whether or not it is taken: its number is full.
  full_result : (E : ℕ) → E + taken p ≡ x.b1 + y.b1 → 1 ≤ E → ¬ Overflows x.b1 y.b1 p
      → (number : Number) × (restacked_product x y ≡ Some number) × Result x.b1 y.b1 p s number
  full_result E h one fit =
      let c = carry in
      let n = e + m / 2 ^ 32 - 256 in
      let is : e ≡ E + 256 = omega arith in
      let fits : ¬ (511 < e + m / 2 ^ 32) = λ o. fit (c.over.0 o) in
      let number = full_of s n (m % 2 ^ 31) in (
        number,
        high_closed (omega arith)
            ∙ closed_stored s (loose (m % 2 ^ 31) (e + m / 2 ^ 32) 0) (omega arith) (omega arith)
            ∙ ap (λ (t : ℕ). Some (full_of s n t)) {x = m % 2 ^ 31 + 0 % 2} {y = m % 2 ^ 31} (omega arith),
        record { rounded = subst (Rounded x.b1 y.b1 p) (sym (restack_full number (omega arith))) (c.stored n (omega arith)); signs = sign_full s n (m % 2 ^ 31) (omega arith) },
      )

  full_report6 : (restacked_product x y ≡ None) ↔ Overflows x.b1 y.b1 p
  full_report6 = (
    (λ h. by (ltb 256 e) refl h),
    (λ o.
        let c = carry.over.1 o in
        let most = (mantissa_bounds x y f g).1 in
        high_closed (omega arith) ∙ closed_too_big s (loose (m % 2 ^ 31) (e + m / 2 ^ 32) 0) c),
  )
    where
      by : (b : Bool) → ltb 256 e ≡ b → restacked_product x y ≡ None → Overflows x.b1 y.b1 p
      by true i h = carry.over.0 (closed_too_big_only s (loose (m % 2 ^ 31) (e + m / 2 ^ 32) 0) (sym (high_closed (ltb-true _ _ i)) ∙ h))
      by false i h =
          let low = ltb-false 256 e i in
          absurd (omega (arith, closed_too_big_only s (loose 0 e 0) (sym (is_ended x y f g ∙ ended_low s m 0 e low) ∙ h)))

-- ---- of any two, neither counting as zero

module _ (x y : Number) (bx : Bytes x) (by : Bytes y) (nx : ¬ CountsAsZero x) (ny : ¬ CountsAsZero y) where
  abbrev a : ℕ
  a = (restacked x).b1

  abbrev b : ℕ
  b = (restacked y).b1

  abbrev P : ℕ
  P = mantissa (restacked x) * mantissa (restacked y)

  -- by the full route
  by_full : Products a b P (sign_of_two x y) (restacked_product (restacked x) (restacked y))
  by_full =
      let fx = restacked_full x bx nx in
      let fy = restacked_full y by ny in
      subst (λ (s : ℕ). Products a b P s (restacked_product (restacked x) (restacked y)))
      (ap₂ (λ (k l : ℕ). (k + l) % 2) (restacked_sign x bx nx) (restacked_sign y by ny))
      (record { report6 = full_report6 (restacked x) (restacked y) fx fy; result = full_result (restacked x) (restacked y) fx fy })

  -- stored short, which is worth the same
  by_short : x.b1 ≡ 0 → y.b1 ≡ 0 → short_product x y ≤ 65535 → Products a b P (sign_of_two x y) (product_of x y)
  by_short hx hy l =
      let s = sign_of_two x y in
      let v = short_product x y in
      let mx : ¬ (short_magnitude x ≡ 0) = λ e. nx (restack_zero x hx e) in
      let my : ¬ (short_magnitude y ≡ 0) = λ e. ny (restack_zero y hy e) in
      let some : 1 ≤ v = mul-le-mul {n₁ = 1} {m₁ = 1} (omega arith) (omega arith) in
      let parts = short_parts s v (omega arith) (omega arith) in
      let is = product_some x y hx hy (omega arith) l in
      let exact = full_route_exact x y hx hy (omega arith) (omega arith) (omega arith) in
      let stands = restack_some (short_of s v) refl (λ e. omega (arith, parts.1)) ∙ ap₂ full_of_short parts.0 parts.1 in
      let full : 129 ≤ (full_of_short s v).b1 = (full_of_short_lem s v (omega arith) (omega arith) (omega arith)).low_exponent in
      record {
        report6 = (
          (λ h. absurd (let o : ◌≡◌ {A = ℕ} 0 1 = cc (is, h) in omega arith)),
          (λ h. absurd (let t = by_full.report6.1 h in let o : ◌≡◌ {A = ℕ} 0 1 = cc (exact, t) in omega arith)),
        );
        result = λ E h one fit.
            let r = by_full.result E h one fit in
            let same : r.0 ≡ full_of_short s v = cc (r.1, exact) in (
              short_of s v,
              is,
              record {
                rounded = subst (Rounded a b P) (ap restacked same ∙ restack_full (full_of_short s v) (omega arith) ∙ sym stands) r.2.rounded;
                signs = parts.0;
              },
            );
      }

  -- A1's theorem, and the digits
  pub products : Products a b P (sign_of_two x y) (product_of x y)
  products = go (both_short x y) (leb (short_product x y) 65535) refl refl
    where
      go : (c d : Bool) → both_short x y ≡ c → leb (short_product x y) 65535 ≡ d → Products a b P (sign_of_two x y) (product_of x y)
      go true true i j = let z = both_zero x y i in by_short z.0 z.1 (leb-true _ _ j)
      go true false i j = let z = both_zero x y i in subst (Products a b P (sign_of_two x y)) (sym (product_beyond x y z.0 z.1 (leb-false _ _ j))) by_full
      go false d i j = subst (Products a b P (sign_of_two x y)) (sym (product_restacked x y i)) by_full

-- a number by the full route is a number by either
restacked_done : (x y : Number) {n : Number} → restacked_product (restacked x) (restacked y) ≡ Some n → (m : Number) × (product_of x y ≡ Some m)
unfolding product_of
restacked_done x y {n} h = go (stays_short x y)
  where
    go : (c : Bool) → (m : Number) × (cond c (Some (short_stored (sign_of_two x y) (short_product x y))) (restacked_product (restacked x) (restacked y)) ≡ Some m)
    go true = (short_stored (sign_of_two x y) (short_product x y), refl)
    go false = (n, h)

done_only : {r : Answer} → (m : Number) × (r ≡ Some m) → ¬ (r ≡ None)
done_only d t = let o : ◌≡◌ {A = ℕ} 0 1 = cc (d.1, t) in omega arith

-- report 6 of any two
pub product_too_big : (x y : Number) → Bytes x → Bytes y → (product_of x y ≡ None) ↔ ProductTooBig x y
product_too_big x y bx by = ((λ h. only h (eq-zero-or-pos (restacked x).b1) (eq-zero-or-pos (restacked y).b1)), (λ t. (products x y bx by t.0 t.1).report6.1 t.2))
  where
    only : product_of x y ≡ None → ((restacked x).b1 ≡ 0) ⊎ (0 < (restacked x).b1) → ((restacked y).b1 ≡ 0) ⊎ (0 < (restacked y).b1) → ProductTooBig x y
    only h (inl z) q = absurd (done_only (restacked_done x y (zero_first (restacked x) (restacked y) z)) h)
    only h (inr p) (inl z) = absurd (done_only (restacked_done x y (zero_second (restacked x) (restacked y) (omega arith) z)) h)
    only h (inr p) (inr q) =
        let nx : ¬ CountsAsZero x = λ e. omega (arith, ap (λ (n : Number). n.b1) e) in
        let ny : ¬ CountsAsZero y = λ e. omega (arith, ap (λ (n : Number). n.b1) e) in
        (nx, ny, (products x y bx by nx ny).report6.0 h)
