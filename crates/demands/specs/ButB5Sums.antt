-- A2, sums: what the short route stores over two numbers is the same but for b5, which is each one's own. So addition commutes but for b5 of a short or odd
-- result, and of numbers that are the same but for b5 sums, differences and int are the same, but for b5 again.
use Rattle.std.specs.Prelude.{ℕ, suc, ◌+◌, ◌*◌, ◌-◌, ◌^◌, ◌/◌, ◌≡◌, refl, Bool, true, false, cond, ◌&&◌, eqb, ltb, ℤ, pos, negsuc, neg_ℤ, ◌+ℤ◌}
use Rattle.ending.specs.Ending.{Answer}
use Rattle.std.proofs.Common.{sym, ◌∙◌, ap, ap₂, inr, arith, eqb-true, leb-true, ltb-true, ltb-false}
use Rattle.std.proofs.Math.Logic.{inl}
use Rattle.std.proofs.Math.Bool.{and_comm, and-eq-true_iff}
use Rattle.std.proofs.Math.Nat.{max_comm}
use Rattle.std.proofs.Math.IntN.{+ℤ_comm}
use Rattle.std.specs.Int.Signed.{le_z}
use Rattle.edition.specs.declared.Edition.{Edition}
use Rattle.edition.specs.declared.Edition.TheVariants.{Shipped, Mended}
use Rattle.number.specs.declared.Number.{Number}
use Rattle.number.specs.Number.{b2, b3, b4, b5, sign, complement_of, halves, stored_over, passes_zero_test}
use Rattle.number.specs.NumberLaws.{upper, word_of_lem}
use Rattle.number.specs.FormLaws.{form_short, form_odd, form_negative}
use Rattle.number.specs.Value.{short_value}
use Rattle.number.specs.Negate.{negated}
use Rattle.number.specs.Restack.{restacked}
use Rattle.addition.specs.Addition.{aligned, signed_mantissa, ended_sum, larger, aligned_sum, stored_short, short_sum, short_of_whole, written_short, full_route, short_route, sum_of, difference_of}
use Rattle.truncation.specs.Truncate.{truncated}
use Rattle.truncation.specs.Int.{short_one, step_down, int_of}
use Rattle.demands.specs.Independence.{Answers, done, both_too_big, answers_same}
use Rattle.demands.specs.Alike.{choice}
use Rattle.demands.specs.ButB5.{ShortOrOdd, ButB5, Like, four_of, form_same, b1_zero, parts_same}
use Rattle.demands.specs.ButB5Operations.{KeepsOne, KeepsTwo, negated_alike, truncated_alike}

-- what is stored short is short or odd
whole_form : (z : ℤ) → stored_short z ≡ true → ShortOrOdd (short_of_whole z)
whole_form (pos v) e = let small = leb-true v 65535 e in inl (form_short (short_of_whole (pos v)) refl (omega arith))
whole_form (negsuc v) e = go (ltb n.word (255 * 2 ^ 24 + 256)) refl
  where
    n : Number
    n = halves 255 (complement_of (suc v))

    go : (t : Bool) → ltb n.word (255 * 2 ^ 24 + 256) ≡ t → ShortOrOdd n
    go true h = inr (form_odd n refl (omega arith) (ltb-true _ _ h))
    go false h = inl (form_negative n refl (omega arith) (ltb-false _ _ h) (omega arith))

-- and so it is over a number that is not full, whose b5 alone stays
module _ (n : Number) (f : ShortOrOdd n) (x x' : Number) (h : x.b1 ≡ 0) (h' : x'.b1 ≡ 0) where
  over : (y : Number) → (stored_over y n).word / 2 ^ 8 ≡ b2 n * 2 ^ 16 + b3 n * 2 ^ 8 + b4 n
  over y = upper (b2 n) (b3 n) (b4 n) (b5 y) (omega arith)

  stored_alike : ButB5 (stored_over x n) (stored_over x' n)
  stored_alike =
      let own : n.word / 2 ^ 8 ≡ b2 n * 2 ^ 16 + b3 n * 2 ^ 8 + b4 n = ap (λ (w : ℕ). w / 2 ^ 8) (sym (word_of_lem n)) ∙ upper (b2 n) (b3 n) (b4 n) (b5 n) (omega arith) in
      record {
        four = four_of (stored_over x n) (stored_over x' n) (h ∙ sym h') (over x ∙ sym (over x'));
        form = rw (form_same (stored_over x n) n (four_of (stored_over x n) n (h ∙ sym (b1_zero n f)) (over x ∙ sym own))) f;
      }

-- and so as an edition writes it: -65,536 in the mended one is the same whatever it is written over
module _ (x x' : Number) (h : x.b1 ≡ 0) (h' : x'.b1 ≡ 0) (z : ℤ) (e : stored_short z ≡ true) where
  as_stored : ButB5 (stored_over x (short_of_whole z)) (stored_over x' (short_of_whole z))
  as_stored = stored_alike (short_of_whole z) (whole_form z e) x x' h h'

  written_alike : (ed : Edition) → Like (written_short ed x z) (written_short ed x' z)
  written_alike Shipped = inr as_stored
  written_alike Mended = choice Like (le_z z (neg_ℤ (pos 65536))) (λ l. inl refl) (λ l. inr as_stored)

-- "Short route, both b1 zero."
abbrev both_short : Number → Number → Bool
both_short x y = eqb x.b1 0 && eqb y.b1 0

by_route : (ed : Edition) (x y : Number) → sum_of ed x y ≡ cond (both_short x y) (short_route ed x y) (full_route x y)
unfolding sum_of
by_route ed x y = go (eqb x.b1 0) (eqb y.b1 0)
  where
    go : (a b : Bool) → cond a (cond b (short_route ed x y) (full_route x y)) (full_route x y) ≡ cond (a && b) (short_route ed x y) (full_route x y)
    go true b = refl
    go false b = refl

-- two sums by the same route, with the same value in the short one
module _ (ed : Edition) (x y x' y' : Number) (routes : both_short x y ≡ both_short x' y') (values : short_sum x y ≡ short_sum x' y')
    (full : full_route x y ≡ full_route x' y') where
  short_alike : x.b1 ≡ 0 → x'.b1 ≡ 0 → Answers Like (short_route ed x y) (short_route ed x' y')
  unfolding short_route
  short_alike h h' =
      rw (← values)
      (choice (Answers Like) (stored_short (short_sum x y))
      (λ e. done (written_alike x x' h h' (short_sum x y) e ed)) (λ e. answers_same (λ n. inl refl) _ _ full))

  pub sums_alike : Answers Like (sum_of ed x y) (sum_of ed x' y')
  sums_alike =
      rw (by_route ed x y, by_route ed x' y', ← routes)
      (choice (Answers Like) (both_short x y)
      (λ e. short_alike (eqb-true _ _ ((and-eq-true_iff _ _).0 e).0) (eqb-true _ _ ((and-eq-true_iff _ _).0 (sym routes ∙ e)).0)) (λ e. answers_same (λ n. inl refl) _ _ full))

full_commutes : (x y : Number) → full_route x y ≡ full_route y x
unfolding full_route aligned_sum
full_commutes x y =
    let m = restacked x in
    let n = restacked y in
    ap (λ (e : ℕ). ended_sum (aligned (e - m.b1) (signed_mantissa m) +ℤ aligned (e - n.b1) (signed_mantissa n)) e) (max_comm m.b1 n.b1)
    ∙ ap (λ (z : ℤ). ended_sum z (larger n m)) (+ℤ_comm (aligned (larger n m - m.b1) (signed_mantissa m)) (aligned (larger n m - n.b1) (signed_mantissa n)))

pub sum_commutes : (ed : Edition) (x y : Number) → Answers Like (sum_of ed x y) (sum_of ed y x)
sum_commutes ed x y = sums_alike ed x y y x (and_comm (eqb x.b1 0) (eqb y.b1 0)) (+ℤ_comm (short_value x) (short_value y)) (full_commutes x y)

pub addition_keeps : KeepsTwo sum_of
unfolding full_route
addition_keeps ed x x' y y' h k =
    let s = parts_same x x' h in
    let t = parts_same y y' k in
    sums_alike ed x y x' y' (ap₂ (λ (a b : ℕ). eqb a 0 && eqb b 0) s.exponents t.exponents) (ap₂ ◌+ℤ◌ s.values t.values)
    (ap₂ aligned_sum s.restacks t.restacks)

pub subtraction_keeps : KeepsTwo difference_of
unfolding difference_of
subtraction_keeps ed x x' y y' h k = addition_keeps ed x x' (negated y) (negated y') h (negated_alike y y' k)

pub int_keeps : KeepsOne int_of
unfolding int_of
int_keeps ed x x' h =
    rw (← (parts_same x x' h).signs)
    (choice (Answers Like) (eqb (sign x) 0) (λ e. done t) (λ e. down (subtraction_keeps ed x x' (truncated ed x) (truncated ed x') h t)))
  where
    t : Like (truncated ed x) (truncated ed x')
    t = truncated_alike ed x x' h

    -- "t subtract the short 1"
    down : {v v' : Answer} → Answers Like v v' → Answers Like (step_down ed (truncated ed x) v) (step_down ed (truncated ed x') v')
    down (done {n} {m} r) =
        rw (← (parts_same n m r).zero_tests)
        (choice (Answers Like) (passes_zero_test n) (λ e. done t) (λ e. subtraction_keeps ed (truncated ed x) (truncated ed x') short_one short_one t (inl refl)))
    down both_too_big = both_too_big
