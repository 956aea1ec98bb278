-- The two editions' truncation and int beside each other. Of a number that is not odd, the mended edition truncates as the shipped one does, with -65,536 as a
-- full number where that leaves odd; and so does int, away from what the shipped one takes for -65,536.
use Rattle.std.specs.Prelude.{ℕ, ◌+◌, ◌*◌, ◌-◌, ◌^◌, ◌/◌, ◌<◌, ◌≡◌, refl, ◌⊎◌, Bool, true, false, cond, ltb, eqb, Some, None}
use Rattle.ending.specs.Ending.{Answer}
use Rattle.std.proofs.Common.{sym, ◌∙◌, ap, ap₂, inl, inr, eq-zero-or-pos, arith, eqb-true, ltb-true, ltb-false}
use Rattle.std.proofs.lemmas.Bool.{eqb-false}
use Rattle.edition.specs.declared.Edition.TheVariants.{Shipped, Mended}
use Rattle.number.specs.declared.Number.{Number}
use Rattle.number.specs.Number.{odd, number, zeros, bytes, sign, mantissa, full_of, passes_zero_test}
use Rattle.number.specs.NumberLaws.{Bytes, full_fails, some_fails}
use Rattle.number.proofs.NotOdd.{short_not_odd}
use Rattle.number.specs.OddLaws.{odd_full, odd_word, odd_ended, odd_bytes}
use Rattle.addition.specs.Addition.{minus65536, difference_of}
use Rattle.addition.specs.MendedLaws.{mended, mended_answer}
use Rattle.addition.proofs.MendedLaws.{mended_same, mended_odd_lem, difference_mended}
use Rattle.truncation.specs.Truncate.{taken65536, cleared, truncated}
use Rattle.truncation.specs.TruncateLaws.{taken_not, taken_never, taken_145, truncate_full, truncate_not_full, truncate_below_one, truncate_to_short, truncate_taken, truncate_cleared, truncate_whole}
use Rattle.truncation.specs.BitLaws.{dropped, dropped_lt}
use Rattle.truncation.specs.Int.{short_one, step_down, int_of}
use Rattle.truncation.specs.IntLaws.{int_positive, int_steps}
use Rattle.truncation.specs.StepLaws.{int_same, int_up}

module _ (x : Number) (b : Bytes x) where
  -- what is taken for -65,536, by its word
  pub taken_word : taken65536 Shipped x ≡ true → x.word / 2 ^ 15 ≡ 2 ^ 16
  taken_word t = go (eqb (x.word / 2 ^ 15) (2 ^ 16)) refl
    where
      go : (a : Bool) → eqb (x.word / 2 ^ 15) (2 ^ 16) ≡ a → x.word / 2 ^ 15 ≡ 2 ^ 16
      go true e = eqb-true _ _ e
      go false e = absurd (let f = taken_not x Shipped (eqb-false _ _ e) in let z : ◌≡◌ {A = ℕ} 0 1 = cc (t, f) in omega arith)

  -- ---- away from that

  record Alike (y z : Number) : Type 0 where
    same : y ≡ z
    never : odd z ≡ false

  module _ (o : odd x ≡ false) (t : taken65536 Shipped x ≡ false) where
    alike : Alike (truncated Mended x) (truncated Shipped x)
    alike = go (eq-zero-or-pos x.b1)
      where
        both : (n : Number) → truncated Mended x ≡ n → truncated Shipped x ≡ n → odd n ≡ false → Alike (truncated Mended x) (truncated Shipped x)
        both n e f h = record { same = e ∙ sym f; never = ap odd f ∙ h }

        full : 0 < x.b1 → (p q r : Bool) → ltb x.b1 129 ≡ p → ltb x.b1 145 ≡ q → ltb x.b1 160 ≡ r → Alike (truncated Mended x) (truncated Shipped x)
        full f true q r i j k = both zeros (truncate_full Mended x f ∙ truncate_below_one Mended x (ltb-true _ _ i)) (truncate_full Shipped x f ∙ truncate_below_one Shipped x (ltb-true _ _ i)) (odd_ended zeros (inl refl))
        full f false true r i j k =
            let lo = ltb-false x.b1 129 i in
            let hi = ltb-true x.b1 145 j in
            let d = dropped (mantissa x) (160 - x.b1) (omega arith) (omega arith) (omega arith) in
            both _ (truncate_full Mended x f ∙ truncate_to_short Mended x lo hi) (truncate_full Shipped x f ∙ truncate_to_short Shipped x lo hi)
            (short_not_odd (sign x) (mantissa x / 2 ^ (160 - x.b1)) d.some (dropped_lt (mantissa x) (160 - x.b1) (omega arith) (omega arith)))
        full f false false true i j k =
            let lo = ltb-false x.b1 145 j in
            both _ (truncate_full Mended x f ∙ truncate_cleared Mended x lo (taken_never x) (ltb-true _ _ k)) (truncate_full Shipped x f ∙ truncate_cleared Shipped x lo t (ltb-true _ _ k)) (odd_full _ (omega arith))
        full f false false false i j k =
            let lo = ltb-false x.b1 145 j in
            both x (truncate_full Mended x f ∙ truncate_whole Mended x lo (taken_never x) (ltb-false _ _ k)) (truncate_full Shipped x f ∙ truncate_whole Shipped x lo t (ltb-false _ _ k)) o

        go : (x.b1 ≡ 0) ⊎ (0 < x.b1) → Alike (truncated Mended x) (truncated Shipped x)
        go (inl z) = both x (truncate_not_full Mended x z) (truncate_not_full Shipped x z) o
        go (inr p) = full p (ltb x.b1 129) (ltb x.b1 145) (ltb x.b1 160) refl refl refl

    -- the zero test does not tell odd from -65,536
    passes_mended : (d : Number) → passes_zero_test (mended d) ≡ passes_zero_test d
    passes_mended d = go (odd d) refl
      where
        go : (a : Bool) → odd d ≡ a → passes_zero_test (cond a minus65536 d) ≡ passes_zero_test d
        go true e = let w = odd_bytes d e in full_fails minus65536 (omega arith) ∙ sym (some_fails d w.0 (omega (arith, w)))
        go false e = refl

    stepped : (n : Number) → odd n ≡ false → (a : Answer) → step_down Mended n (mended_answer a) ≡ mended_answer (step_down Shipped n a)
    stepped n h None = refl
    stepped n h (Some d) = ap (λ (p : Bool). cond p (Some n) (difference_of Mended n short_one)) (passes_mended d) ∙ go (passes_zero_test d)
      where
        go : (p : Bool) → cond p (Some n) (difference_of Mended n short_one) ≡ mended_answer (cond p (Some n) (difference_of Shipped n short_one))
        go true = ap Some (sym (mended_same n h))
        go false = difference_mended n short_one

    pub int_mended : int_of Mended x ≡ mended_answer (int_of Shipped x)
    int_mended = go (eq-zero-or-pos (sign x))
      where
        n : Number
        n = truncated Shipped x

        go : (sign x ≡ 0) ⊎ (0 < sign x) → int_of Mended x ≡ mended_answer (int_of Shipped x)
        go (inl z) =
            int_positive Mended x z ∙ ap Some (alike.same ∙ sym (mended_same n alike.never)) ∙ ap mended_answer (sym (int_positive Shipped x z))
        go (inr p) =
            int_steps Mended x (omega arith)
            ∙ ap (λ (k : Number). step_down Mended k (difference_of Mended x k)) alike.same
            ∙ ap (step_down Mended n) (difference_mended x n)
            ∙ stepped n alike.never (difference_of Shipped x n)
            ∙ ap mended_answer (sym (int_steps Shipped x (omega arith)))

  -- ---- truncation

  pub truncate_mended : odd x ≡ false → truncated Mended x ≡ mended (truncated Shipped x)
  truncate_mended o = go (taken65536 Shipped x) refl
    where
      go : (a : Bool) → taken65536 Shipped x ≡ a → truncated Mended x ≡ mended (truncated Shipped x)
      go true t =
          let e = taken_145 x Shipped t in
          let w = taken_word t in
          let is : truncated Shipped x ≡ bytes 0 255 0 0 0 = truncate_full Shipped x (omega arith) ∙ truncate_taken Shipped x (omega arith) t in
          let k : 160 - x.b1 ≡ 15 = omega arith in
          truncate_full Mended x (omega arith)
          ∙ truncate_cleared Mended x (omega arith) (taken_never x) (omega arith)
          ∙ ap₂ number e (ap (λ (i : ℕ). cleared i x.word) k ∙ ap (λ (i : ℕ). i * 2 ^ 15) w)
          ∙ sym (mended_odd_lem (bytes 0 255 0 0 0) (odd_word _ refl (omega arith)))
          ∙ ap mended (sym is)
      go false t = (alike o t).same ∙ sym (mended_same _ (alike o t).never)

  -- ---- int of what the shipped edition takes for -65,536: that number, or one lower where a part is cut off

  module _ (t : taken65536 Shipped x ≡ true) where
    k15 : 160 - x.b1 ≡ 15
    k15 = omega (arith, taken_145 x Shipped t)

    cut : cleared (160 - x.b1) (mantissa x) ≡ 2 ^ 31
    cut = ap (λ (i : ℕ). cleared i (mantissa x)) k15 ∙ omega (arith, taken_word t)

    pub int_exact : x.word ≡ 2 ^ 31 → int_of Mended x ≡ Some x
    int_exact e =
        let h = taken_145 x Shipped t in
        int_same Mended x b (omega arith) (omega arith) (omega arith) (taken_never x) (omega (arith, cut))

    pub int_below : (x.word ≡ 2 ^ 31 → ⊥) → int_of Mended x ≡ Some (number 145 (2 ^ 31 + 2 ^ 15))
    int_below n =
        let h = taken_145 x Shipped t in
        let w = taken_word t in
        let one : 2 ^ (160 - x.b1) ≡ 2 ^ 15 = ap (λ (i : ℕ). 2 ^ i) k15 in
        let up : cleared (160 - x.b1) (mantissa x) + 2 ^ (160 - x.b1) ≡ 2 ^ 31 + 2 ^ 15 = omega (arith, cut, one) in
        int_up Mended x b (omega arith) (omega arith) (omega arith) (taken_never x) (λ e. n (omega (arith, cut, e))) (omega (arith, up))
        ∙ ap₂ (λ (i m : ℕ). Some (full_of 1 i m)) h up
