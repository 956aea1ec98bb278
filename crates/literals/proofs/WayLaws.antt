-- Each way out of a literal's code, as a case of `operate_of`: what the code has found, and what the operation then answers and leaves.
use Rattle.std.specs.Prelude.{ℕ, suc, ◌+◌, ◌-◌, ◌≤◌, ◌<◌, Bool, ◌||◌, List, get_or, Some, None}
use Rattle.ending.specs.Ending.{Answer}
use Rattle.std.proofs.Math.Path.{◌≡◌, refl, ap}
use Rattle.std.proofs.Common.{sym, ◌∙◌, ap₂, arith}
use Rattle.std.proofs.Math.Bool.{true, false, cond}
use borrow.Author.Tests.{ltb-true}
use Rattle.std.proofs.Math.Dec.{ltb}
use Rattle.edition.specs.declared.Edition.{Edition}
use Rattle.number.specs.declared.Number.{Number}
use Rattle.number.specs.Number.{number}
use Rattle.slots.specs.Slots.{put_in, top, lower}
use Rattle.slots.specs.SlotLaws.{number_kept}
use Rattle.slots.specs.Reports.{over_limits}
use Rattle.slots.specs.LimitLaws.{Within, within_of}
use Rattle.slots.specs.Reach.{lacking, refusal_of, number_at, put_at}
use Rattle.slots.specs.ReachLaws.{has, enough, number_at_lem, put_there}
use Rattle.literals.specs.Literals.{Operation, one, two, Row, row, row_of, operation_of, takes, leaves}
use Rattle.literals.specs.Reports.{not_in_table, no_room_for, malformed_in, malformed_operand, is_too_big, too_big, report_of}
use Rattle.literals.specs.ReportLaws.{Reached, report_2, report_4, report_3, report_6, report_0}
use Rattle.literals.specs.Operate.{outcome, stored, bytes_after, operate_of}
use Rattle.literals.specs.OperateLaws.{operate_refused, operate_over, operate_done}

-- at a row of the table
module _ (ed : Edition) (s : List ℕ) (d l : ℕ) (o : Operation) (t n : ℕ) (r : row_of l ≡ row l o t n) (k : not_in_table o ≡ false) where
  operation : operation_of l ≡ o
  unfolding operation_of
  operation = ap (λ (q : Row). q.operation) r

  takes_is : takes l ≡ t
  unfolding takes
  takes_is = ap (λ (q : Row). q.takes) r

  leaves_is : leaves l ≡ n
  unfolding leaves
  leaves_is = ap (λ (q : Row). q.leaves) r

  known : not_in_table (operation_of l) ≡ false
  known = ap not_in_table operation ∙ k

  refused : {i : ℕ} → report_of ed s d l ≡ suc i → (q : ℕ) → q ≡ suc i → operate_of ed s d l ≡ (outcome q d, s)
  refused h q e = operate_refused ed s d l h ∙ ap (λ (p : ℕ). (outcome p d, s)) (sym e)

  -- report 1 or 2
  pub way_lacking : lacking s d t ≡ true → (q : ℕ) → q ≡ refusal_of s d t → operate_of ed s d l ≡ (outcome q d, s)
  unfolding lacking refusal_of
  way_lacking h q e = go (over_limits s d) (ltb d t) refl refl h e
    where
      go : (a b : Bool) → over_limits s d ≡ a → ltb d t ≡ b → a || b ≡ true → q ≡ cond a 1 (cond b 2 4) → operate_of ed s d l ≡ (outcome q d, s)
      go true b i j x y = operate_over ed s d l i ∙ ap (λ (p : ℕ). (outcome p d, s)) (sym y)
      go false true i j x y = refused (report_2 ed s d l (within_of s d i) known (omega (arith, ltb-true d t j, takes_is))) q y
      go false false i j x y = absurd (let z : ◌≡◌ {A = ℕ} 0 1 = cc in omega arith)

  module _ (w : Within s d) (h : t ≤ d) where
    reached : Reached s d l
    reached = record { limits = w; known = known; enough = omega (arith, takes_is) }

    pub way_no_room : no_room_for o s d ≡ true → operate_of ed s d l ≡ (outcome 4 d, s)
    way_no_room f = operate_refused ed s d l (report_4 ed s d l reached (simp operation f))

    module _ (f : no_room_for o s d ≡ false) where
      pub way_malformed : malformed_operand ed o s d ≡ true → operate_of ed s d l ≡ (outcome 3 d, s)
      way_malformed m = operate_refused ed s d l (report_3 ed s d l reached (simp operation f) (simp operation m))

      pub way_too_big : malformed_operand ed o s d ≡ false → too_big ed o s d ≡ true → operate_of ed s d l ≡ (outcome 6 d, s)
      way_too_big m b = operate_refused ed s d l (report_6 ed s d l reached (simp operation f) (simp operation m) (simp operation b))

      pub way_done : malformed_operand ed o s d ≡ false → too_big ed o s d ≡ false → operate_of ed s d l ≡ (outcome 0 (d - t + n), bytes_after ed o s d)
      way_done m b =
          operate_done ed s d l (report_0 ed s d l reached (simp operation f) (simp operation m) (simp operation b)) ∙ simp (operation, takes_is, leaves_is)

-- a literal that looks at the top
pub one_lacking : (ed : Edition) (s : List ℕ) (d l : ℕ) (f : Edition → Number → Answer) → row_of l ≡ row l (one f) 1 1 → lacking s d 1 ≡ true → (q : ℕ) → q ≡ refusal_of s d 1
    → operate_of ed s d l ≡ (outcome q d, s)
unfolding not_in_table
one_lacking ed s d l f r = way_lacking ed s d l (one f) 1 1 r refl

module _ (ed : Edition) (s : List ℕ) (d l : ℕ) (f : Edition → Number → Answer) (r : row_of l ≡ row l (one f) 1 1) (a : lacking s d 1 ≡ false) where
  is_top : number_at s d 0 ≡ top s d
  is_top = number_at_lem s d 0 a

  pub one_malformed : malformed_in ed (number_at s d 0) ≡ true → operate_of ed s d l ≡ (outcome 3 d, s)
  unfolding not_in_table no_room_for malformed_operand
  one_malformed m = let h = has s d 1 a in way_malformed ed s d l (one f) 1 1 r refl h.0 h.1 refl (ap (malformed_in ed) (sym is_top) ∙ m)

  -- and is not too big
  pub one_done : (n : Number) → malformed_in ed (number_at s d 0) ≡ false → f ed (number_at s d 0) ≡ Some n → operate_of ed s d l ≡ (outcome 0 d, put_at s d 0 n)
  unfolding not_in_table no_room_for malformed_operand too_big is_too_big bytes_after stored
  one_done n m b =
      let h = has s d 1 a in
      let is : f ed (top s d) ≡ Some n = ap (f ed) (sym is_top) ∙ b in
      let same : d - 1 + 1 ≡ d = omega (arith, h) in
      way_done ed s d l (one f) 1 1 r refl h.0 h.1 refl (ap (malformed_in ed) (sym is_top) ∙ m) (simp is)
      ∙ simp (is, put_there s d 0 n a) (ap (λ (e : ℕ). (outcome 0 e, put_in s (d - 1) n)) same)

  -- by the parts that the code has read
  pub one_put : {b w : ℕ} {n : Number} {s' : List ℕ} → b ≡ (number_at s d 0).b1 → w ≡ (number_at s d 0).word → malformed_in ed (number_at s d 0) ≡ false → f ed (number b w) ≡ Some n
      → s' ≡ put_at s d 0 n → operate_of ed s d l ≡ (outcome 0 d, s')
  one_put {n = n} i j m e p = one_done n m (ap (f ed) (sym (ap₂ number i j)) ∙ e) ∙ ap (λ (t : List ℕ). (outcome 0 d, t)) (sym p)

  -- and leaves it as it is
  pub one_kept : ((k : ℕ) → get_or s k 0 < 256) → malformed_in ed (number_at s d 0) ≡ false → f ed (number_at s d 0) ≡ Some (number_at s d 0) → operate_of ed s d l ≡ (outcome 0 d, s)
  one_kept b m e =
      let h = has s d 1 a in
      one_done (number_at s d 0) m e
      ∙ ap (λ (t : List ℕ). (outcome 0 d, t)) (put_there s d 0 (number_at s d 0) a ∙ ap (put_in s (d - 1)) is_top ∙ number_kept s (d - 1) (omega (arith, h)) b)

-- a literal that looks at the two on top
pub two_lacking : (ed : Edition) (s : List ℕ) (d l : ℕ) (f : Edition → Number → Number → Answer) → row_of l ≡ row l (two f) 2 1 → lacking s d 2 ≡ true → (q : ℕ) → q ≡ refusal_of s d 2
    → operate_of ed s d l ≡ (outcome q d, s)
unfolding not_in_table
two_lacking ed s d l f r = way_lacking ed s d l (two f) 2 1 r refl

module _ (ed : Edition) (s : List ℕ) (d l : ℕ) (f : Edition → Number → Number → Answer) (r : row_of l ≡ row l (two f) 2 1) (a : lacking s d 2 ≡ false) where
  is_lower : number_at s d 1 ≡ lower s d
  is_lower = number_at_lem s d 1 a

  is_upper : number_at s d 0 ≡ top s d
  is_upper = let h = has s d 2 a in number_at_lem s d 0 (enough s d 1 h.0 (omega (arith, h)))

  formed : {b : Bool} → malformed_in ed (number_at s d 1) || malformed_in ed (number_at s d 0) ≡ b → malformed_in ed (lower s d) || malformed_in ed (top s d) ≡ b
  formed m = simp (sym is_lower, sym is_upper) m

  pub two_malformed : malformed_in ed (number_at s d 1) || malformed_in ed (number_at s d 0) ≡ true → operate_of ed s d l ≡ (outcome 3 d, s)
  unfolding not_in_table no_room_for malformed_operand
  two_malformed m = let h = has s d 2 a in way_malformed ed s d l (two f) 2 1 r refl h.0 h.1 refl (formed m)

  module _ (m : malformed_in ed (number_at s d 1) || malformed_in ed (number_at s d 0) ≡ false) where
    answer : {x : Answer} → f ed (number_at s d 1) (number_at s d 0) ≡ x → f ed (lower s d) (top s d) ≡ x
    answer b = simp (sym is_lower, sym is_upper) b

    pub two_too_big : f ed (number_at s d 1) (number_at s d 0) ≡ None → operate_of ed s d l ≡ (outcome 6 d, s)
    unfolding not_in_table no_room_for malformed_operand too_big is_too_big
    two_too_big b = let h = has s d 2 a in way_too_big ed s d l (two f) 2 1 r refl h.0 h.1 refl (formed m) (simp (answer b))

    pub two_done : (n : Number) → f ed (number_at s d 1) (number_at s d 0) ≡ Some n → operate_of ed s d l ≡ (outcome 0 (d - 1), put_at s d 1 n)
    unfolding not_in_table no_room_for malformed_operand too_big is_too_big bytes_after stored
    two_done n b =
        let h = has s d 2 a in
        let after : d - 2 + 1 ≡ d - 1 = omega (arith, h) in
        way_done ed s d l (two f) 2 1 r refl h.0 h.1 refl (formed m) (simp (answer b))
        ∙ simp (answer b, put_there s d 1 n a) (ap (λ (e : ℕ). (outcome 0 e, put_in s (d - 2) n)) after)
