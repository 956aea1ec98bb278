-- What the code answers and leaves once it has an answer of two numbers. The public contract that cites it is that of `store`, which the literals call.
use Rattle.std.specs.Prelude.{◌≡◌, ℕ, ◌+◌, ◌-◌, ◌%◌, ◌^◌, false, ◌||◌, List, Some, None}
use Rattle.ending.specs.Ending.{Answer}
use Rattle.std.proofs.Math.Path.{refl}
use Rattle.std.proofs.Common.{◌∙◌, ap, ap₂, arith}
use Rattle.edition.specs.declared.Edition.{Edition}
use Rattle.number.specs.declared.Number.{Number}
use Rattle.slots.specs.Outcome.{Outcome}
use Rattle.slots.specs.Reach.{lacking, number_at, put_at}
use Rattle.slots.specs.ReachLaws.{has}
use Rattle.literals.specs.Literals.{two, row, row_of}
use Rattle.literals.specs.Reports.{malformed_in}
use Rattle.literals.specs.Operate.{outcome, operate_of}
use Rattle.literals.proofs.WayLaws.{two_too_big, two_done}

-- At any depth, with so many numbers taken and left: the depth is a machine word, and may wrap.
unfoldable pub stored_at : List ℕ → ℕ → ℕ → Answer → ℕ → ℕ → ℕ × ℕ × List ℕ
stored_at s d old (Some n) taken left = (0, ((d + 2 ^ 64 - taken) % 2 ^ 64 + left) % 2 ^ 64, put_at s old 1 n)
stored_at s d old None taken left = (6, d, s)

-- at the depth that was read, of two numbers that are there
unfoldable pub stored_of : List ℕ → ℕ → Answer → ℕ × ℕ × List ℕ
stored_of s d (Some n) = (0, d - 1, put_at s d 1 n)
stored_of s d None = (6, d, s)

pub stored_as : (s : List ℕ) (d old : ℕ) (a : Answer) (taken left : ℕ) {x : ℕ × ℕ × List ℕ}
    → (d ≡ old) × (lacking s old 2 ≡ false) × (taken ≡ 2) × (left ≡ 1) → stored_at s d old a taken left ≡ x → stored_of s d a ≡ x
unfolding stored_at stored_of
stored_as s d old (Some n) taken left h e =
    let y = has s old 2 h.1 in
    let after : d - 1 ≡ ((d + 2 ^ 64 - taken) % 2 ^ 64 + left) % 2 ^ 64 = omega (arith, h, y.0.short, y.0.deep, y.1) in
    ap₂ (λ (k : ℕ) (t : List ℕ). (0, k, t)) after (ap (λ (k : ℕ). put_at s k 1 n) h.0) ∙ e
stored_as s d old None taken left h e = e

-- it is the operation's
module _ (ed : Edition) (s : List ℕ) (d l : ℕ) (f : Edition → Number → Number → Answer) (r : row_of l ≡ row l (two f) 2 1) (a : lacking s d 2 ≡ false)
    (m : malformed_in ed (number_at s d 1) || malformed_in ed (number_at s d 0) ≡ false) where
  pub two_stored : (q d' : ℕ) (s' : List ℕ) → stored_of s d (f ed (number_at s d 1) (number_at s d 0)) ≡ (q, d', s') → operate_of ed s d l ≡ (outcome q d', s')
  unfolding stored_of
  two_stored q d' s' g = go (f ed (number_at s d 1) (number_at s d 0)) refl g
    where
      to : ℕ × ℕ × List ℕ → Outcome × List ℕ
      to p = (outcome p.0 p.1, p.2)

      go : (x : Answer) → f ed (number_at s d 1) (number_at s d 0) ≡ x → stored_of s d x ≡ (q, d', s') → operate_of ed s d l ≡ (outcome q d', s')
      go (Some n) i j = two_done ed s d l f r a m n i ∙ ap to j
      go None i j = two_too_big ed s d l f r a m i ∙ ap to j
