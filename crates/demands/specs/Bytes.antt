-- The bytes of a stack, and those that an accepted operation leaves, slot by slot.
use Rattle.std.specs.Prelude.{ℕ, ◌+◌, ◌-◌, ◌*◌, ◌≤◌, ◌<◌, ◌≡◌, refl, true, false, List, length, get_or, Some, None}
use Rattle.ending.specs.Ending.{Answer}
use Rattle.std.proofs.Common.{arith}
use Rattle.edition.specs.declared.Edition.{Edition}
use Rattle.number.specs.declared.Number.{Number}
use Rattle.number.specs.NumberLaws.{Bytes}
use Rattle.slots.specs.Slots.{slot, number_in, put_slot}
use Rattle.slots.specs.SlotLaws.{length_put_slot}
use Rattle.literals.specs.Literals.{takes}
use Rattle.literals.specs.Reports.{is_too_big}
use Rattle.slots.specs.SlotFacts.{put_slot_lem, put_elsewhere}
use Rattle.demands.specs.Accepted.{Passed, within}

-- every byte of the stack is below 256
abbrev pub AreBytes : List ℕ → Type 0
AreBytes s = (k : ℕ) → k < length s → get_or s k 0 < 256

-- and so each number that a literal takes, the k-th from the top, is made of bytes
pub operand_bytes : (ed : Edition) (s : List ℕ) (d l k : ℕ) → AreBytes s → Passed ed s d l → 1 ≤ k → k ≤ takes l → Bytes (number_in s (d - k))
unfolding number_in
operand_bytes ed s d l k b p g h =
    let w = within ed s d l p in
    let b2 = b (5 * (d - k) + 1) (omega arith) in
    let b3 = b (5 * (d - k) + 2) (omega arith) in
    let b4 = b (5 * (d - k) + 3) (omega arith) in
    let b5 = b (5 * (d - k) + 4) (omega arith) in
    record { b1_below = b (5 * (d - k)) (omega arith); word_below = omega arith }

-- s' is s with the bytes v in slot i, and every other byte as it was
pub record Only (s s' : List ℕ) (i : ℕ) (v : List ℕ) : Type 0 where
  pub long : length s' ≡ length s
  pub there : slot s' i ≡ v
  pub elsewhere : (k : ℕ) → (5 * i ≤ k → k < 5 * i + 5 → ⊥) → get_or s' k 0 ≡ get_or s k 0

pub only_put : (s : List ℕ) (i : ℕ) (five : List ℕ) → 5 * i + 5 ≤ length s → length five ≡ 5 → Only s (put_slot s i five) i five
only_put s i five h f =
    record {
      long = length_put_slot s i h five f;
      there = put_slot_lem s i h five f;
      elsewhere = put_elsewhere s i h five f;
    }

-- an answer that is not too big is a number
pub number_of : (a : Answer) → is_too_big a ≡ false → (n : Number) × (a ≡ Some n)
unfolding is_too_big
number_of (Some n) h = (n, refl)
number_of None h = absurd (let z : ◌≡◌ {A = ℕ} 0 1 = cc in omega arith)

pub is_too_big_lem : (a : Answer) → is_too_big a ≡ true → a ≡ None
unfolding is_too_big
is_too_big_lem None h = refl
is_too_big_lem (Some n) h = absurd (let z : ◌≡◌ {A = ℕ} 0 1 = cc in omega arith)
