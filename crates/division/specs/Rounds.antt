-- Document 01, "Division (001, 000)": "33 rounds: the first tries to take N from M; each later one doubles what is left and tries again. It goes when
-- what is left is at least N: digit 1, else digit 0."
use Rattle.std.specs.Prelude.{cond, ℕ, zero, suc, ◌+◌, ◌*◌, ◌-◌, ◌^◌, ◌%◌, ◌≤◌, ◌<◌, leb}
use Rattle.edition.specs.declared.Edition.{Edition}
use Rattle.edition.specs.declared.Edition.TheVariants.{Shipped, Mended}

-- "mantissas M and N, whole numbers from 2^31 to 2^32 - 1"
pub record Mantissas (m n : ℕ) : Type 0 where
  pub m_low : 2 ^ 31 ≤ m
  pub m_high : m < 2 ^ 32
  pub n_low : 2 ^ 31 ≤ n
  pub n_high : n < 2 ^ 32

-- The digits so far, "read as one binary number, the first digit highest", and what is left.
pub record Trial : Type 0 where
  pub digits : ℕ
  pub left : ℕ

abbrev pub trial : ℕ → ℕ → Trial
trial q r = record { digits = q; left = r }

-- "It goes when what is left is at least N: digit 1, else digit 0."
unfoldable pub tried : ℕ → Trial → Trial
tried n s = cond (leb n s.left) (trial (2 * s.digits + 1) (s.left - n)) (trial (2 * s.digits) s.left)

abbrev pub left_doubled : Trial → Trial
left_doubled s = trial s.digits (2 * s.left)

-- The first round, and then so many later ones.
unfoldable pub rounds : ℕ → ℕ → ℕ → Trial
rounds m n zero = tried n (trial 0 m)
rounds m n (suc later) = tried n (left_doubled (rounds m n later))

-- "33 rounds"
abbrev pub rounds33 : ℕ → ℕ → Trial
rounds33 m n = rounds m n 32

-- "The 34th is 0, since the ROM tries again without doubling": `digit34_zero` is the law that it is 0. A3: "the 34th division digit is tried after a
-- doubling".
abbrev pub digit34 : Edition → ℕ → Trial → ℕ
digit34 Shipped n s = (tried n s).digits % 2
digit34 Mended n s = (tried n (left_doubled s)).digits % 2
