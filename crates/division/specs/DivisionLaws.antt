-- The last digit of a division, of which its laws speak (proofs/DivisionLaws): what the trial after the 33 digits gives, in an edition.
use Rattle.std.specs.Prelude.{ℕ}
use Rattle.edition.specs.declared.Edition.{Edition}
use Rattle.division.specs.Rounds.{Mantissas, rounds33, digit34}

module _ (m n : ℕ) (are : Mantissas m n) where
  module _ (ed : Edition) where
    abbrev pub last : ℕ
    last = digit34 ed n (rounds33 m n)
