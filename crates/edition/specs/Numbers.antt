-- The number of an edition, as the C interface has it.
use Rattle.std.specs.Prelude.{◌≡◌, ℕ, ◌<◌, Result, MatchResult}
use Rattle.edition.specs.declared.Edition.{Edition}
use Rattle.edition.specs.declared.Edition.TheVariants.{Shipped, Mended}
use Rattle.edition.specs.declared.UnknownEdition.{UnknownEdition}

abbrev pub edition_number : Edition → ℕ
edition_number Shipped = 0
edition_number Mended = 1

-- the result is the edition with this number, or an error where none has it
abbrev pub Decodes : ℕ → Result Edition UnknownEdition → Type 0
Decodes n r = MatchResult r (λ ed. edition_number ed ≡ n) (λ e. 1 < n)
