-- Document 02, A3: "The edition is chosen per run or single call; the shipped one is the default." This is the one place that says which.
use Rattle.edition.specs.declared.Edition.{Edition}
use Rattle.edition.specs.declared.Edition.TheVariants.{Shipped}

-- the edition of a call that names none
unfoldable pub unnamed : Edition
unnamed = Shipped
