-- `below_one` meets its contract: by the sign, zero or the short -1.
use Rattle.std.proofs.Common.{ap, arith, ◌∙◌}
use Rattle.std.specs.Prelude.{Some}
use Rattle.edition.specs.declared.Edition.TheVariants.{Shipped}
use Rattle.number.specs.Number.{number}
use Rattle.truncation.specs.TruncateLaws.{truncate_full, truncate_below_one}
use Rattle.truncation.specs.IntLaws.{int_positive}
use Rattle.truncation.specs.FloorLaws.{int_small}
use Rattle.truncation.proofs.whole.below_one.Goals as goal

pub returns-then-word-lt-TOP_BIT : goal.returns-then-word-lt-TOP_BIT
returns-then-word-lt-TOP_BIT c e p q = let x = number e c.args.word in int_positive Shipped x (omega arith) ∙ ap Some (truncate_full Shipped x p ∙ truncate_below_one Shipped x q)

pub returns : goal.returns
returns c e p q = int_small Shipped (number e c.args.word) (omega arith) (omega arith) p q
