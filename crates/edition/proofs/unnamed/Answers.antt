-- `unnamed` meets its contract: it answers what the definition says.
use Rattle.std.proofs.Common.{refl}
use Rattle.edition.specs.Edition.{unnamed}
use Rattle.edition.proofs.unnamed.Goals as goal

pub returns : goal.returns
unfolding unnamed
returns c = refl
