-- `operate_in_place` meets its contract: the edition that is meant is the one that `unnamed` says.
use Rattle.edition.specs.Edition.{unnamed}
use Rattle.operation.proofs.operate_in_place.Goals as goal

pub returns : goal.returns
unfolding unnamed
returns c = c.operate_as.ensures
