-- `run` meets its contract: the edition that is meant is the one that `unnamed` says.
use Rattle.edition.specs.Edition.{unnamed}
use Rattle.calculator.proofs.running.run.Goals as goal

pub returns : goal.returns
unfolding unnamed
returns c = c.run_as.ensures
