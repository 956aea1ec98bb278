-- `taken_in` meets its contract: it has the shape of `taken_in`, and the measure is the places left.
use Rattle.ending.proofs.doubling.+taken_in.Given as goal

abbrev pub decreases-taken_in : goal.decreases-taken_in
decreases-taken_in l = l.places
