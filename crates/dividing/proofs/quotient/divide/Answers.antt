-- `divide` meets its contract: each way out is a case of the operation.
use Rattle.std.proofs.Common.{sym, ◌∙◌}
use Rattle.division.specs.Division.{quotient_of}
use Rattle.literals.proofs.WayLaws.{two_lacking, two_malformed}
use Rattle.odd.specs.EitherLaws.{pair_refused, formless}
use Rattle.dividing.specs.Quotient.{division_line}
use Rattle.dividing.proofs.quotient.divide.Goals as goal

pub returns-then-odd_pair : goal.returns-then-odd_pair
returns-then-odd_pair g c = pair_refused _ _ 5 quotient_of division_line _ (sym c.odd_pair.ensures ∙ c.if-odd_pair.true)

pub returns-then-lacks_at : goal.returns-then-lacks_at
returns-then-lacks_at g c = two_lacking g.E.Rom.EDITION _ _ _ quotient_of division_line (sym c.lacks_at.ensures ∙ c.if-lacks_at.true) _ c.refusal.ensures

pub returns-in_default : goal.returns-in_default
returns-in_default g c =
    two_malformed g.E.Rom.EDITION _ _ _ quotient_of division_line (sym c.lacks_at.ensures ∙ c.if-lacks_at.false)
    (formless c.args.stack.now c.args.depth.now 5 quotient_of division_line g.E.Rom.EDITION (simp c.in_default.ensures))
