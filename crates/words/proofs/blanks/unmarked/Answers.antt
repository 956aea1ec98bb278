-- `unmarked` meets its contract: the mark is what is left out, where it is there.
use Rattle.std.proofs.Common.{eq-eqb, refl}
use Rattle.words.specs.Blanks.{unmarked}
use Rattle.words.proofs.Laws.{unmarked_by}
use Rattle.words.proofs.blanks.unmarked.Goals as goal

pub returns : goal.returns
unfolding unmarked
returns c = rw c.unwrap_or.ensures (simp (eq-eqb _ _ c.if-number-ne1.false) (unmarked_by _ _ c.args.line _ refl c.strip_prefix.ensures.cases))
