-- `after` meets its contract: a law of the definition a way out.
use Rattle.std.proofs.Common.{rules}
use Rattle.words.proofs.Laws.{none_after_other, none_after_alone, none_after_joined, none_after_blanks, some_after}
use Rattle.words.proofs.following.after.Goals as goal

pub returns-in_err-rest : goal.returns-in_err-rest
returns-in_err-rest c = rw c.from_residual.ensures (none_after_other _ _ c.in_err-rest.ensures.cases)

pub returns-in_err-first : goal.returns-in_err-first
returns-in_err-first c =
    let r = c.in_ok-rest.ensures.cases in
    rw c.from_residual-in_err-first.ensures (none_after_alone _ _ _ r.0 r.1 c.in_err-first.ensures.cases)

pub returns-then-not-is_blank : goal.returns-then-not-is_blank
returns-then-not-is_blank c =
    let r = c.in_ok-rest.ensures.cases in
    none_after_joined _ _ _ r.0 r.1 _ _ c.in_ok-first.ensures.cases.0 (search rules)

pub returns-then-is_empty : goal.returns-then-is_empty
returns-then-is_empty c =
    let r = c.in_ok-rest.ensures.cases in
    none_after_blanks _ _ _ r.0 r.1 _ _ c.in_ok-first.ensures.cases.0 (search rules) _ c.started-said.ensures (search rules)

pub returns-else-is_empty : goal.returns-else-is_empty
returns-else-is_empty c =
    let r = c.in_ok-rest.ensures.cases in
    some_after _ _ _ r.0 r.1 _ _ c.in_ok-first.ensures.cases.0 (search rules) _ c.started-said.ensures (search rules)
