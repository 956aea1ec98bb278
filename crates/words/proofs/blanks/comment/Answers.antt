-- `comment` meets its contract: the first `#`, or the end.
use Rattle.std.proofs.Common.{rules, tests}
use Rattle.std.proofs.lemmas.Iterator.{YieldsList-from_slice}
use Rattle.std.proofs.lemmas.Iterator.Search.{position_from_yields_List}
use Rattle.words.proofs.Laws.{comment_found}
use Rattle.words.proofs.blanks.comment.Goals as goal

pub returns : goal.returns
returns c =
    let s = c.args.line.now in
    rw c.unwrap_or.ensures (comment_found s c.position.result (position_from_yields_List _ _ _ c.position.result c.position.ensures.ran (YieldsList-from_slice s cc) (λ x b q k. search (rules, tests))))
