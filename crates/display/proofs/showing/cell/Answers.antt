-- `cell` meets its contract: the tests come in the order of the definition's cases.
use Rattle.std.proofs.Common.{ap, ap₂, sym, ◌∙◌}
use Rattle.number.specs.Number.{number}
use Rattle.display.specs.Cell.{number_shown}
use Rattle.display.specs.CellLaws.{cell_refused, cell_blank, cell_shown}
use Rattle.display.proofs.showing.cell.Goals as goal

pub returns-then-lacks : goal.returns-then-lacks
returns-then-lacks c =
    c.nothing.ensures ∙ sym (cell_blank _ _ _ c.if-report-ne0.false (sym c.lacks.ensures ∙ c.if-lacks.true))

pub returns : goal.returns
returns c =
    c.show.ensures
    ∙ ap number_shown (ap₂ number c.b1_at.ensures c.word_at.ensures)
    ∙ sym (cell_shown _ _ _ c.if-report-ne0.false (sym c.lacks.ensures ∙ c.if-lacks.false))

pub returns-then-report-ne0 : goal.returns-then-report-ne0
returns-then-report-ne0 c = sym (cell_refused _ _ _ c.if-report-ne0.true)
