-- A line as far as it has come.
use Rattle.std.specs.Prelude.{Bool}
use Rattle.text.specs.Put.{Text}
use Rattle.text.specs.Page.{written}
use Rattle.lines.specs.declared.line.Line.{Line}

-- the lent bytes, and the place after what is held of the line
abbrev pub held : Line → Text
held l = written l.page

-- whether a carriage return came last
abbrev pub after_return : Line → Bool
after_return l = l.returned
