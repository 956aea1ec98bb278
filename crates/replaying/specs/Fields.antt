-- The number of a field of a record, as the C interface has it; 0 is none.
use Rattle.std.specs.Prelude.{ℕ}
use Rattle.replaying.specs.declared.answer.Field.{Field}
use Rattle.replaying.specs.declared.answer.Field.TheVariants.{Report, Depth, Top}

unfoldable pub field_number : Field → ℕ
field_number Report = 1
field_number Depth = 2
field_number Top = 3
