-- How many numbers each kind of operation takes and leaves, read off the table.
use Rattle.std.specs.Prelude.{ℕ, ◌≡◌, refl}
use Rattle.std.proofs.Common.{arith}
use Rattle.literals.specs.Literals.{Operation, exchange, delete, duplicate, one, two, unknown, Row, row_of, operation_of, takes, leaves}
use Rattle.demands.specs.Table.{each_row}

abbrev pub takes_of : Operation → ℕ
takes_of exchange = 2
takes_of delete = 1
takes_of duplicate = 1
takes_of (one f) = 1
takes_of (two f) = 2
takes_of unknown = 0

abbrev pub leaves_of : Operation → ℕ
leaves_of exchange = 2
leaves_of delete = 0
leaves_of duplicate = 2
leaves_of (one f) = 1
leaves_of (two f) = 1
leaves_of unknown = 0

-- a row's numbers are those of its operation
abbrev Counts : Row → Type 0
Counts r = (r.takes ≡ takes_of r.operation) × (r.leaves ≡ leaves_of r.operation)

counts : (l : ℕ) → Counts (row_of l)
counts = each_row Counts (λ l. (refl, refl)) (omega arith)

pub takes_are : (l : ℕ) → takes l ≡ takes_of (operation_of l)
unfolding takes operation_of
takes_are l = (counts l).0

pub leaves_are : (l : ℕ) → leaves l ≡ leaves_of (operation_of l)
unfolding leaves operation_of
leaves_are l = (counts l).1
