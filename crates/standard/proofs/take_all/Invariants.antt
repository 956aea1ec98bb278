-- The bytes that were taken are the next ones of the input, and in each turn there was one at least.
use Rattle.std.proofs.Common.{◌≤◌, ◌≡◌, length, take}
use Rattle.std.specs.Io.KnownBytes.{Consumes}
use Rattle.standard.proofs.take_all.Given as goal

abbrev pub invariant-loop : goal.invariant-loop
invariant-loop g l =
    (l.held ≤ length l.buffer) × (length l.buffer ≡ length l.initial.buffer) × (l.counter ≤ l.held)
    × Consumes (g.R.Read.remaining l.initial.input) (g.R.Read.remaining l.input) (take l.held l.buffer)
