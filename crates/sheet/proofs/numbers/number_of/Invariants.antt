-- `number_of` meets its contract: what follows so many steps gives the whole.
use Rattle.std.proofs.Common.{drop, ◌<◌, ◌^◌, ◌≡◌, ◌≤◌}
use Rattle.sheet.specs.Numbers.{number_from}
use Rattle.sheet.proofs.numbers.number_of.Given as goal

abbrev pub invariant-loop-c : goal.invariant-loop-c
invariant-loop-c l = (number_from l.steps l.value (drop l.c-index l.text) ≡ number_from 0 0 l.text) × (l.steps ≤ l.c-index) × (l.value < 2 ^ 40)
