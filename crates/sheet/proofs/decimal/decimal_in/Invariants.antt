-- `decimal_in` meets its contract: the digits from here on give the whole.
use Rattle.std.proofs.Common.{drop, ◌≡◌, ◌≤◌}
use Rattle.sheet.specs.Decimal.{decimal_in, decimal_from}
use Rattle.sheet.proofs.decimal.decimal_in.Given as goal

abbrev pub invariant-loop-c : goal.invariant-loop-c
invariant-loop-c l = (decimal_from l.most l.value (drop l.c-index l.text) ≡ decimal_in l.most l.text) × (l.value ≤ l.most)
