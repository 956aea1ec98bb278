-- "The view hands back the top number's own five bytes inside the lent stack; at depth 0, or where report 1 applies, an empty part."
use Rattle.std.specs.Prelude.{ℕ, ◌-◌, cond, ◌||◌, List, [], ◌==◌}
use Rattle.slots.specs.Slots.{slot}
use Rattle.slots.specs.Reports.{over_limits}

unfoldable pub view_of : List ℕ → ℕ → List ℕ
view_of s d = cond (over_limits s d || d == 0) [] (slot s (d - 1))
