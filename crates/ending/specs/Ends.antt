-- What the ending gives is five zero bytes or a full number: never a short one, and never odd (proofs/EndsLaws).
use Rattle.std.specs.Prelude.{◌<◌, ◌≡◌, ◌⊎◌, Some, None}
use Rattle.ending.specs.Ending.{Answer}
use Rattle.number.specs.Number.{zeros}

abbrev pub ZeroOrFull : Answer → Type 0
ZeroOrFull (Some n) = (n ≡ zeros) ⊎ (0 < n.b1)
ZeroOrFull None = Unit
