-- A page: bytes that a caller lends, and how many of them are written.
use Rattle.std.specs.Prelude.{ℕ, ◌≡◌, List}
use Rattle.text.specs.Put.{Text, puts_of}
use Rattle.text.specs.declared.page.Page.{Page}

-- the lent bytes, and the place after what is written
abbrev pub written : Page → Text
written p = (p.bytes.now, p.len)

-- from one page to the next such bytes are put on the same slice
abbrev pub Puts : Page → Page → List ℕ → Type 0
Puts old new xs = (new.bytes.ghost_name ≡ old.bytes.ghost_name) × (written new ≡ puts_of (written old) xs)
