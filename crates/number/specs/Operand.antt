-- A number as the arithmetic takes it: whether it is malformed, and the parts of its re-stacked form.
use Rattle.std.specs.Prelude.{◌≡◌, ℕ, ◌*◌, ◌/◌, ◌%◌, ◌^◌, ◌<◌, true, false, Option, MatchOption}
use Rattle.number.specs.declared.Number.{Number}
use Rattle.number.specs.declared.operand.Magnitude.{Magnitude}
use Rattle.number.specs.declared.operand.Operand.{Operand}
use Rattle.number.specs.Number.{number, zeros, sign, short_magnitude, malformed, full_of}
use Rattle.number.specs.Restack.{restacked}

abbrev pub operand : ℕ → ℕ → ℕ → Operand
operand s m e = record { sign = s; m = m; e = e }

abbrev pub packed : Operand → Number
packed u = full_of (u.sign / 2 ^ 31) u.e u.m

-- the parts of a well-formed number
pub record Unpacked (x : Number) (u : Operand) : Type 0 where
  pub form : malformed x ≡ false
  pub stands : packed u ≡ restacked x
  pub byte : u.e < 256
  pub none : u.e ≡ 0 → packed u ≡ zeros

-- of any number: there are none of a malformed one
abbrev pub Unpacks : Number → Option Operand → Type 0
Unpacks x o = MatchOption o (malformed x ≡ true) (Unpacked x)

-- of a well-formed number that is not full: how far it is from zero, and its sign on top of the mask
pub record Measured (x : Number) (m : Magnitude) : Type 0 where
  pub form : malformed x ≡ false
  pub away : m.v ≡ short_magnitude x
  pub signs : m.mask / 2 ^ 31 ≡ sign x

-- of any that is not full
abbrev pub Measures : Number → Option Magnitude → Type 0
Measures x o = MatchOption o (malformed x ≡ true) (Measured x)

-- what the mask makes of a number that is not malformed: its b2 is 255 unless it is 0
pub record Masked (w b r : ℕ) : Type 0 where
  pub formed : malformed (number 0 w) ≡ false
  pub away : r % 2 ^ 16 ≡ short_magnitude (number 0 w)
  pub signs : b * 16843009 / 2 ^ 31 ≡ w / 2 ^ 31
