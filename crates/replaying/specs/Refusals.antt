-- The number of a refusal, as the C interface and the programs give it.
use Rattle.std.specs.Prelude.{ℕ}
use Rattle.replaying.specs.declared.answer.Refusal.{Refusal}
use Rattle.replaying.specs.declared.answer.Refusal.TheVariants.{OverLimits, NotARecording}

abbrev pub refusal_number : Refusal → ℕ
refusal_number OverLimits = 1
refusal_number NotARecording = 8
