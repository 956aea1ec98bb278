-- What a replay answers beside the bytes that it leaves, with reports by their numbers, and the code's answer as that.
use Rattle.std.specs.Prelude.{ℕ}
use Rattle.slots.specs.Numbers.{number_of}
use Rattle.replaying.specs.Refusals.{refusal_number}
use Rattle.replaying.specs.declared.answer.Field.{Field}
use Rattle.replaying.specs.declared.answer.Verdict.{Verdict as CodeVerdict}
use Rattle.replaying.specs.declared.answer.Verdict.TheVariants.{Agree as CodeAgree, Differ as CodeDiffer, Refused as CodeRefused}
use Rattle.replaying.specs.declared.answer.Replayed.{Replayed as CodeReplayed}

pub data Verdict : Type 0 where
  -- how many records there are
  Agree : ℕ → Verdict
  -- the number of the first record that differs, and its first field that does
  Differ : ℕ → Field → Verdict
  -- 1 or 8
  Refused : ℕ → Verdict

pub record Replayed : Type 0 where
  pub verdict : Verdict
  -- of the step that differs, and else 0
  pub report : ℕ
  pub depth : ℕ

abbrev pub verdict_of : CodeVerdict → Verdict
verdict_of (CodeAgree n) = Agree n
verdict_of (CodeDiffer n f) = Differ n f
verdict_of (CodeRefused r) = Refused (refusal_number r)

abbrev pub replayed_of : CodeReplayed → Replayed
replayed_of r = record { verdict = verdict_of r.verdict; report = number_of r.report; depth = r.depth }
