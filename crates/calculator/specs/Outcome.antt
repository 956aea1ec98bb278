-- What a run leaves beside the bytes: its report's number, how many literals were done, and the depth after them.
use Rattle.std.specs.Prelude.{ℕ}

pub record RunOutcome : Type 0 where
  pub report : ℕ
  pub position : ℕ
  pub depth : ℕ

abbrev pub run_outcome : ℕ → ℕ → ℕ → RunOutcome
run_outcome r p d = record { report = r; position = p; depth = d }
