-- What a call leaves beside the bytes: its report's number, and the depth.
use Rattle.std.specs.Prelude.{ℕ}

pub record Outcome : Type 0 where
  pub report : ℕ
  pub depth : ℕ
