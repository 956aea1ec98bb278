-- A buffer of 64 bytes has room for the line that `replay` prints: what stands in it is the line, whole.
use Rattle.std.specs.Prelude.{ℕ, ◌≤◌, ◌≡◌, List, [], ◌∷◌, ◌++◌, length}
use Rattle.std.proofs.Common.{arith, length-append}
use Rattle.text.specs.Ascii.{ascii}
use Rattle.text.specs.Put.{before, puts_of, puts_whole}
use Rattle.text.specs.Digits.{decimal_of, digits_length}
use Rattle.replaying.specs.Answer.{Verdict, Agree, Differ, Refused}
use Rattle.replaying.specs.declared.answer.Field.{Field}
use Rattle.replaying.specs.declared.answer.Field.TheVariants.{Report, Depth, Top}
use Rattle.replaying.specs.Replay.{replay_of}
use Rattle.telling.specs.Verdict.{field_name, verdict_line, answer_of}

field_length : (f : Field) → length (field_name f) ≤ 8
unfolding field_name
field_length Report = omega arith
field_length Depth = omega arith
field_length Top = omega arith

pub verdict_length : (v : Verdict) → length (verdict_line v) ≤ 36
unfolding verdict_line
verdict_length (Agree n) =
    omega (arith, length-append (ascii "agree ") (decimal_of n), length-append (ascii "agree " ++ decimal_of n) (10 ∷ []), digits_length 19 n)
verdict_length (Differ n f) =
    omega (arith, length-append (ascii "differ ") (decimal_of n), length-append (ascii "differ " ++ decimal_of n) (field_name f), digits_length 19 n, field_length f)
verdict_length (Refused n) =
    omega (arith, length-append (ascii "refused ") (decimal_of n), length-append (ascii "refused " ++ decimal_of n) (10 ∷ []), digits_length 19 n)

module _ (s r out : List ℕ) where
  pub line_whole : length out ≡ 64 → before (puts_of (out, 0) (answer_of (replay_of s r))) ≡ answer_of (replay_of s r)
  line_whole h = puts_whole out _ (omega (arith, verdict_length (replay_of s r).0.verdict))
