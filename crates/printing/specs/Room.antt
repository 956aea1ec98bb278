-- A buffer of 460,000 bytes has room for all that `show` prints: what stands in it is the page, whole.
use Rattle.std.specs.Prelude.{ℕ, zero, suc, ◌+◌, ◌*◌, ◌≤◌, ◌≡◌, Bool, true, false, cond, not, ◌||◌, List, [], ◌∷◌, ◌++◌, eqb, length, drop}
use native.Mathlib.Omega.{arith}
use Rattle.std.proofs.Math.ListN.{length-append}
use Rattle.std.proofs.Common.{length-take}
use Rattle.text.specs.Ascii.{ascii}
use Rattle.text.specs.Put.{before, puts_of, puts_whole}
use Rattle.text.specs.Digits.{decimal_of, digits_length}
use Rattle.slots.specs.View.{view_of}
use Rattle.slots.specs.ViewLaws.{view_length}
use Rattle.wording.specs.Wording.{step_answer}
use Rattle.wording.specs.Room.{step_room}
use Rattle.recording.specs.Recording.{literal_in, report_in, depth_in, first, later}
use Rattle.replaying.specs.Answer.{Verdict, Agree, Differ, Refused}
use Rattle.replaying.specs.Replay.{is_push, top_differs, replay_of}
use Rattle.replaying.specs.Bounds.{spoken}
use Rattle.replaying.proofs.BoundsLaws.{spoken_most}
use Rattle.telling.specs.Verdict.{verdict_line}
use Rattle.telling.specs.Room.{verdict_length}
use Rattle.printing.specs.Names.{name_of}
use Rattle.printing.specs.Page.{shown_top, record_line, record_lines, done_lines, page_of}

either : (b : Bool) (k : ℕ) (xs ys : List ℕ) → length xs ≤ k → length ys ≤ k → length (cond b xs ys) ≤ k
either true k xs ys p q = p
either false k xs ys p q = q

name_length : (l : ℕ) → length (name_of l) ≤ 28
unfolding name_of
name_length l =
    either (eqb l 0) 28 _ _ (omega arith)
    (either (eqb l 1) 28 _ _ (omega arith)
    (either (eqb l 2) 28 _ _ (omega arith)
    (either (eqb l 3) 28 _ _ (omega arith)
    (either (eqb l 4) 28 _ _ (omega arith)
    (either (eqb l 5) 28 _ _ (omega arith)
    (either (eqb l 15) 28 _ _ (omega arith)
    (either (eqb l 27) 28 _ _ (omega arith)
    (either (eqb l 39) 28 _ _ (omega arith)
    (either (eqb l 49) 28 _ _ (omega arith)
    (either (eqb l 58) 28 _ _ (omega arith)
    (either (eqb l 61) 28 _ _ (omega arith) (omega (arith, length-append (ascii "literal ") (decimal_of l), digits_length 19 l)))))))))))))

top_length : (x : List ℕ) → length (shown_top x) ≤ 5
unfolding shown_top
top_length x = either (is_push x || not (eqb (depth_in x) 0) || top_differs x [] 0) 5 _ _ (omega (arith, length-take 5 (drop 4 x))) (omega arith)

line_length : (i : ℕ) (x : List ℕ) → length (record_line i x) ≤ 114
line_length i x =
    let a = decimal_of i in
    let b = a ++ (32 ∷ []) in
    let c = b ++ name_of (literal_in x) in
    let d = c ++ (32 ∷ []) in
    omega (
      arith,
      length-append a (32 ∷ []),
      length-append b (name_of (literal_in x)),
      length-append c (32 ∷ []),
      length-append d (step_answer (report_in x) (depth_in x) (shown_top x)),
      digits_length 19 i,
      name_length (literal_in x),
      step_room (report_in x) (depth_in x) (shown_top x) (top_length x),
    )

lines_length : (n i : ℕ) (r : List ℕ) → length (record_lines n i r) ≤ 114 * n
unfolding record_lines
lines_length zero i r = omega arith
lines_length (suc n) i r =
    omega (
      arith,
      length-append (record_line i (first r)) (record_lines n (i + 1) (later r)),
      line_length i (first r),
      lines_length n (i + 1) (later r),
    )

done_length : (r : List ℕ) (v : Verdict) (report depth : ℕ) (top : List ℕ) → length top ≤ 5 → length (done_lines r v report depth top) ≤ 114 * spoken v + 80
unfolding done_lines spoken
done_length r (Agree n) report depth top h = omega (arith, lines_length n 0 r)
done_length r (Differ n f) report depth top h =
    let a = record_lines (n + 1) 0 r in
    omega (
      arith,
      length-append a (ascii "  this machine: "),
      length-append (a ++ ascii "  this machine: ") (step_answer report depth top),
      lines_length (n + 1) 0 r,
      step_room report depth top h,
    )
done_length r (Refused n) report depth top h = omega arith

module _ (s r out : List ℕ) where
  pub page_whole : length out ≡ 460000 → before (puts_of (out, 0) (page_of r (replay_of s r))) ≡ page_of r (replay_of s r)
  unfolding page_of
  page_whole h =
      let x = replay_of s r in
      let top = view_of x.1 x.0.depth in
      let done = done_lines r x.0.verdict x.0.report x.0.depth top in
      puts_whole out _
      (omega (
        arith,
        length-append done (verdict_line x.0.verdict),
        done_length r x.0.verdict x.0.report x.0.depth top (view_length x.1 x.0.depth),
        verdict_length x.0.verdict,
        spoken_most s r,
      ))
