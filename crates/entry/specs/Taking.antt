-- Lines that are taken one after the other: what stands before the place is then the recording of their steps.
use Rattle.std.specs.Prelude.{Ok, Err, ℕ, ◌≤◌, ◌≡◌, true, length}
use Rattle.std.proofs.Math.Path.{refl, ap}
use Rattle.std.proofs.Common.{sym, ◌∙◌}
use mathlib.Core.List.{List, [], ◌∷◌, ◌++◌, append-nil, append_assoc}
use Rattle.text.specs.Put.{Text, before, puts_length}
use Rattle.slots.specs.Slots.{bytes_of}
use Rattle.sheet.specs.declared.meaning.Step.TheVariants.{Nothing, Push, Literal, Named}
use Rattle.words.specs.Blanks.{told_of}
use Rattle.sheet.specs.Line.{Line, line_of}
use Rattle.replaying.specs.Made.{Step, push, literal, done_by, record_of, recording_of}
use Rattle.reasons.specs.Complaint.{why_not, is_taken, has_room, no_zero}
use Rattle.entry.specs.Entry.{Kept, step_kept, said_kept, line_recorded}
use Rattle.entry.specs.Room.{push_long, literal_long, record_whole, taken, as_said}

-- the steps of lines with their numbers: a line adds its own, if it has one, to those after it
unfoldable pub and_step : Line → List Step → List Step
and_step (Ok Nothing) xs = xs
and_step (Ok (Push n)) xs = push (bytes_of n) ∷ xs
and_step (Ok (Literal l)) xs = literal l ∷ xs
and_step (Ok (Named e)) xs = xs
and_step (Err f) xs = xs

unfoldable pub steps_of : List (ℕ × List ℕ) → List Step
steps_of [] = []
steps_of (l ∷ ls) = and_step (line_of (told_of l.0 l.1)) (steps_of ls)

-- As `record` does it, with 256 bytes for what is wrong with a line, of which each puts none: from the stack s at depth d and the recording t to k.
pub data Taking : List (ℕ × List ℕ) → List ℕ → ℕ → Text → Kept → Type 0 where
  none : {s : List ℕ} {d : ℕ} {t : Text} → Taking [] s d t (s, d, t)
  more : {number : ℕ} {line : List ℕ} {ls : List (ℕ × List ℕ)} {s : List ℕ} {d : ℕ} {t : Text} {k : Kept} (err : List ℕ) → length err ≡ 256
      → (line_recorded s d number line t err).1.1 ≡ 0
      → Taking ls (line_recorded s d number line t err).0.0 (line_recorded s d number line t err).0.1 (line_recorded s d number line t err).0.2 k
      → Taking ((number, line) ∷ ls) s d t k

-- one line, before those that follow it
module _ (s : List ℕ) (d : ℕ) (t : Text) where
  same_length : (said : Line) → length (said_kept s d t said).2.0 ≡ length t.0
  unfolding said_kept
  same_length (Ok Nothing) = refl
  same_length (Ok (Push n)) = puts_length t _
  same_length (Ok (Literal l)) = puts_length t _
  same_length (Ok (Named e)) = refl
  same_length (Err f) = refl

  module _ (h : length t.0 ≡ 64000) (r : List ℕ) (xs : List Step) where
    step : (x : Step) → length (record_of x (done_by s d x)) ≡ 16 → t.1 ≤ 63984
        → r ≡ before (step_kept s d t x).2 ++ recording_of xs (done_by s d x).1 (done_by s d x).0.depth
        → r ≡ before t ++ recording_of (x ∷ xs) s d
    unfolding recording_of
    step x l e q =
        let rest = recording_of xs (done_by s d x).1 (done_by s d x).0.depth in
        q ∙ ap (λ (ys : List ℕ). ys ++ rest) (record_whole s d t x l h e) ∙ append_assoc (before t) (record_of x (done_by s d x)) rest

    ahead : (said : Line) → is_taken (why_not said t.1) ≡ true
        → r ≡ before (said_kept s d t said).2 ++ recording_of xs (said_kept s d t said).0 (said_kept s d t said).1
        → r ≡ before t ++ recording_of (and_step said xs) s d
    unfolding said_kept and_step recording_of why_not
    ahead (Ok Nothing) e q = q
    ahead (Ok (Push n)) e q = let x = push (bytes_of n) in step x (push_long n _) (has_room t.1 e) q
    ahead (Ok (Literal l)) e q = step (literal l) (literal_long l _) (has_room t.1 (no_zero l t.1 e).1) q
    ahead (Ok (Named v)) e q = q
    ahead (Err f) e q = q

pub taken_recording : {ls : List (ℕ × List ℕ)} {s : List ℕ} {d : ℕ} {t : Text} {k : Kept} → Taking ls s d t k → length t.0 ≡ 64000
    → before k.2 ≡ before t ++ recording_of (steps_of ls) s d
unfolding steps_of recording_of
taken_recording (none {s} {d} {t}) h = sym (append-nil (before t))
taken_recording (more {number} {line} {ls} {s} {d} {t} {k} err g z w) h =
    let e = taken s d number line t err g z in
    let q = as_said s d number line t err g e in
    ahead s d t h (before k.2) (steps_of ls) (line_of (told_of number line)) e (rw q at (taken_recording w (rw q (same_length s d t _ ∙ h))))

pub taken_length : {ls : List (ℕ × List ℕ)} {s : List ℕ} {d : ℕ} {t : Text} {k : Kept} → Taking ls s d t k → length k.2.0 ≡ length t.0
taken_length none = refl
taken_length (more {number} {line} {ls} {s} {d} {t} err g z w) =
    let q = as_said s d number line t err g (taken s d number line t err g z) in
    taken_length w ∙ rw q (same_length s d t (line_of (told_of number line)))
