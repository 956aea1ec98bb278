-- A recording of 64,000 bytes has room for the record of a line that is taken, and a buffer of 256 for the complaint of one that is not: both are whole.
use Rattle.std.specs.Prelude.{Option, None, Some, ℕ, ◌≤◌, ◌≡◌, length, take}
use Rattle.std.proofs.Math.Path.{refl}
use Rattle.std.proofs.lemmas.Bool.{false≢true}
use Rattle.std.proofs.Common.{sym, ◌∙◌, ap, arith, length-append}
use Rattle.std.proofs.Math.Bool.{true, false}
use mathlib.Core.List.{List, [], ◌++◌}
use Rattle.text.specs.Ascii.{ascii}
use Rattle.text.specs.Put.{Text, before, puts_after, puts_whole}
use Rattle.number.specs.declared.Number.{Number}
use Rattle.slots.specs.Outcome.{Outcome}
use Rattle.slots.specs.Slots.{bytes_of}
use Rattle.words.specs.Blanks.{told_of, trimmed}
use Rattle.sheet.specs.Line.{line_of}
use Rattle.wording.specs.Wording.{place_of}
use Rattle.wording.specs.Room.{fault_length, place_length}
use Rattle.replaying.proofs.TopLaws.{top_long}
use Rattle.replaying.specs.Made.{Step, push, literal, done_by, record_of}
use Rattle.reasons.specs.declared.why.Why.{Why}
use Rattle.reasons.specs.declared.why.Why.TheVariants.{Unread, Mended, Zero, Full}
use Rattle.reasons.specs.Complaint.{why_not, is_taken, why_text, complaint_of}
use Rattle.entry.specs.Entry.{Kept, step_kept, said_kept, recorded_by, line_recorded}

-- the record of a step that a line says has sixteen bytes
pub push_long : (n : Number) (o : Outcome × List ℕ) → length (record_of (push (bytes_of n)) o) ≡ 16
unfolding record_of bytes_of
push_long n o = refl

pub literal_long : (l : ℕ) (o : Outcome × List ℕ) → length (record_of (literal l) o) ≡ 16
unfolding record_of
literal_long l o = simp length-append (omega (arith, top_long o.1 o.0.depth))

-- What stands before the place is then what stood there, and the record.
pub record_whole : (s : List ℕ) (d : ℕ) (t : Text) (x : Step) → length (record_of x (done_by s d x)) ≡ 16 → length t.0 ≡ 64000 → t.1 ≤ 63984
    → before (step_kept s d t x).2 ≡ before t ++ record_of x (done_by s d x)
record_whole s d t x l h e = puts_after t.0 t.1 _ (omega arith)

why_length : (w : Why) → length (why_text w) ≤ 100
unfolding why_text
why_length (Unread f) = fault_length f
why_length Mended = omega arith
why_length Zero = omega arith
why_length Full = omega arith

complaint_length : (number : ℕ) (text : List ℕ) (why : Why) → (1 ≤ length (complaint_of number text why)) × (length (complaint_of number text why) ≤ 256)
complaint_length number text why =
    let place = place_of (ascii "record: line ") number text in
    let last = ascii "; no recording was written\n" in
    let a = length-append place (why_text why) in
    let b = length-append (place ++ why_text why) last in
    let c = place_length (ascii "record: line ") number text (omega arith) in
    let w = why_length why in
    (omega (arith, a, b), omega (arith, a, b, c, w))

-- what standard error has of a line: nothing where it is taken
unfoldable pub complaint_if : ℕ → List ℕ → Option Why → List ℕ
complaint_if number text None = []
complaint_if number text (Some why) = complaint_of number text why

-- a line with its number
module _ (s : List ℕ) (d number : ℕ) (line : List ℕ) (t : Text) (err : List ℕ) (h : length err ≡ 256) where
  abbrev told : List ℕ
  told = told_of number line

  abbrev why : Option Why
  why = why_not (line_of told) t.1

  abbrev by : Option Why → Kept × Text
  by w = recorded_by s d number told t err w

  abbrev left : Kept × Text
  left = line_recorded s d number line t err

  whole : (w : Option Why) → before (by w).1 ≡ complaint_if number (trimmed told) w
  unfolding recorded_by complaint_if
  whole None = refl
  whole (Some w) = puts_whole err _ (omega (arith, (complaint_length number (trimmed told) w).1))

  pub complaint_whole : before left.1 ≡ complaint_if number (trimmed told) why
  unfolding line_recorded
  complaint_whole = whole why

  -- nothing is said of a line exactly where it is taken, which is where `record` has an Ok
  none_said : (w : Option Why) → is_taken w ≡ true → (by w).1.1 ≡ 0
  unfolding recorded_by is_taken
  none_said None e = refl
  none_said (Some w) e = absurd (false≢true e)

  pub silent : is_taken why ≡ true → left.1.1 ≡ 0
  unfolding line_recorded
  silent = none_said why

  none_against : (w : Option Why) → (by w).1.1 ≡ 0 → is_taken w ≡ true
  unfolding is_taken complaint_if
  none_against None z = refl
  none_against (Some w) z =
      let said = sym (whole (Some w)) in
      let none : length (complaint_of number (trimmed told) w) ≡ 0 = ap length said ∙ ap (λ (k : ℕ). length (take k (by (Some w)).1.0)) z in
      absurd (omega (arith, none, (complaint_length number (trimmed told) w).0))

  pub taken : left.1.1 ≡ 0 → is_taken why ≡ true
  unfolding line_recorded
  taken = none_against why

  -- what it leaves then is its step's; else all is as it was
  said_by : (w : Option Why) → is_taken w ≡ true → (by w).0 ≡ said_kept s d t (line_of told)
  unfolding recorded_by is_taken
  said_by None e = refl
  said_by (Some w) e = absurd (false≢true e)

  pub as_said : is_taken why ≡ true → left.0 ≡ said_kept s d t (line_of told)
  unfolding line_recorded
  as_said = said_by why

  same_by : (w : Option Why) → is_taken w ≡ false → (by w).0 ≡ (s, d, t)
  unfolding recorded_by is_taken
  same_by None e = absurd (false≢true (sym e))
  same_by (Some w) e = refl

  pub as_it_was : is_taken why ≡ false → left.0 ≡ (s, d, t)
  unfolding line_recorded
  as_it_was = same_by why
