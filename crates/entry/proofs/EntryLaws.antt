-- One line of a sheet that is recorded, by its parts: a number that is pushed, a literal, a line that is taken, and one that is not.
use Rattle.std.specs.Prelude.{Ok, Option, None, Some, ℕ, ◌≡◌, true, List}
use Rattle.std.proofs.Math.Path.{refl}
use Rattle.std.proofs.lemmas.Bool.{false≢true}
use Rattle.edition.specs.declared.Edition.TheVariants.{Shipped}
use Rattle.text.specs.Put.{Text, puts_of}
use Rattle.number.specs.declared.Number.{Number}
use Rattle.slots.specs.Outcome.{Outcome}
use Rattle.slots.specs.Slots.{bytes_of}
use Rattle.slots.specs.Push.{push_of}
use Rattle.slots.specs.View.{view_of}
use Rattle.literals.specs.Operate.{operate_of}
use Rattle.sheet.specs.declared.meaning.Step.TheVariants.{Push, Literal}
use Rattle.words.specs.Blanks.{told_of, trimmed}
use Rattle.sheet.specs.Line.{Line, line_of}
use Rattle.replaying.specs.Replay.{top_of}
use Rattle.replaying.specs.Made.{done_by, record_with, record_of}
use Rattle.reasons.specs.declared.why.Why.{Why}
use Rattle.reasons.specs.Complaint.{why_not, is_taken, complaint_of}
use Rattle.entry.specs.Entry.{five_of, Kept, said_kept, recorded_by, line_recorded}

module _ (s : List ℕ) (d : ℕ) (t : Text) {said : Line} {o : Outcome} {s' : List ℕ} {u : Text} where
  pub push_kept : (n : Number) → said ≡ Ok (Push n) → push_of s d (bytes_of n) ≡ (o, s') → u ≡ puts_of t (record_with 0 o.report o.depth (five_of (bytes_of n)))
      → (s', o.depth, u) ≡ said_kept s d t said
  unfolding said_kept done_by record_of five_of bytes_of
  push_kept n q e f = rw (q, f) (simp e)

  pub literal_kept : {l : ℕ} {top : List ℕ} → said ≡ Ok (Literal l) → operate_of Shipped s d l ≡ (o, s') → top ≡ view_of s' o.depth
      → u ≡ puts_of t (record_with l o.report o.depth (five_of top)) → (s', o.depth, u) ≡ said_kept s d t said
  unfolding said_kept done_by record_of top_of five_of
  literal_kept q e g f = rw (q, f, g) (simp e)

-- a line that is taken, and one that there is a reason against
module _ (s : List ℕ) (d number : ℕ) (line : List ℕ) (t : Text) (err : List ℕ) {told : List ℕ} {said : Line} {why : Option Why}
    (a : told ≡ told_of number line) (b : said ≡ line_of told) (w : why ≡ why_not said t.1) where
  recorded : line_recorded s d number line t err ≡ recorded_by s d number told t err why
  unfolding line_recorded
  recorded = rw (w, b, a) refl

  pub line_taken : {kept : Kept} → is_taken why ≡ true → kept ≡ said_kept s d t said → (kept, (err, 0)) ≡ line_recorded s d number line t err
  unfolding recorded_by is_taken
  line_taken {kept} e k = go why recorded e
    where
      go : (x : Option Why) → line_recorded s d number line t err ≡ recorded_by s d number told t err x → is_taken x ≡ true → (kept, (err, 0)) ≡ line_recorded s d number line t err
      go None f g = rw (f, k, b) refl
      go (Some x) f g = absurd (false≢true g)

  pub line_left_lem : {because : Why} {text : List ℕ} {complained : Text} → why ≡ Some because → text ≡ trimmed told → complained ≡ puts_of (err, 0) (complaint_of number text because)
      → ((s, d, t), complained) ≡ line_recorded s d number line t err
  unfolding recorded_by
  line_left_lem e x c = rw (recorded, e, c, x) refl
