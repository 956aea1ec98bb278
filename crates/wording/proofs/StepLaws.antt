-- What is shown of a line, byte by byte: one step of a loop, and its end.
use Rattle.std.specs.Prelude.{ℕ, ◌+◌, ◌<◌, ◌≤◌, ◌≡◌, List, length, drop, get_or}
use Rattle.std.proofs.Common.{add-one, drop_of_length-le}
use Rattle.std.proofs.Math.Seq.{drop-cons}
use Rattle.text.specs.Put.{Text, put_of, puts_of}
use Rattle.wording.specs.Wording.{shown_byte, shown_of}

-- a list of which i bytes are put
module _ (t : Text) (bs : List ℕ) (i : ℕ) where
  pub shown_done : length bs ≤ i → puts_of t (shown_of (drop i bs)) ≡ t
  unfolding shown_of puts_of
  shown_done h = rw (drop_of_length-le bs h)

  pub shown_next : {u : Text} {b : ℕ} → i < length bs → u ≡ put_of t b → b ≡ shown_byte (get_or bs i 0) → puts_of t (shown_of (drop i bs)) ≡ puts_of u (shown_of (drop (i + 1) bs))
  unfolding shown_of puts_of
  shown_next h e f = rw (add-one, drop-cons bs i 0, e, f)

pub shown_part : (t : Text) {u : Text} {xs ys : List ℕ} → xs ≡ ys → u ≡ puts_of t (shown_of xs) → u ≡ puts_of t (shown_of ys)
shown_part t e f = rw (← e) f
