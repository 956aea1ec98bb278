-- Buffers of 64 and 256 bytes have room for all that a line writes: what stands in them is the answer and the complaint, whole.
use Rattle.std.specs.Prelude.{Ok, Err, ℕ, ◌≤◌, ◌≡◌, Bool, true, false, List, [], ◌∷◌, ◌++◌, length}
use Rattle.std.proofs.Common.{arith, length-append}
use Rattle.text.specs.Ascii.{ascii}
use Rattle.text.specs.Put.{before, puts_whole}
use Rattle.text.specs.Digits.{decimal_of, digits_length}
use Rattle.edition.specs.declared.Edition.{Edition}
use Rattle.slots.specs.View.{view_of}
use Rattle.slots.specs.ViewLaws.{view_length}
use Rattle.words.specs.Blanks.{told_of, trimmed}
use Rattle.sheet.specs.Line.{Line, line_of}
use Rattle.sheet.specs.declared.meaning.Step.TheVariants.{Nothing, Push, Literal, Named}
use Rattle.sheet.specs.declared.meaning.Fault.{Fault}
use Rattle.wording.specs.Wording.{fault_of, place_of}
use Rattle.wording.specs.Room.{step_room, fault_length, place_length}
use Rattle.reply.specs.Answer.{answer_of, written_of, complaint, complaint_of}
use Rattle.reply.specs.Step.{step_of}
use Rattle.reply.specs.Following.{said_of, Left, line_left}

answer_room : (number : ℕ) (said : Line) (report depth : ℕ) (top : List ℕ) → length top ≤ 5 → length (answer_of number said report depth top) ≤ 64
unfolding answer_of
answer_room number (Ok Nothing) report depth top h = omega arith
answer_room number (Ok (Push n)) report depth top h = step_room report depth top h
answer_room number (Ok (Literal l)) report depth top h = step_room report depth top h
answer_room number (Ok (Named e)) report depth top h = omega arith
answer_room number (Err f) report depth top h =
    let a = ascii "? line " ++ decimal_of number in
    omega (arith, length-append (ascii "? line ") (decimal_of number), length-append a (10 ∷ []), digits_length 19 number)

complaint_length : (first : List ℕ) (number : ℕ) (text : List ℕ) (f : Fault) (last : List ℕ) → length first ≤ 16 → length last ≤ 48
    → length (complaint first number text f last) ≤ 256
complaint_length first number text f last h g =
    let place = place_of first number text in
    omega (
      arith,
      length-append place (fault_of f),
      length-append (place ++ fault_of f) last,
      place_length first number text h,
      fault_length f,
    )

said_room : (terminal : Bool) (number : ℕ) (text : List ℕ) (said : Line) → length (said_of terminal number text said) ≤ 256
unfolding said_of complaint_of
said_room terminal number text (Ok Nothing) = omega arith
said_room terminal number text (Ok (Push n)) = omega arith
said_room terminal number text (Ok (Literal l)) = omega arith
said_room terminal number text (Ok (Named e)) = omega arith
said_room true number text (Err f) = complaint_length (ascii "line ") number text f (ascii "; type it again\n") (omega arith) (omega arith)
said_room false number text (Err f) =
    complaint_length (ascii "calc: line ") number text f (ascii "; nothing from this line on was done\n") (omega arith) (omega arith)

-- a line that is done
module _ (terminal : Bool) (ed : Edition) (s : List ℕ) (d number : ℕ) (line out err : List ℕ) where
  abbrev said : Line
  said = line_of (told_of number line)

  abbrev left : Left
  left = line_left terminal true ed s d number line out err

  pub answer_whole : length out ≡ 64 → before left.4 ≡ written_of number said (step_of ed s d said)
  unfolding line_left
  answer_whole h =
      let done = step_of ed s d said in
      puts_whole out _ (omega (arith, answer_room number said done.0.report done.0.depth (view_of done.1 done.0.depth) (view_length done.1 done.0.depth)))

  pub complaint_whole : length err ≡ 256 → before left.5 ≡ said_of terminal number (trimmed (told_of number line)) said
  unfolding line_left
  complaint_whole h = puts_whole err _ (omega (arith, said_room terminal number (trimmed (told_of number line)) said))
