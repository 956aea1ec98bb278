-- One line of a sheet that is done, by its parts.
use Rattle.std.specs.Prelude.{ℕ, ◌≡◌, Bool, true, List}
use Rattle.text.specs.Put.{Text, puts_of}
use Rattle.edition.specs.declared.Edition.{Edition}
use Rattle.slots.specs.Outcome.{Outcome}
use Rattle.slots.specs.View.{view_of}
use Rattle.words.specs.Blanks.{told_of, trimmed}
use Rattle.sheet.specs.Line.{Line, line_of}
use Rattle.reply.specs.Step.{step_of, edition_after}
use Rattle.reply.specs.Answer.{answer_of}
use Rattle.reply.specs.Following.{said_of, goes_on, line_left}

pub line_done : (terminal : Bool) {going : Bool} (ed : Edition) (s : List ℕ) (d number : ℕ) (line out err : List ℕ) {told text top left : List ℕ} {said : Line} {done : Outcome} {after : Edition} {goes : Bool}
    {put complained : Text} → going ≡ true → told ≡ told_of number line → said ≡ line_of told → text ≡ trimmed told → step_of ed s d said ≡ (done, left) → top ≡ view_of left done.depth
    → put ≡ puts_of (out, 0) (answer_of number said done.report done.depth top) → complained ≡ puts_of (err, 0) (said_of terminal number text said)
    → goes ≡ goes_on terminal said → after ≡ edition_after ed said → (left, done.depth, after, goes, put, complained) ≡ line_left terminal going ed s d number line out err
unfolding line_left
line_done terminal ed s d number line out err going told said text step top put complained goes after = rw (put, complained, goes, after, top, text, going) (simp (← told, ← said, step))
