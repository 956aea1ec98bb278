-- Why a line can't be taken, and what standard error has of it then.
use Rattle.std.specs.Prelude.{Ok, Err, Option, None, Some, ℕ, ◌+◌, ◌≤◌, ◌≡◌, refl, Bool, true, false, cond, List, ◌++◌, eqb, ltb}
use Rattle.std.proofs.lemmas.Bool.{false≢true, eqb-false}
use Rattle.std.proofs.Common.{arith, ltb-false}
use Rattle.text.specs.Ascii.{ascii}
use Rattle.edition.specs.declared.Edition.{Edition}
use Rattle.edition.specs.declared.Edition.TheVariants.{Shipped, Mended}
use Rattle.sheet.specs.Line.{Line}
use Rattle.sheet.specs.declared.meaning.Step.TheVariants.{Nothing, Push, Literal, Named}
use Rattle.wording.specs.Wording.{fault_of, place_of}
use Rattle.reasons.specs.declared.why.Why.{Why}
use Rattle.reasons.specs.declared.why.Why.TheVariants.{Unread, Mended as NotShipped, Zero, Full}

-- a recording has at most 64,000 bytes, of which a record takes 16
unfoldable pub why_full : ℕ → Option Why
why_full end = cond (ltb 64000 (end + 16)) (Some Full) None

-- recordings are of the shipped edition
unfoldable pub why_edition : Edition → Option Why
why_edition Shipped = None
why_edition Mended = Some NotShipped

-- "byte 0 the literal (0 for push)": literal 0 has no record
unfoldable pub why_not : Line → ℕ → Option Why
why_not (Ok Nothing) end = None
why_not (Ok (Push n)) end = why_full end
why_not (Ok (Literal l)) end = cond (eqb l 0) (Some Zero) (why_full end)
why_not (Ok (Named e)) end = why_edition e
why_not (Err f) end = Some (Unread f)

-- a line is taken where there is no reason against it
unfoldable pub is_taken : Option Why → Bool
is_taken None = true
is_taken (Some why) = false

unfoldable pub why_text : Why → List ℕ
why_text (Unread f) = fault_of f
why_text NotShipped = ascii "recordings are of the shipped edition"
why_text Zero = ascii "a recording has 0 for a push, and can't hold literal 0"
why_text Full = ascii "a recording holds 4000 records"

abbrev pub complaint_of : ℕ → List ℕ → Why → List ℕ
complaint_of number text why = place_of (ascii "record: line ") number text ++ why_text why ++ ascii "; no recording was written\n"

-- what is so where a line is taken
pub has_room : (end : ℕ) → is_taken (why_full end) ≡ true → end ≤ 63984
unfolding why_full is_taken
has_room end = go (ltb 64000 (end + 16)) refl
  where
    go : (b : Bool) → ltb 64000 (end + 16) ≡ b → is_taken (cond b (Some Full) None) ≡ true → end ≤ 63984
    go true h e = absurd (false≢true e)
    go false h e = omega (arith, ltb-false 64000 (end + 16) h)

pub no_zero : (l end : ℕ) → is_taken (why_not (Ok (Literal l)) end) ≡ true → (l ≡ 0 → ⊥) × (is_taken (why_full end) ≡ true)
unfolding why_not is_taken
no_zero l end = go (eqb l 0) refl
  where
    go : (b : Bool) → eqb l 0 ≡ b → is_taken (cond b (Some Zero) (why_full end)) ≡ true → (l ≡ 0 → ⊥) × (is_taken (why_full end) ≡ true)
    go true h e = absurd (false≢true e)
    go false h e = (eqb-false l 0 h, e)
