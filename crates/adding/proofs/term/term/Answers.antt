-- `term` meets its contract: a full number by its word, and any other by its operand.
use Rattle.std.proofs.Common.{ap, ap₂, arith, false, of_z, Some, sym, to_z, w64, ℕ, ℤ, ◌%◌, ◌*◌, ◌+◌, ◌/◌, ◌<◌, ◌^◌, ◌∙◌, ◌≡◌}
use Rattle.std.proofs.lemmas.Option.{MatchOption-from_none}
use Rattle.number.specs.declared.Number.{Number}
use Rattle.number.specs.Number.{number, malformed}
use Rattle.number.specs.NumberLaws.{Bytes}
use Rattle.number.specs.FormLaws.{malformed_full}
use Rattle.number.specs.Value.{signed}
use Rattle.number.specs.Restack.{restacked}
use Rattle.number.proofs.RestackLaws.{restack_full}
use Rattle.addition.specs.SignedLaws.{nat_abs_signed, held}
use Rattle.slots.specs.Reach.{number_at}
use Rattle.adding.specs.declared.term.Summand.{Summand}
use Rattle.adding.specs.Sum.{flips}
use Rattle.adding.specs.Term.{term, term_of, term_malformed, term_none, term_some}
use Rattle.adding.proofs.term.term.Goals as goal
use Rattle.adding.proofs.term.term.Goals.{After-b1_at-b1, After-word_at}

-- a number as it was read
Told : (c : After-b1_at-b1) → Summand → Type 0
Told c u = let a = c.args in (Some u ≡ term_of (flips a.flip) (number_at a.stack.now a.depth a.above)) × (u.e < 256)

told : (c : After-b1_at-b1) (n : Number) (u : Summand) → (let a = c.args in
    n ≡ number_at a.stack.now a.depth a.above → term_of (flips a.flip) n ≡ Some u → u.e < 256 → Told c u)
unfolding Told
told c n u e g h = (sym (sym (ap (term_of (flips c.args.flip)) e) ∙ g), h)

-- one that does not count as zero, by the parts of its re-stacked form
some : (c : After-b1_at-b1) (n : Number) (s v e : ℕ) (r : ℤ) → (let a = c.args in
    n ≡ number_at a.stack.now a.depth a.above → Bytes n → malformed n ≡ false → number e (v % 2 ^ 31 + 2 ^ 31 * (s / 2 ^ 31 % 2)) ≡ restacked n
    → (e ≡ 0 → ⊥) → e < 256 → r ≡ signed ((s + a.flip) % 2 ^ 32 / 2 ^ 31) (v % 2 ^ 31 + 2 ^ 31) → Told c (term (to_z w64 (of_z w64 r)) e))
some c n s v e r at b m p q l j =
    let f = c.args.flip in
    let first = ap (λ (y : Number). y.b1) (sym p) in
    let x = held r _ j (rw (nat_abs_signed ((s + f) % 2 ^ 32 / 2 ^ 31) (v % 2 ^ 31 + 2 ^ 31)) (omega arith)) in
    told c n _ at
    (term_some f n b c.requires m s v (λ z. q (sym first ∙ z)) (ap (λ (y : Number). y.word) (sym p)) ∙ ap₂ (λ (i : ℤ) (k : ℕ). Some (term i k)) (sym x) first) l

short_at : (c : After-word_at) → (let a = c.args in
    number 0 c.word_at.result ≡ number_at a.stack.now a.depth a.above)
short_at c = ap₂ number (sym c.if-b1-ne0.false ∙ c.b1_at-b1.ensures) c.word_at.ensures

pub returns-then-b1-ne0 : goal.returns-then-b1-ne0
unfolding Told
returns-then-b1-ne0 c =
    let w = c.word_at-word.result in
    let n = number c.b1_at-b1.result w in
    let full = c.if-b1-ne0.true in
    let same : w % 2 ^ 31 + 2 ^ 31 * (w / 2 ^ 31 % 2) ≡ w = omega arith in
    some (goal.at.returns-then-b1-ne0 c).After-b1_at-b1 n w w _ _ (ap₂ number c.b1_at-b1.ensures c.word_at-word.ensures) (omega arith) (malformed_full n full) (ap (number _) same ∙ sym (restack_full n full)) full (omega arith)
    c.signed.ensures

pub returns-in_err-o : goal.returns-in_err-o
returns-in_err-o c =
    let none = c.from_residual.ensures in
    let at = short_at (goal.at.returns-in_err-o c).After-word_at in
    (none ∙ sym (ap (term_of _) (sym at) ∙ term_malformed _ _ c.in_err-o.ensures), MatchOption-from_none _ _ none)

pub returns-then-o-eq0 : goal.returns-then-o-eq0
unfolding Told
returns-then-o-eq0 c =
    let u = c.in_ok-o.ensures in
    told (goal.at.returns-then-o-eq0 c).After-b1_at-b1 _ _ (short_at (goal.at.returns-then-o-eq0 c).After-word_at)
    (term_none _ _ (omega arith) c.requires u.form (sym u.stands ∙ u.none c.if-o-eq0.true)) (omega arith)

pub returns : goal.returns
unfolding Told
returns c =
    let u = c.in_ok-o.ensures in
    some (goal.at.returns c).After-b1_at-b1 _ _ _ _ _ (short_at (goal.at.returns c).After-word_at) (omega arith) u.form u.stands c.if-o-eq0.false u.byte c.signed-2.ensures
