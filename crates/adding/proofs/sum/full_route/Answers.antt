-- `full_route` meets its contract: the sum of the two terms is the full route's, which the sum takes.
use Rattle.std.proofs.Common.{Bool, ap, ap₂, inl, inr, is_none, refl, sym, true, ℕ, ◌||◌, ◌∙◌, ◌≡◌, ◌⊎◌}
use mathlib.Core.Bool.{or-true}
use Rattle.std.proofs.lemmas.Option.{same_Some}
use Rattle.edition.specs.declared.Edition.TheVariants.{Shipped}
use Rattle.number.specs.Number.{malformed}
use Rattle.addition.specs.SignBytes.{Says}
use Rattle.slots.specs.Reach.{number_at}
use Rattle.literals.specs.Operate.{outcome, operate_of}
use Rattle.literals.proofs.WayLaws.{two_malformed}
use Rattle.operands.specs.Stored.{stored_of, stored_as, two_stored}
use Rattle.adding.specs.Sum.{flips, literal_of, total_of, sum_line}
use Rattle.adding.specs.Term.{term_form, term_formed, terms_summed}
use Rattle.adding.proofs.sum.full_route.Goals as goal
use Rattle.adding.proofs.sum.full_route.Goals.{Start}

either : (a b : Bool) → (a ≡ true) ⊎ (b ≡ true) → a || b ≡ true
either a b (inl h) = simp h
either a b (inr h) = ap (◌||◌ a) h ∙ or-true a

-- report 3, at the depth as it was read
refused : (i : Start) → (let s = i.args.stack.now in (malformed (number_at s i.args.old 1) ≡ true) ⊎ (malformed (number_at s i.args.old 0) ≡ true)
    → operate_of Shipped s i.args.depth.now (literal_of (flips i.args.flip)) ≡ (outcome 3 i.args.depth.now, s))
refused i m =
    let s = i.args.stack.now in
    let l = flips i.args.flip in
    ap (λ (k : ℕ). operate_of Shipped s k (literal_of l)) i.requires.1
    ∙ two_malformed Shipped _ _ _ (total_of l) (sum_line l) i.requires.2 (either _ _ m)
    ∙ ap (λ (k : ℕ). (outcome 3 k, s)) (sym i.requires.1)

pub returns-in_default : goal.returns-in_default
returns-in_default c = refused (goal.at.returns-in_default c).Start (inr (sym (ap is_none c.in_default.ensures.0 ∙ term_form _ _)))

pub returns-in_default-term : goal.returns-in_default-term
returns-in_default-term c = refused (goal.at.returns-in_default-term c).Start (inl (sym (ap is_none c.in_default-term.ensures.0 ∙ term_form _ _)))

pub returns : goal.returns
unfolding Says
returns c =
    let s = c.args.stack.now in
    let l = flips c.args.flip in
    let b = c.in-Some.ensures in
    let a = c.in-Some-term.ensures in
    let o = sym (ap is_none b.0 ∙ term_form _ _) in
    let m = sym (ap is_none a.0 ∙ term_form _ _) in
    let is = c.aligned_sum-answer.ensures ∙ terms_summed _ _ _ _ (same_Some _ _ (a.0 ∙ term_formed _ _ m)) (same_Some _ _ (b.0 ∙ term_formed _ _ o)) a.1 b.1 ∙ sym c.requires.3 in
    ap (λ (k : ℕ). operate_of Shipped s k (literal_of l)) c.requires.1
    ∙ two_stored Shipped _ _ _ (total_of l) (sum_line l) c.requires.2 (simp (m, o)) _ _ _ (ap₂ (stored_of s) (sym c.requires.1) (sym is) ∙ stored_as _ _ _ _ _ _ (c.requires.1, c.requires.2, refl, refl) c.store.ensures)
