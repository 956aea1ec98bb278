-- `push_in_place` meets its contract: each way out is a case law of the definition.
use Rattle.std.proofs.Common.{List, ap, ap₂, arith, refl, sym, ℕ, ◌∙◌}
use Rattle.number.specs.Number.{number}
use Rattle.slots.specs.Slots.{put_slot}
use Rattle.slots.specs.Reach.{put_at}
use Rattle.slots.specs.PushLaws.{Room}
use Rattle.slots.proofs.PushLaws.{push_lacking, push_room, alone, put_alone, push_not_five, push_malformed, pushed}
use Rattle.literals.specs.Operate.{outcome}
use Rattle.moving.proofs.pushing.push_in_place.Goals as goal
use Rattle.moving.proofs.pushing.push_in_place.Goals.{Else-is_empty}
use Rattle.moving.proofs.pushing.push_in_place.Given.{Over as Given}

room : (g : Given) (c : Else-is_empty g) → Room c.args.stack.now c.args.depth.now _ refl
room g c =
    push_room _ _ _ refl (omega arith) (sym c.is_empty.ensures ∙ c.if-is_empty.false)

pub returns-then-is_empty : goal.returns-then-is_empty
returns-then-is_empty g c =
    push_lacking _ _ _ refl _ (sym c.is_empty.ensures ∙ c.if-is_empty.true) _ c.refusal.ensures

pub returns-then-malformed_at : goal.returns-then-malformed_at
returns-then-malformed_at g c =
    let r = room g (goal.at.returns-then-malformed_at g c).Else-is_empty in
    push_malformed _ _ _ r.limits r.fits c.if-number-ne5.false (sym (alone _ c.if-number-ne5.false) ∙ sym c.malformed_at.ensures ∙ c.if-malformed_at.true)

pub returns : goal.returns
returns g c =
    let r = room g (goal.at.returns g c).Else-is_empty in
    let has_slot = sym c.is_empty.ensures ∙ c.if-is_empty.false in
    let put = c.put_top.ensures ∙ ap (put_at c.args.stack.now _ 0) (ap₂ number c.b1_at-b1.ensures c.word_at-word.ensures) in
    pushed _ _ _ r.limits r.fits c.if-number-ne5.false (sym (alone _ c.if-number-ne5.false) ∙ sym c.malformed_at.ensures ∙ c.if-malformed_at.false)
    ∙ ap₂ (λ (d : ℕ) (t : List ℕ). (outcome 0 d, t)) (sym r.next)
    (ap (λ (k : ℕ). put_slot c.args.stack.now k c.args.number.now) r.slot
    ∙ sym (put ∙ put_alone _ _ _ has_slot c.if-number-ne5.false (λ k. omega (arith, c.shared_slice_known-1.given k))))

pub returns-then-number-ne5 : goal.returns-then-number-ne5
returns-then-number-ne5 g c = let r = room g (goal.at.returns-then-number-ne5 g c).Else-is_empty in push_not_five _ _ _ r.limits r.fits c.if-number-ne5.true
