-- `copy_top` meets its contract: one comparison says whether there is a top and room (`copies`, `no_copy`).
use Rattle.std.proofs.Common.{ap, arith, false, get_or, sym, true, ℕ, ◌%◌, ◌*◌, ◌+◌, ◌-◌, ◌^◌, ◌∙◌, ◌≡◌}
use Rattle.std.proofs.Math.Nat.{max_comm}
use Rattle.number.specs.Number.{number, swapped_of}
use Rattle.slots.specs.Slots.{number_in, put_in}
use Rattle.slots.specs.SlotLaws.{four_word}
use Rattle.slots.specs.LimitLaws.{over_length}
use Rattle.slots.specs.Reach.{lacking, copied_of}
use Rattle.slots.specs.ReachLaws.{lacking_over, copied_nowhere, copied_there, no_copy, copies}
use Rattle.places.proofs.copy_top.Goals as goal
use Rattle.places.proofs.copy_top.Goals.{Else-max-depth, Start}

-- nothing is copied
refused : (i : Start) → (let a = i.args in lacking a.stack.now (a.depth + 1) 2 ≡ true → (true ≡ lacking a.stack.now (a.depth + 1) 2) × (a.stack.now ≡ copied_of a.stack.now a.depth))
refused i l = (sym l, sym (copied_nowhere _ _ l))

there : (c : Else-max-depth) → (let a = c.args in lacking a.stack.now (a.depth + 1) 2 ≡ false)
there c =
    copies c.args.stack.now c.args.depth ((c.args.depth + (2 ^ 64 - 1)) % 2 ^ 64) c.max.result (omega arith) (omega arith) (omega arith) (c.max.ensures ∙ max_comm _ _) c.if-max-depth.false

pub returns-then-len-gt16000 : goal.returns-then-len-gt16000
returns-then-len-gt16000 c = refused (goal.at.returns-then-len-gt16000 c).Start (lacking_over _ _ _ (over_length c.args.stack.now _ (omega arith)))

pub returns-then-max-depth : goal.returns-then-max-depth
returns-then-max-depth c =
    refused (goal.at.returns-then-max-depth c).Start (no_copy c.args.stack.now c.args.depth ((c.args.depth + (2 ^ 64 - 1)) % 2 ^ 64) c.max.result (omega arith) (omega arith) (omega arith) (c.max.ensures ∙ max_comm _ _) c.if-max-depth.true)

pub returns : goal.returns
unfolding number_in
returns c = (
  sym (there (goal.at.returns c).Else-max-depth),
  c.put_in.ensures
      ∙ ap (λ (n : ℕ). put_in c.args.stack.now c.args.depth (number (get_or c.args.stack.now (5 * (c.args.depth - 1)) 0) n)) (c.swapped-word.ensures ∙ ap swapped_of c.four_in.ensures ∙ four_word c.args.stack.now _ (λ k. omega (arith, c.slice_known-1.given k)))
      ∙ sym (copied_there _ _ (there (goal.at.returns c).Else-max-depth)),
)
