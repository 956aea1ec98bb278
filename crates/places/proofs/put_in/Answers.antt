-- `put_in` meets its contract: the word's bytes and then the first put the slot.
use Rattle.std.proofs.Common.{List, ap, arith, set, ℕ, ◌*◌, ◌∙◌}
use Rattle.slots.specs.SlotLaws.{put_four, put_swapped}
use Rattle.places.proofs.put_in.Goals as goal

pub returns : goal.returns
returns c =
    ap (λ (t : List ℕ). set t (5 * c.args.slot) c.args.n.b1)
    (c.put_four.ensures ∙ ap (put_four c.args.stack.now c.args.slot) c.swapped.ensures)
    ∙ put_swapped _ _ c.requires c.args.n (omega arith)
