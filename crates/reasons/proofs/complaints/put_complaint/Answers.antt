-- `put_complaint` meets its contract: its parts, one after the other.
use Rattle.std.proofs.Common.{◌∙◌}
use Rattle.text.specs.Put.{puts_then}
use Rattle.reasons.proofs.complaints.put_complaint.Goals as goal

pub returns : goal.returns
returns c = (
  c.put_all.ensures.0 ∙ c.put_why.ensures.0 ∙ c.put_place.ensures.0,
  puts_then _ _ _ (puts_then _ _ _ c.put_place.ensures.1 c.put_why.ensures.1) c.put_all.ensures.1,
)
