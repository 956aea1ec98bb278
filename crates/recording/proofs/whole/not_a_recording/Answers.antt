-- `not_a_recording` meets its contract: eight records at a time, and then those that are left.
use Rattle.std.proofs.Common.{rules, tests, ap, ◌∙◌}
use Rattle.std.specs.List.{list_any}
use Rattle.std.proofs.lemmas.Iterator.{YieldsList-from_slice}
use Rattle.std.proofs.lemmas.Iterator.Search.{any_from_yields_List}
use Rattle.recording.specs.Recording.{stray_one}
use Rattle.recording.specs.RecordingLaws.{too_long, part_record}
use Rattle.recording.proofs.ScanLaws.{found, not_found}
use Rattle.recording.proofs.whole.not_a_recording.Goals as goal

pub returns-then-recording-gt-MOST_BYTES : goal.returns-then-recording-gt-MOST_BYTES
returns-then-recording-gt-MOST_BYTES c = too_long _ c.if-recording-gt-MOST_BYTES.true

pub returns-then-not-is_empty : goal.returns-then-not-is_empty
returns-then-not-is_empty c = part_record _ c.if-recording-gt-MOST_BYTES.false (search rules)

pub returns-then-any : goal.returns-then-any
returns-then-any c =
    let first = any_from_yields_List (list_any stray_one) _ _ c.any.result c.any.ensures.ran (YieldsList-from_slice _ c.iter.ensures.rest) (λ x b q k. search (rules, tests)) in
    found _ c.if-recording-gt-MOST_BYTES.false (search rules) c.as_chunks.result.0.now _ c.as_chunks.ensures.front _ (first ∙ ap (list_any (list_any stray_one)) c.as_chunks-2.ensures.front) c.if-any.true

pub returns-else-any : goal.returns-else-any
returns-else-any c =
    let first = any_from_yields_List (list_any stray_one) _ _ c.any.result c.any.ensures.ran (YieldsList-from_slice _ c.iter.ensures.rest) (λ x b q k. search (rules, tests)) in
    let last = any_from_yields_List stray_one _ _ c.any-else-any.result c.any-else-any.ensures.ran (YieldsList-from_slice _ c.iter-else-any.ensures.rest) (λ x b q k. search (rules, tests)) in
    not_found _ c.if-recording-gt-MOST_BYTES.false (search rules) c.as_chunks.result.0.now _ c.as_chunks.ensures.front _ (first ∙ ap (list_any (list_any stray_one)) c.as_chunks-2.ensures.front) c.if-any.false _
    (last ∙ ap (list_any stray_one) c.as_chunks-2.ensures.back)
