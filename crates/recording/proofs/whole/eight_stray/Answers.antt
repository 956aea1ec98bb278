-- `eight_stray` meets its contract: one record after another.
use Rattle.std.proofs.Common.{rules, tests, false, ◌∙◌, ◌||◌}
use Rattle.std.proofs.lemmas.Iterator.{YieldsList-from_slice}
use Rattle.std.proofs.lemmas.Iterator.Consumers.{fold_from_yields_List}
use Rattle.recording.specs.Recording.{stray_one}
use Rattle.recording.proofs.ScanLaws.{folded}
use Rattle.recording.proofs.whole.eight_stray.Goals as goal

pub returns : goal.returns
returns c =
    fold_from_yields_List _ (λ found x. found || stray_one x) false c.fold.result c.fold.ensures.ran (YieldsList-from_slice c.args.records.now c.iter.ensures.rest) (λ a x b q k. search (rules, tests))
    ∙ folded stray_one false c.args.records.now
