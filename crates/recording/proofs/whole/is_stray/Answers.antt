-- `is_stray` meets its contract: the eight bytes make a number over 255 exactly where one above the lowest is not zero.
use Rattle.std.proofs.Common.{rules, arith}
use Rattle.recording.proofs.ScanLaws.{stray_last}
use Rattle.recording.proofs.whole.is_stray.Goals as goal

pub returns : goal.returns
returns c = stray_last c.args.bytes.now (search rules) c.unwrap-last.result.now (search rules) (search (rules, c.fits-bytes)) _ (omega (arith, c.from_le_bytes.ensures))
