use Rattle.fs_name.proofs.CrcLemmas.{after_word-tables}
use Rattle.fs_name.proofs.crc.after_word.Goals as goal

pub returns : goal.returns
returns c = after_word-tables c.args.remainder c.args.word c.ranges.remainder.fits c.ranges.word.fits
