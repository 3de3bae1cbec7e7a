use Rattle.std.proofs.Common.{◌+◌, ◌-◌, ap, ◌∙◌, arith}
use borrow.Rule.Slice.PartMut.{put_mid}
use Rattle.apfs_model.specs.Bytes.{number_at, u64_at}
use Rattle.img_edit.proofs.Written.{number_written}
use Rattle.img_edit.proofs.writer.put_u64.Goals as goal

pub returns-clause-value : goal.returns-clause-value
unfolding u64_at
returns-clause-value c =
    ap (λ l. number_at 8 (put_mid c.args.at (c.args.at + 8 - c.args.at) c.args.block.now l) c.args.at) c.write_u64.ensures
    ∙ number_written 8 c.args.value c.args.at (c.args.at + 8 - c.args.at) c.args.block.now _ (omega arith) (omega arith)
