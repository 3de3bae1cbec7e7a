use Rattle.std.proofs.Common.{ap, ◌∙◌, ◌/◌, get_or, arith}
use Rattle.std.specs.Prelude.{bit_xor, bit_and}
use Rattle.fs_name.specs.declared.crc.TheConstants.{TABLE}
use Rattle.fs_name.proofs.CrcLemmas.{after_byte-table}
use Rattle.fs_name.proofs.crc.after_byte.Goals as goal

pub returns : goal.returns
returns c =
    ap (λ b. bit_xor (get_or TABLE (bit_and (bit_xor c.args.remainder b) 255) 0) (c.args.remainder / 256)) c.from.ensures
    ∙ after_byte-table c.args.remainder c.args.byte (omega arith)
