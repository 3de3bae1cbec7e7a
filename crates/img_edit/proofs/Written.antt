-- What a number reads as once it is written.
use Rattle.std.proofs.Common.{◌≡◌, ℕ, ◌<◌, ◌≤◌, ◌^◌, List, ◌++◌, length, take, drop, ap, sym, ◌∙◌, append_assoc}
use Rattle.std.proofs.lemmas.List.{length-take-le}
use Rattle.std.proofs.Math.Seq.{drop-append_seam}
use borrow.Rule.Slice.PartMut.{put_mid, post_of}
use Rattle.byteorder.specs.Endian.{little_from, little_bytes}
use Rattle.byteorder.specs.Numbers.{little_number-reads_back}
use Rattle.obj_base.proofs.Numbers.{number_at_is}
use Rattle.apfs_model.specs.Bytes.{number_at}

-- the number that was written at a place is the one that is read there
pub number_written : (n x at k : ℕ) (block rest : List ℕ) → at ≤ length block → x < 256 ^ n →
    number_at n (put_mid at k block (little_bytes n x ++ rest)) at ≡ x
number_written n x at k block rest inside small =
    let front : length (take at block) ≡ at = length-take-le at block inside in
    let behind : drop at (put_mid at k block (little_bytes n x ++ rest)) ≡ (little_bytes n x ++ rest) ++ post_of at k block =
    ap (λ m. drop m (put_mid at k block (little_bytes n x ++ rest))) (sym front) ∙ drop-append_seam (take at block) ((little_bytes n x ++ rest) ++ post_of at k block) in
    let read : number_at n (put_mid at k block (little_bytes n x ++ rest)) at ≡ little_from 0 n (drop at (put_mid at k block (little_bytes n x ++ rest))) =
    sym (number_at_is n (put_mid at k block (little_bytes n x ++ rest)) at) in
    read ∙ ap (λ l. little_from 0 n l) (behind ∙ append_assoc (little_bytes n x) rest (post_of at k block))
    ∙ little_number-reads_back n x (rest ++ post_of at k block) small
