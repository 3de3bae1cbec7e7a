-- The fixed parts of values stay where the bytes before a place do.
use Rattle.std.proofs.Common.{◌≡◌, ℕ, List, Vec, Result, Ok, Err, None, IfOk, take, drop, vec_len, subst, sym, ◌∙◌, arith}
use Rattle.std.proofs.lemmas.List.{drop_all}
use Rattle.std.specs.declared.alloc.Global.{Global}
use Rattle.apfs_model.specs.Bytes.{u16_at, u32_at, u64_at}
use Rattle.img_plan.specs.declared.records.inodes.InodePlan.{InodePlan}
use Rattle.img_plan.specs.Records.{EndsInStream, IsEntryFront, IsInodeFront, IsInodeValue}
use Rattle.img_plan.proofs.Kept.{number_before}

-- the fixed part of an entry's value
pub entry_front_stays : (file kind : ℕ) (old new : List ℕ) → take 18 new ≡ take 18 old → IsEntryFront file kind old → IsEntryFront file kind new
unfolding u16_at u64_at
entry_front_stays file kind old new same was = record {
  inode = number_before 8 old new 0 18 (omega arith) same ∙ was.inode;
  added = number_before 8 old new 8 18 (omega arith) same ∙ was.added;
  flags = number_before 2 old new 16 18 (omega arith) same ∙ was.flags;
}

-- the fixed part of an inode's value
pub inode_front_stays : (plan : InodePlan) (old new : List ℕ) → take 92 new ≡ take 92 old → IsInodeFront plan old → IsInodeFront plan new
unfolding u16_at u32_at u64_at
inode_front_stays plan old new same was = record {
  parent = number_before 8 old new 0 92 (omega arith) same ∙ was.parent;
  private = number_before 8 old new 8 92 (omega arith) same ∙ was.private;
  created = number_before 8 old new 16 92 (omega arith) same ∙ was.created;
  modified = number_before 8 old new 24 92 (omega arith) same ∙ was.modified;
  changed = number_before 8 old new 32 92 (omega arith) same ∙ was.changed;
  accessed = number_before 8 old new 40 92 (omega arith) same ∙ was.accessed;
  flags = number_before 8 old new 48 92 (omega arith) same ∙ was.flags;
  links = number_before 4 old new 56 92 (omega arith) same ∙ was.links;
  protection = number_before 4 old new 60 92 (omega arith) same ∙ was.protection;
  writes = number_before 4 old new 64 92 (omega arith) same ∙ was.writes;
  bsd_flags = number_before 4 old new 68 92 (omega arith) same ∙ was.bsd_flags;
  owner = number_before 4 old new 72 92 (omega arith) same ∙ was.owner;
  group = number_before 4 old new 76 92 (omega arith) same ∙ was.group;
  mode = number_before 2 old new 80 92 (omega arith) same ∙ was.mode;
  pad = number_before 2 old new 82 92 (omega arith) same ∙ was.pad;
  uncompressed = number_before 8 old new 84 92 (omega arith) same ∙ was.uncompressed;
}

-- the fixed part of an inode's value alone is the value of an inode without a stream
pub no_stream : {E : Type 0} (plan : InodePlan) (made : Result (Vec ℕ Global) E) → plan.stream ≡ None → IfOk made (λ value. vec_len value ≡ 92) → IfOk made (λ value. IsInodeFront plan value.items) → IfOk made (λ value. IsInodeValue plan value.items)
no_stream plan (Ok value) none len front = record {
  front = front;
  end = subst (λ stream. EndsInStream stream (drop 92 value.items)) (sym none) (drop_all 92 value.items (omega (arith, value.ok.0, len)));
}
no_stream plan (Err e) none len front = tt
