-- What the definitions promise of every view.
use Rattle.std.proofs.Common.{◌≡◌, ℕ, Bool, true, false, cond, List, Option, Some, None, Result, Ok, Err, ◌⊎◌, inl, inr, refl, sym}
use Rattle.std.specs.Prelude.{not, ◌==◌}
use Rattle.apfs_model.specs.Bytes.{has_flag}
use Rattle.bt_node.specs.Entries.{Pair}
use Rattle.fs_name.specs.declared.naming.Names.{Names}
use Rattle.fs_record.specs.Inodes.{Inode, inode_kind}
use Rattle.fs_record.specs.Attributes.{Attribute}
use Rattle.fs_record.specs.Facts.{regular_kind}
use Rattle.file_extent.specs.Streams.{extents_for, stream_bytes}
use Rattle.view_rules.specs.Facts.{Facts, facts_in}
use Rattle.path_search.specs.Found.{found}
use Rattle.path_search.specs.declared.answer.Answer.{Answer}
use Rattle.path_search.specs.declared.answer.Answer.TheVariants.{NotFile, Compressed, Dataless, NoAttribute}
use Rattle.path_search.proofs.Laws.{err-same, ok-err, answers_then, IsPathAnswer, found_answers}
use Rattle.path_read.specs.Contents.{stream_in, readable, contents, compressed_flag, dataless_flag}
use Rattle.path_read.specs.Attributes.{attributes, held_by, attribute_named, attribute}

-- ---- answers
-- what is answered of attributes is answered of the path
pub attributes_answers : (facts : Facts) (path : List ℕ) (a : Answer) → attributes facts path ≡ Err a → IsPathAnswer a
attributes_answers facts path a e = answers_then IsPathAnswer (found facts path) _ (found_answers facts path) (λ place b h. absurd (ok-err _ b h)) a e

-- the answers of contents
abbrev pub IsFileAnswer : Answer → Type 0
IsFileAnswer a = IsPathAnswer a ⊎ ((a ≡ NotFile) ⊎ ((a ≡ Compressed) ⊎ (a ≡ Dataless)))

readable-answers : (inode : Inode) (a : Answer) → readable inode ≡ Err a → IsFileAnswer a
unfolding readable
readable-answers inode a e =
    let ends : (b : Bool) → cond b (Err Dataless) (Ok inode) ≡ Err a → IsFileAnswer a = λ b. elim b as (λ b. cond b (Err Dataless) (Ok inode) ≡ Err a → IsFileAnswer a) [
      | true ↦ λ h. inr (inr (inr (sym (err-same Dataless a h))))
      | false ↦ λ h. absurd (ok-err inode a h)
    ] in
    let last : Result Inode Answer = cond (has_flag inode.bsd_flags dataless_flag) (Err Dataless) (Ok inode) in
    let then : (b : Bool) → cond b (Err Compressed) last ≡ Err a → IsFileAnswer a = λ b. elim b as (λ b. cond b (Err Compressed) last ≡ Err a → IsFileAnswer a) [
      | true ↦ λ h. inr (inr (inl (sym (err-same Compressed a h))))
      | false ↦ λ h. ends (has_flag inode.bsd_flags dataless_flag) h
    ] in
    let middle : Result Inode Answer = cond (has_flag inode.bsd_flags compressed_flag) (Err Compressed) last in
    let first : (b : Bool) → cond b (Err NotFile) middle ≡ Err a → IsFileAnswer a = λ b. elim b as (λ b. cond b (Err NotFile) middle ≡ Err a → IsFileAnswer a) [
      | true ↦ λ h. inr (inl (sym (err-same NotFile a h)))
      | false ↦ λ h. then (has_flag inode.bsd_flags compressed_flag) h
    ] in
    first (not (inode_kind inode == regular_kind)) e

pub contents_answers : (block_size : ℕ) (image : List ℕ) (facts : Facts) (path : List ℕ) (a : Answer) → contents block_size image facts path ≡ Err a → IsFileAnswer a
contents_answers block_size image facts path a e =
    answers_then IsFileAnswer (found facts path) _ (λ b h. inl (found_answers facts path b h))
    (λ place b h. answers_then IsFileAnswer (readable place.inode) _ (readable-answers place.inode) (λ inode c k. absurd (ok-err _ c k)) b h) a e

-- the answers of an attribute
abbrev pub IsAttributeAnswer : Answer → Type 0
IsAttributeAnswer a = IsPathAnswer a ⊎ (a ≡ NoAttribute)

held-answers : (block_size : ℕ) (image : List ℕ) (facts : Facts) (o : Option Attribute) (a : Answer) → held_by block_size image facts o ≡ Err a → IsAttributeAnswer a
held-answers block_size image facts None a e = inr (sym (err-same NoAttribute a e))
held-answers block_size image facts (Some x) a e = absurd (ok-err _ a e)

pub attribute_answers : (block_size : ℕ) (image : List ℕ) (facts : Facts) (path name : List ℕ) (a : Answer) → attribute block_size image facts path name ≡ Err a → IsAttributeAnswer a
attribute_answers block_size image facts path name a e =
    answers_then IsAttributeAnswer (found facts path) _ (λ b h. inl (found_answers facts path b h))
    (λ place b h. held-answers block_size image facts (attribute_named facts place.id name) b h) a e

-- ---- contents
-- a stream by the facts of some records is the one by the records
pub same_stream : (block_size : ℕ) (image : List ℕ) (names : Names) (pairs : List Pair) (id size : ℕ) → stream_in block_size image (facts_in names pairs) id size ≡ stream_bytes block_size image (extents_for id pairs) size
unfolding extents_for
same_stream block_size image names pairs id size = refl
