-- What an inode gives a folder.
use Rattle.std.proofs.Common.{◌≡◌, ℕ, Bool, true, false, cond, List, length, Option, Some, None, Result, Ok, Err, refl, ap, sym, ◌∙◌}
use Rattle.std.specs.Prelude.{not, ◌||◌, ◌==◌, is_ok, is_some, option_map, option_and_then}
use Rattle.std.proofs.lemmas.List.FromFn.{length-map-range_with_len}
use Rattle.apfs_model.specs.Bytes.{has_flag}
use Rattle.apfs_model.specs.Lists.{passes, value_of}
use Rattle.bt_node.specs.Entries.{Pair}
use Rattle.fs_name.specs.declared.naming.Names.{Names}
use Rattle.fs_record.specs.Inodes.{Inode, inode_kind}
use Rattle.fs_record.specs.Facts.{regular_kind, all_for}
use Rattle.fs_record.specs.declared.inode_view.StreamSize.{StreamSize}
use Rattle.file_extent.specs.Streams.{byte_of, stream_bytes}
use Rattle.view_rules.specs.Facts.{Facts, facts_in, inode_at, is_directory}
use Rattle.path_search.specs.declared.answer.Answer.{Answer}
use Rattle.path_search.specs.declared.answer.Answer.TheVariants.{NotFile, Compressed, Dataless}
use Rattle.path_read.specs.Contents.{compressed_flag, dataless_flag, stream_in, contents_by, contents_in, readable}
use Rattle.blk_folder.specs.Items.{Item, directory_at, file_at}
use Rattle.tree_export.specs.Safe.{safe_path}
use Rattle.tree_export.specs.Exported.{Wanted, put_by, put_for, is_put, is_left_out}
use Rattle.tree_export.specs.Parts.{content_by, content_of, put_as, IsContentIn}
use Rattle.tree_export.specs.declared.content.Content.{Content}
use Rattle.tree_export.specs.declared.content.Content.TheVariants.{Directory, Stream, Nothing}

-- an inode whose contents can be given is the one that is asked about
readable-step : (inode x : Inode) (a b c : Bool) → cond a (Err NotFile) (cond b (Err Compressed) (cond c (Err Dataless) (Ok inode))) ≡ Ok x → x ≡ inode
readable-step inode x false false false e = let s : inode ≡ x = cc in sym s
readable-step inode x a b c e = absurd (let q : ⊥ = cc in q)

readable-same : (inode x : Inode) → readable inode ≡ Ok x → x ≡ inode
unfolding readable
readable-same inode x e = readable-step inode x (not (inode_kind inode == regular_kind)) (has_flag inode.bsd_flags compressed_flag) (has_flag inode.bsd_flags dataless_flag) e

stream-put : (block_size : ℕ) (image : List ℕ) (facts : Facts) (path : List ℕ) (id : ℕ) (stream : Option StreamSize) → ◌≡◌ {A = Option Item} (Some (file_at path (contents_by block_size image facts id stream))) (put_as block_size image facts path (content_by id stream))
stream-put block_size image facts path id None = refl
stream-put block_size image facts path id (Some stream) = refl

put-step : (block_size : ℕ) (image : List ℕ) (facts : Facts) (path : List ℕ) (inode : Inode) (d : Bool) (r : Result Inode Answer) → ((x : Inode) → r ≡ Ok x → x ≡ inode) →
    cond d (Some (directory_at path)) (option_map (λ (whole : Inode). file_at path (contents_in block_size image facts whole)) (value_of r)) ≡ put_as block_size image facts path (cond d Directory (cond (is_ok r) (content_by inode.private_id inode.stream) Nothing))
put-step block_size image facts path inode true r same = refl
put-step block_size image facts path inode false (Err a) same = refl
put-step block_size image facts path inode false (Ok x) same =
    ap (λ (i : Inode). Some (file_at path (contents_in block_size image facts i))) (same x refl) ∙ stream-put block_size image facts path inode.private_id inode.stream

-- what is put of an inode is put of its content
put-content : (block_size : ℕ) (image : List ℕ) (facts : Facts) (path : List ℕ) (inode : Inode) → put_by block_size image facts path inode ≡ put_as block_size image facts path (content_of inode)
unfolding put_by content_of
put-content block_size image facts path inode = put-step block_size image facts path inode (is_directory inode) (readable inode) (readable-same inode)

-- what is put for an item is what its content gives
pub put_content : (block_size : ℕ) (image : List ℕ) (names : Names) (pairs : List Pair) (item : Wanted) (content : Content) → IsContentIn pairs item.id content → put_for block_size image (facts_in names pairs) item ≡ put_as block_size image (facts_in names pairs) (safe_path item.path) content
put_content block_size image names pairs item content is =
    let facts : Facts = facts_in names pairs in
    ap (option_and_then (put_by block_size image facts (safe_path item.path))) is.1
    ∙ (put-content block_size image facts (safe_path item.path) is.0 ∙ ap (put_as block_size image facts (safe_path item.path)) (sym is.2))

-- a stream has as many bytes as it is said to have
pub stream_len : (block_size : ℕ) (image : List ℕ) (facts : Facts) (id size : ℕ) → length (stream_in block_size image facts id size) ≡ size
unfolding stream_bytes
stream_len block_size image facts id size = length-map-range_with_len (byte_of block_size image (all_for id facts.extents)) 0 size

-- ---- what is left out
left-step : (block_size : ℕ) (image : List ℕ) (facts : Facts) (path : List ℕ) (d : Bool) (r : Result Inode Answer) →
    is_some (cond d (Some (directory_at path)) (option_map (λ (whole : Inode). file_at path (contents_in block_size image facts whole)) (value_of r))) ≡ (d || is_ok r)
left-step block_size image facts path true r = refl
left-step block_size image facts path false (Ok x) = refl
left-step block_size image facts path false (Err a) = refl

put-test : (block_size : ℕ) (image : List ℕ) (facts : Facts) (path : List ℕ) (inode : Inode) → is_some (put_by block_size image facts path inode) ≡ is_put inode
unfolding put_by
put-test block_size image facts path inode = left-step block_size image facts path (is_directory inode) (readable inode)

found-test : (block_size : ℕ) (image : List ℕ) (facts : Facts) (path : List ℕ) (o : Option Inode) → is_some (option_and_then (put_by block_size image facts path) o) ≡ passes o is_put
found-test block_size image facts path None = refl
found-test block_size image facts path (Some inode) = put-test block_size image facts path inode

-- an item is left out where nothing is put for it
pub left_test : (block_size : ℕ) (image : List ℕ) (facts : Facts) (item : Wanted) (o : Option Item) → put_for block_size image facts item ≡ o → is_left_out facts item ≡ not (is_some o)
left_test block_size image facts item o e = ap not (sym (found-test block_size image facts (safe_path item.path) (inode_at facts item.id)) ∙ ap (λ (p : Option Item). is_some p) e)

-- the stream of a content is that of its inode
stream-of : (id : ℕ) (stream : Option StreamSize) (own size : ℕ) → Stream own size ≡ content_by id stream → own ≡ id
stream-of id None own size e = absurd (let q : ⊥ = cc in q)
stream-of id (Some stream) own size e = let s : own ≡ id = cc in s

content-step : (inode : Inode) (d r : Bool) (own size : ℕ) → Stream own size ≡ cond d Directory (cond r (content_by inode.private_id inode.stream) Nothing) → own ≡ inode.private_id
content-step inode false true own size e = stream-of inode.private_id inode.stream own size e
content-step inode d r own size e = absurd (let q : ⊥ = cc in q)

pub content_stream : (inode : Inode) (own size : ℕ) → Stream own size ≡ content_of inode → own ≡ inode.private_id
unfolding content_of
content_stream inode own size e = content-step inode (is_directory inode) (is_ok (readable inode)) own size e
