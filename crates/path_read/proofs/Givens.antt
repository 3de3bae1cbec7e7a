-- The contents that a path leads to, by what was found.
use Rattle.std.proofs.Common.{◌≡◌, ℕ, true, List, [], Option, Some, None, Result, Ok, Err, refl, ap, sym, ◌∙◌, subst, append-nil}
use Rattle.std.specs.Prelude.{IsSome}
use Rattle.std.proofs.lemmas.Bool.{false≢true}
use Rattle.apfs_model.specs.Lists.{and_then}
use Rattle.apfs_model.specs.Sink.{WrotePart}
use Rattle.obj_base.specs.declared.site.Site.{Site}
use Rattle.obj_base.specs.declared.stop.Stop.{Stop}
use Rattle.obj_base.specs.declared.stop.Stop.TheVariants.{Found, ReadFault}
use Rattle.fs_record.specs.Inodes.{Inode}
use Rattle.fs_record.specs.declared.inode_view.StreamSize.{StreamSize}
use Rattle.vol_view.specs.Volumes.{Loaded}
use Rattle.vol_view.specs.Views.{view_flat}
use Rattle.vol_view.specs.Placed.{has_all_records}
use Rattle.vol_view.specs.declared.volume.View.{View}
use Rattle.file_extent.specs.Streams.{Opened, stream_bytes}
use Rattle.file_extent.specs.Opening.{IsOpened}
use Rattle.view_rules.specs.Facts.{Facts}
use Rattle.view_rules.specs.Rules.{view_facts}
use Rattle.path_search.specs.Places.{Place}
use Rattle.path_search.specs.Found.{found}
use Rattle.path_read.specs.Contents.{stream_in, contents_by, contents_in, contents_at, contents, readable}
use Rattle.path_search.specs.Calls.{IsGiven, IsNoAnswer}
use Rattle.path_read.specs.Written.{IsWritten}
use Rattle.path_read.specs.declared.stop.WriteStop.{WriteStop}
use Rattle.path_read.proofs.Laws.{same_stream}
use Rattle.path_search.specs.declared.answer.Answer.{Answer}
use Rattle.path_search.specs.declared.stop.PathStop.{PathStop}
use Rattle.path_search.specs.declared.stop.PathStop.TheVariants as stops
use Rattle.path_read.specs.Needs.{WhereWritten, ContentsNeed}
use Rattle.path_search.specs.Needs.{RestsOn, PathNeeds, HasEntriesOf}
use Rattle.path_search.specs.Parts.{WhereTold}
use Rattle.path_search.proofs.Listed.{ok_same}
use Rattle.bt_keys.specs.RecordKey.{file_extent_record}
use Rattle.path_read.specs.declared.stop.WriteStop.TheVariants as writes

pub contents_lost : (block_size : ℕ) (image : List ℕ) (facts : Facts) (path : List ℕ) (a : Answer) → found facts path ≡ Err a → contents block_size image facts path ≡ Err a
contents_lost block_size image facts path a e = ap (λ (r : Result Place Answer). and_then {T = Place} {U = List ℕ} r (λ (p : Place). contents_at block_size image facts p)) e

contents_found : (block_size : ℕ) (image : List ℕ) (facts : Facts) (path : List ℕ) (place : Place) (r : Result Inode Answer) → found facts path ≡ Ok place → readable place.inode ≡ r → contents block_size image facts path ≡ and_then r (λ (inode : Inode). Ok (contents_in block_size image facts inode))
contents_found block_size image facts path place r there test =
    ap (λ (q : Result Place Answer). and_then {T = Place} {U = List ℕ} q (λ (p : Place). contents_at block_size image facts p)) there
    ∙ ap (λ (q : Result Inode Answer). and_then {T = Inode} {U = List ℕ} q (λ (inode : Inode). Ok (contents_in block_size image facts inode))) test

pub contents_stream : (block_size : ℕ) (image : List ℕ) (facts : Facts) (path : List ℕ) (place : Place) (stream : StreamSize) → found facts path ≡ Ok place → readable place.inode ≡ Ok place.inode → place.inode.stream ≡ Some stream → contents block_size image facts path ≡ Ok (stream_in block_size image facts place.inode.private_id stream.size)
contents_stream block_size image facts path place stream there test has =
    contents_found block_size image facts path place (Ok place.inode) there test
    ∙ ap (λ (o : Option StreamSize). Ok (contents_by block_size image facts place.inode.private_id o)) has

-- a stop before anything was put
none-put : (old : Option (List ℕ)) (text : List ℕ) → WrotePart old old text
none-put old text held told = ([], text, refl, told ∙ ap (λ (l : List ℕ). Some l) (sym (append-nil held)))

pub stopped_written : {T : Type 0} (old : Option (List ℕ)) (shows : T → List ℕ) (wanted : Result (List ℕ) Answer) (stop : Stop PathStop) → IsGiven shows wanted (Err stop) → IsWritten old old wanted (Err (writes.Stopped stop))
stopped_written old shows wanted (Found (stops.Answer a)) given = given
stopped_written old shows wanted ReadFault given = λ text same. none-put old text
stopped_written old shows wanted stop given = given

pub ok-same : (wanted : Result (List ℕ) Answer) (a b : List ℕ) → wanted ≡ Ok a → wanted ≡ Ok b → a ≡ b
ok-same wanted a b e f = let both : Ok a ≡ wanted = sym e in cc

-- a stream by the facts of a view is the one that was opened
pub stream_opened : (image : List ℕ) (site : Site) (volume : Loaded) (view : View) (id size : ℕ) (stream : Opened) → IsOpened image site volume view id size stream →
    stream_in site.block_size image (view_facts image site volume view) id size ≡ stream_bytes stream.site.block_size image stream.extents stream.size
stream_opened image site volume view id size stream opened =
    same_stream site.block_size image volume.names (view_flat image site volume view) id size
    ∙ ap (λ (o : Opened). stream_bytes o.site.block_size image o.extents o.size) (sym opened.same)

-- what was written of some contents was written of the same contents
pub written_same : (old new : Option (List ℕ)) (a b : Result (List ℕ) Answer) (r : Result (Unit {0}) WriteStop) → a ≡ b → IsWritten old new a r → IsWritten old new b r
written_same old new a b r e h = subst (λ (w : Result (List ℕ) Answer). IsWritten old new w r) e h

-- what holds where an answer was given holds where it is given by a call that writes
pub rests_written : {T U : Type 0} (shows : T → U) (wanted : Result U Answer) (P Q : Type 0) (stop : Stop PathStop) → ((a : Answer) → wanted ≡ Err a → P → Q) → RestsOn {T = T} shows wanted P (Err stop) → WhereWritten Q (Err (writes.Stopped stop))
rests_written shows wanted P Q (Found (stops.Answer a)) f h = f a h.0 h.1
rests_written shows wanted P Q stop f h = tt

pub told_written : (T : Type 0) (needs : Type 0) (stop : Stop PathStop) → WhereTold {T = T} needs (Err stop) → WhereWritten needs (Err (writes.Stopped stop))
told_written T needs (Found (stops.Answer a)) h = h
told_written T needs stop h = tt

pub unanswered_written : (needs : Type 0) (stop : Stop PathStop) → IsNoAnswer stop → WhereWritten needs (Err (writes.Stopped stop))
unanswered_written needs (Found (stops.Answer a)) h = absurd h
unanswered_written needs stop h = tt

pub written_where : (P Q : Type 0) (result : Result (Unit {0}) WriteStop) → (P → Q) → WhereWritten P result → WhereWritten Q result
written_where P Q (Ok _) f h = f h
written_where P Q (Err (writes.Stopped (Found (stops.Answer a)))) f h = f h
written_where P Q result f h = tt

-- what the contents of a file need is there, by what its path leads to
pub open_refused : (image : List ℕ) (site : Site) (volume : Loaded) (view : View) (path : List ℕ) (place : Place) (a : Answer) → PathNeeds (view_facts image site volume view) (HasEntriesOf image site volume view) path → found (view_facts image site volume view) path ≡ Ok place → readable place.inode ≡ Err a → ContentsNeed image site volume view path
open_refused image site volume view path place a needs there refused = record {
  led = needs;
  extents = λ p e read some. absurd (let same : place ≡ p = sym (ok_same place p (sym there ∙ e)) in let both : Err a ≡ Ok p.inode = sym (subst (λ (q : Place). readable q.inode ≡ Err a) same refused) ∙ read in let q : ⊥ = cc in q);
}

pub open_none : (image : List ℕ) (site : Site) (volume : Loaded) (view : View) (path : List ℕ) (place : Place) → PathNeeds (view_facts image site volume view) (HasEntriesOf image site volume view) path → found (view_facts image site volume view) path ≡ Ok place → place.inode.stream ≡ None → ContentsNeed image site volume view path
open_none image site volume view path place needs there none = record {
  led = needs;
  extents = λ p e read some. absurd (false≢true (subst (λ (o : Option StreamSize). IsSome o) (subst (λ (q : Place). q.inode.stream ≡ None) (sym (ok_same place p (sym there ∙ e))) none) some));
}

pub open_whole : (image : List ℕ) (site : Site) (volume : Loaded) (view : View) (path : List ℕ) (place : Place) (id : ℕ) → PathNeeds (view_facts image site volume view) (HasEntriesOf image site volume view) path → found (view_facts image site volume view) path ≡ Ok place → id ≡ place.inode.private_id → has_all_records image site volume view id file_extent_record ≡ true → ContentsNeed image site volume view path
open_whole image site volume view path place id needs there same whole = record {
  led = needs;
  extents = λ p e read some. subst (λ (n : ℕ). has_all_records image site volume view n file_extent_record ≡ true) (same ∙ ap (λ (q : Place). q.inode.private_id) (sym (ok_same place p (sym there ∙ e)))) whole;
}
