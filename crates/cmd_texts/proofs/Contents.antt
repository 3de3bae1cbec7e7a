-- What a run of a command that writes contents has come to at the view that is meant.
use Rattle.std.specs.Prelude.{◌≡◌, ℕ, ◌++◌, true, false, List, [], Option, Some, Result, Ok, Err, refl}
use Rattle.std.proofs.Common.{inl, inr, sym, ◌∙◌, subst}
use Rattle.std.proofs.lemmas.List.{append-nil}
use Rattle.apfs_model.specs.Counts.{Rose}
use Rattle.apfs_model.specs.Sink.{Wrote}
use Rattle.view_rules.specs.declared.fault.TreeFault.{TreeFault}
use Rattle.cmd_words.specs.Asked.{AskedTarget}
use Rattle.obj_base.specs.declared.site.Site.{Site}
use Rattle.obj_base.specs.declared.stop.Stop.TheVariants as layer
use Rattle.nx_ring.specs.Checkpoint.{Seen, site_of}
use Rattle.vol_view.specs.Volumes.{Loaded}
use Rattle.vol_view.specs.declared.volume.View.{View}
use Rattle.view_rules.specs.Facts.{Facts}
use Rattle.view_rules.specs.Rules.{view_facts}
use Rattle.path_search.specs.Stops.{IsLawful}
use Rattle.path_search.specs.declared.answer.Answer.{Answer}
use Rattle.path_search.specs.declared.stop.PathStop.TheVariants as paths
use Rattle.path_read.specs.Written.{HasFront, HasWhole, HasPart, IsWritten, IsUntouched, IsWriteStopThere}
use Rattle.path_read.specs.declared.stop.WriteStop.{WriteStop}
use Rattle.path_read.specs.declared.stop.WriteStop.TheVariants as writes
use Rattle.cmd_texts.specs.MeantView.{IsMeantView}
use Rattle.cmd_texts.specs.OnView.{Wanted}
use Rattle.cmd_texts.specs.Says.{IsPart, IsReadPart, IsTextIf}
use Rattle.cmd_texts.specs.Ended.{HasEnded}
use Rattle.cmd_texts.specs.Seen.{stopped_writing}
use Rattle.cmd_lines.specs.Words.{Asked}
use Rattle.cmd_lines.specs.Written.{Sunk}
use Rattle.cmd_texts.specs.ByCommand.{streams}
use Rattle.cmd_texts.specs.Formed.{IsFormed}
use Rattle.cmd_texts.specs.Handed.{looked}
use Rattle.cmd_texts.proofs.AtView.{IsAtView, path_stopped}
use Rattle.cmd_texts.proofs.Endings.{nothing_part}
use Rattle.cmd_texts.proofs.OverView.{IsOverView}
use Rattle.cmd_lines.proofs.Puts.{wrote_nothing, rose_later}

-- what is wanted of a view by the facts of each image
abbrev pub wanted_at : Wanted → Loaded → View → Site → List ℕ → Result (List ℕ) Answer
wanted_at wanted volume view site image = wanted site.block_size image (view_facts image site volume view)

-- the text that is wanted of a view is that of the command, where the view meets its rules
text_at : (command : Asked) (wanted : Wanted) (told : Facts → TreeFault → Type 0) (target : AskedTarget) (image : List ℕ) (seen : Seen) (volume : Loaded) (view : View) (text : List ℕ) → IsOverView command wanted told target →
    IsMeantView image target seen volume view → (IsLawful image (site_of seen) volume view → wanted_at wanted volume view (site_of seen) image ≡ Ok text) → IsTextIf command image text
text_at command wanted told target image seen volume view text is meant exact rests =
    let lawful : IsLawful image (site_of seen) volume view = is.rests image rests seen volume view meant in
    is.text_is image text (record { seen = seen; volume = volume; view = view; is = meant; lawful = lawful; same = exact lawful })

-- a command puts contents as they are read: its text is any bytes
pub record IsStreaming (command : Asked) : Type 0 where
  pub streams_is : streams command ≡ true
  pub formed : (text : List ℕ) → IsFormed command text

-- the contents that are wanted of the view were written
pub contents_written : {S : Type 0} (bytes : S → Option (List ℕ)) (faults : S → ℕ) (command : Asked) (wanted : Wanted) (told : Facts → TreeFault → Type 0) (target : AskedTarget) (old mid new : S)
    (seen : Seen) (volume : Loaded) (view : View) (site : Site) (out : Sunk) → IsOverView command wanted told target → IsStreaming command → IsAtView bytes faults target old mid seen volume view site →
    HasPart out.old out.new (bytes mid) (λ image. IsLawful image site volume view) (wanted_at wanted volume view site) (Ok tt) →
    HasEnded command (looked bytes faults old new) (Ok tt) out
contents_written bytes faults command wanted told target old mid new seen volume view site out is stream at has =
    let P : Site → Type 0 = λ s. HasWhole (bytes mid) (λ image. IsLawful image s volume view) (wanted_at wanted volume view s) has.0 in
    let whole = subst P at.site_is has.2 in (
      has.0,
      record {
        formed = stream.formed has.0;
        is = λ image given. text_at command wanted told target image seen volume view has.0 is (at.meant image given) (whole image (at.same_bytes ∙ given));
      },
      has.1,
    )

-- a front of the contents that are wanted of the view is a part of what the command writes
front_part : {S : Type 0} (bytes : S → Option (List ℕ)) (faults : S → ℕ) (command : Asked) (wanted : Wanted) (told : Facts → TreeFault → Type 0) (target : AskedTarget) (old mid new : S)
    (seen : Seen) (volume : Loaded) (view : View) (site : Site) (part : List ℕ) → IsOverView command wanted told target → IsStreaming command → IsAtView bytes faults target old mid seen volume view site →
    HasFront (bytes mid) (λ image. IsLawful image site volume view) (wanted_at wanted volume view site) part → IsPart command (looked bytes faults old new) part
front_part bytes faults command wanted told target old mid new seen volume view site part is stream at (inl none) =
    let P : List ℕ → Type 0 = λ p. IsPart command (looked bytes faults old new) p in
    subst P (sym none) (nothing_part command (looked bytes faults old new))
front_part bytes faults command wanted told target old mid new seen volume view site part is stream at (inr some) =
    let P : Site → Type 0 = λ s. (image : List ℕ) → bytes mid ≡ Some image → (text : List ℕ) × (rest : List ℕ) × (text ≡ part ++ rest) × (IsLawful image s volume view → wanted_at wanted volume view s image ≡ Ok text) in
    let front = subst P at.site_is some in
    record {
      formed = inr (part, stream.formed part, ([], sym (append-nil part)));
      begins = λ image given.
          let there = front image (at.same_bytes ∙ given) in
          inr (there.0, text_at command wanted told target image seen volume view there.0 is (at.meant image given) there.3, (there.1, there.2));
    }

-- so is one before a read failed
front_read : {S : Type 0} (bytes : S → Option (List ℕ)) (faults : S → ℕ) (command : Asked) (wanted : Wanted) (told : Facts → TreeFault → Type 0) (target : AskedTarget) (old mid new : S)
    (seen : Seen) (volume : Loaded) (view : View) (site : Site) (part : List ℕ) → IsOverView command wanted told target → IsStreaming command → IsAtView bytes faults target old mid seen volume view site →
    HasFront (bytes mid) (λ image. IsLawful image site volume view) (wanted_at wanted volume view site) part → IsReadPart command (looked bytes faults old new) part
front_read bytes faults command wanted told target old mid new seen volume view site part is stream at has = record {
  is = front_part bytes faults command wanted told target old mid new seen volume view site part is stream at has;
  before = λ none. let clash : true ≡ false = sym stream.streams_is ∙ none in absurd Prim.cc;
}

-- a sink that has what it had has nothing more
untouched_wrote : (old new : Option (List ℕ)) → new ≡ old → Wrote old new []
untouched_wrote old new same = let P : Option (List ℕ) → Type 0 = λ c. Wrote old c [] in subst P (sym same) (wrote_nothing old)

-- a call on a path of the view that writes stopped, after a front of the contents where a read or a put failed, and otherwise before it wrote
pub writing_stopped : {S : Type 0} (bytes : S → Option (List ℕ)) (faults : S → ℕ) (command : Asked) (wanted : Wanted) (told : Facts → TreeFault → Type 0) (target : AskedTarget) (old mid new : S)
    (seen : Seen) (volume : Loaded) (view : View) (site : Site) (stop : WriteStop) (out : Sunk) → IsOverView command wanted told target → IsStreaming command → IsAtView bytes faults target old mid seen volume view site →
    HasPart out.old out.new (bytes mid) (λ image. IsLawful image site volume view) (wanted_at wanted volume view site) (Err stop) →
    IsUntouched out.old out.new stop →
    ((image : List ℕ) → bytes mid ≡ Some image → IsLawful image site volume view → IsWritten out.old out.new (wanted_at wanted volume view site image) (Err stop)) →
    ((image : List ℕ) → bytes mid ≡ Some image → IsWriteStopThere image site volume view stop) →
    ((facts : Facts) (fault : TreeFault) → told facts fault) →
    (◌≡◌ {A = Result Unit WriteStop} (Err stop) (Err (writes.Stopped layer.ReadFault)) → Rose (faults mid) (faults new)) →
    (◌≡◌ {A = Result Unit WriteStop} (Err stop) (Err writes.WriteFault) → Rose out.old_faults out.new_faults) →
    HasEnded command (looked bytes faults old new) (Err (stopped_writing stop)) out
writing_stopped bytes faults command wanted told target old mid new seen volume view site (writes.Stopped (layer.Found (paths.Answer answer))) out is stream at has untouched exact present told_is read write =
    path_stopped bytes faults command wanted told target old mid new seen volume view site (layer.Found (paths.Answer answer)) out is at exact present (λ image given fault e. told_is _ fault) (λ e. Prim.cc) (untouched_wrote out.old out.new untouched)
writing_stopped bytes faults command wanted told target old mid new seen volume view site (writes.Stopped (layer.Found (paths.Fault why))) out is stream at has untouched exact present told_is read write =
    path_stopped bytes faults command wanted told target old mid new seen volume view site (layer.Found (paths.Fault why)) out is at exact present (λ image given fault e. told_is _ fault) (λ e. Prim.cc) (untouched_wrote out.old out.new untouched)
writing_stopped bytes faults command wanted told target old mid new seen volume view site (writes.Stopped (layer.Unsupported feature block)) out is stream at has untouched exact present told_is read write =
    path_stopped bytes faults command wanted told target old mid new seen volume view site (layer.Unsupported feature block) out is at exact present (λ image given fault e. told_is _ fault) (λ e. Prim.cc) (untouched_wrote out.old out.new untouched)
writing_stopped bytes faults command wanted told target old mid new seen volume view site (writes.Stopped layer.NoMemory) out is stream at has untouched exact present told_is read write =
    path_stopped bytes faults command wanted told target old mid new seen volume view site layer.NoMemory out is at exact present (λ image given fault e. told_is _ fault) (λ e. Prim.cc) (untouched_wrote out.old out.new untouched)
writing_stopped bytes faults command wanted told target old mid new seen volume view site (writes.Stopped layer.ReadFault) out is stream at has untouched exact present told_is read write =
    (has.0, (rose_later (faults old) (faults mid) (faults new) at.later (read refl), front_read bytes faults command wanted told target old mid new seen volume view site has.0 is stream at has.2), has.1)
writing_stopped bytes faults command wanted told target old mid new seen volume view site writes.WriteFault out is stream at has untouched exact present told_is read write =
    (has.0, (write refl, front_part bytes faults command wanted told target old mid new seen volume view site has.0 is stream at has.2), has.1)
