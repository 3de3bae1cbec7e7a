-- What a run of a command has come to at the view that is meant, over a source.
use Rattle.std.specs.Prelude.{◌≡◌, ℕ, ◌≤◌, List, [], Option, Some, Result, Ok, Err}
use Rattle.std.proofs.Common.{◌∙◌, ap, subst}
use Rattle.apfs_model.specs.Counts.{Rose}
use Rattle.apfs_model.specs.Lists.{and_then}
use Rattle.apfs_model.specs.Sink.{Wrote}
use Rattle.view_rules.specs.declared.fault.TreeFault.{TreeFault}
use Rattle.cmd_words.specs.Asked.{AskedTarget}
use Rattle.obj_base.specs.declared.site.Site.{Site}
use Rattle.obj_base.specs.declared.stop.Stop.{Stop}
use Rattle.obj_base.specs.declared.stop.Stop.TheVariants as layer
use Rattle.nx_ring.specs.Checkpoint.{Seen, site_of}
use Rattle.vol_view.specs.Volumes.{Loaded}
use Rattle.vol_view.specs.declared.volume.View.{View}
use Rattle.view_rules.specs.Facts.{Facts}
use Rattle.view_rules.specs.Rules.{view_facts}
use Rattle.path_search.specs.Stops.{IsLawful}
use Rattle.path_search.specs.Calls.{IsGiven as IsGivenBy, IsStopThere}
use Rattle.path_search.specs.declared.answer.Answer.{Answer}
use Rattle.path_search.specs.declared.stop.PathStop.{PathStop}
use Rattle.path_search.specs.declared.stop.PathStop.TheVariants as paths
use Rattle.cmd_lines.specs.declared.stopped.Stopped.{Stopped}
use Rattle.cmd_lines.specs.declared.stopped.Stopped.TheVariants as stops
use Rattle.cmd_texts.specs.Formed.{IsFormed}
use Rattle.cmd_texts.specs.Handed.{looked}
use Rattle.cmd_texts.specs.MeantView.{IsMeantView}
use Rattle.cmd_texts.specs.OnView.{Wanted}
use Rattle.cmd_texts.specs.Reached.{TellsViewWay, IsWhileLooking}
use Rattle.cmd_texts.specs.Ended.{HasEnded}
use Rattle.cmd_texts.specs.Seen.{stopped_on}
use Rattle.cmd_lines.specs.Words.{Asked}
use Rattle.cmd_lines.specs.Written.{Sunk}
use Rattle.cmd_lines.specs.Putting.{IsPut}
use Rattle.cmd_texts.proofs.OverView.{IsOverView, StopGiven, view_way_ended, view_stop_ended, view_put_ended, given_stop}
use Rattle.cmd_lines.proofs.Puts.{wrote_nothing, rose_later}

-- a command stopped on its way to the view that is meant, and nothing was written
pub way_stopped : {S T : Type 0} (bytes : S → Option (List ℕ)) (faults : S → ℕ) (command : Asked) (wanted : Wanted) (told : Facts → TreeFault → Type 0) (target : AskedTarget) (old new : S) (stopped : Stopped)
    (contents : Option (List ℕ)) (count : ℕ) → IsOverView command wanted told target →
    ((image : List ℕ) → bytes old ≡ Some image → TellsViewWay image target stopped) → IsWhileLooking stopped →
    (◌≡◌ {A = Result T Stopped} (Err stopped) (Err stops.ReadFailed) → Rose (faults old) (faults new)) →
    HasEnded command (looked bytes faults old new) (Err stopped) (record { old = contents; new = contents; old_faults = count; new_faults = count })
way_stopped bytes faults command wanted told target old new stopped contents count is tells looking cause =
    view_way_ended command wanted told target (looked bytes faults old new) stopped contents count is tells looking
    (λ e. cause (ap (λ (s : Stopped). Err s) e))

-- a command has come to the view that is meant, with a site for it, and the source is as it was but for its count
pub record IsAtView {S : Type 0} (bytes : S → Option (List ℕ)) (faults : S → ℕ) (target : AskedTarget) (old mid : S) (seen : Seen) (volume : Loaded) (view : View) (site : Site) : Type 0 where
  pub site_is : site ≡ site_of seen
  pub meant : (image : List ℕ) → bytes old ≡ Some image → IsMeantView image target seen volume view
  pub same_bytes : bytes mid ≡ bytes old
  pub later : faults old ≤ faults mid

-- the text of what is listed
abbrev pub listed : {U : Type 0} → (Facts → Result U Answer) → (U → List ℕ) → Wanted
listed list text size image facts = and_then (list facts) (λ x. Ok (text x))

-- the lines of what was listed of the view were put
pub list_put : {S U : Type 0} (bytes : S → Option (List ℕ)) (faults : S → ℕ) (command : Asked) (list : Facts → Result U Answer) (text : U → List ℕ) (told : Facts → TreeFault → Type 0) (target : AskedTarget) (old mid new : S)
    (seen : Seen) (volume : Loaded) (view : View) (site : Site) (rows : U) (ended : Result Unit Stopped) (out : Sunk) → IsOverView command (listed list text) told target → IsFormed command (text rows) → IsAtView bytes faults target old mid seen volume view site →
    ((image : List ℕ) → bytes mid ≡ Some image → IsLawful image site volume view → list (view_facts image site volume view) ≡ Ok rows) →
    IsPut (text rows) ended out → HasEnded command (looked bytes faults old new) ended out
list_put {S} {U} bytes faults command list text told target old mid new seen volume view site rows ended out is formed at exact put =
    let P : Site → Type 0 = λ s. (image : List ℕ) → bytes mid ≡ Some image → IsLawful image s volume view → list (view_facts image s volume view) ≡ Ok rows in
    let there = subst P at.site_is exact in
    view_put_ended command (listed list text) told target (looked bytes faults old new) seen volume view (text rows) ended out is formed at.meant
    (λ image given lawful. ap (λ (r : Result U Answer). and_then r (λ x. Ok (text x))) (there image (at.same_bytes ∙ given) lawful))
    put

-- a call on a path of the view stopped, and nothing was written
pub path_stopped : {S : Type 0} (bytes : S → Option (List ℕ)) (faults : S → ℕ) (command : Asked) (wanted : Wanted) (told : Facts → TreeFault → Type 0) (target : AskedTarget) (old mid new : S)
    (seen : Seen) (volume : Loaded) (view : View) (site : Site) (stop : Stop PathStop) (out : Sunk) → IsOverView command wanted told target → IsAtView bytes faults target old mid seen volume view site →
    ((image : List ℕ) → bytes mid ≡ Some image → IsLawful image site volume view → StopGiven (wanted site.block_size image (view_facts image site volume view)) stop) →
    ((image : List ℕ) → bytes mid ≡ Some image → IsStopThere image site volume view stop) →
    ((image : List ℕ) → bytes mid ≡ Some image → (fault : TreeFault) → stop ≡ layer.Found (paths.Fault fault) → told (view_facts image site volume view) fault) →
    (stop ≡ layer.ReadFault → Rose (faults mid) (faults new)) → Wrote out.old out.new [] →
    HasEnded command (looked bytes faults old new) (Err (stopped_on stop)) out
path_stopped bytes faults command wanted told target old mid new seen volume view site stop out is at exact present told_is cause nothing =
    let P : Site → Type 0 = λ s. (image : List ℕ) → bytes mid ≡ Some image → IsLawful image s volume view → StopGiven (wanted s.block_size image (view_facts image s volume view)) stop in
    let Q : Site → Type 0 = λ s. (image : List ℕ) → bytes mid ≡ Some image → IsStopThere image s volume view stop in
    let R : Site → Type 0 = λ s. (image : List ℕ) → bytes mid ≡ Some image → (fault : TreeFault) → stop ≡ layer.Found (paths.Fault fault) → told (view_facts image s volume view) fault in
    view_stop_ended command wanted told target (looked bytes faults old new) seen volume view stop out is
    (λ image given.
    let told_mid : bytes mid ≡ Some image = at.same_bytes ∙ given in
    record {
      meant = at.meant image given;
      present = subst Q at.site_is present image told_mid;
      told_is = subst R at.site_is told_is image told_mid;
      exact = subst P at.site_is exact image told_mid;
    })
    (λ e. rose_later (faults old) (faults mid) (faults new) at.later (cause e))
    nothing

-- so did a call that lists
pub list_stopped : {S T U : Type 0} (bytes : S → Option (List ℕ)) (faults : S → ℕ) (command : Asked) (list : Facts → Result U Answer) (text : U → List ℕ) (told : Facts → TreeFault → Type 0) (target : AskedTarget) (old mid new : S)
    (seen : Seen) (volume : Loaded) (view : View) (site : Site) (shows : T → U) (stop : Stop PathStop) (contents : Option (List ℕ)) (count : ℕ) → IsOverView command (listed list text) told target → IsAtView bytes faults target old mid seen volume view site →
    ((image : List ℕ) → bytes mid ≡ Some image → IsLawful image site volume view → IsGivenBy shows (list (view_facts image site volume view)) (Err stop)) →
    ((image : List ℕ) → bytes mid ≡ Some image → IsStopThere image site volume view stop) →
    ((image : List ℕ) → bytes mid ≡ Some image → (fault : TreeFault) → stop ≡ layer.Found (paths.Fault fault) → told (view_facts image site volume view) fault) →
    (◌≡◌ {A = Result T (Stop PathStop)} (Err stop) (Err layer.ReadFault) → Rose (faults mid) (faults new)) →
    HasEnded command (looked bytes faults old new) (Err (stopped_on stop)) (record { old = contents; new = contents; old_faults = count; new_faults = count })
list_stopped bytes faults command list text told target old mid new seen volume view site shows stop contents count is at exact present told_is cause =
    path_stopped bytes faults command (listed list text) told target old mid new seen volume view site stop (record { old = contents; new = contents; old_faults = count; new_faults = count }) is at
    (λ image given lawful. given_stop shows (list (view_facts image site volume view)) text stop (exact image given lawful))
    present told_is
    (λ e. cause (ap (λ (s : Stop PathStop). Err s) e))
    (wrote_nothing contents)
