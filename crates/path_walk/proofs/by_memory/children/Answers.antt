use Rattle.std.proofs.Common.{◌≡◌, ◌∙◌, List, Ok, map, ap, sym, Vec, Global, subst}
use Rattle.fs_record.specs.Entries.{Entry}
use Rattle.fs_record.specs.Facts.{Fact}
use Rattle.path_search.specs.Places.{target_of}
use Rattle.path_search.specs.Listing.{children}
use Rattle.path_search.specs.Parts.{whats, targets_by, targets_with, Rises, HasEntries, of_any}
use Rattle.path_search.specs.declared.target.Target.{Target}
use Rattle.path_search.specs.declared.kinds.KindAndSize.{KindAndSize}
use Rattle.path_search.proofs.Known.{known_ends}
use Rattle.path_search.proofs.Listed.{ok_same, children_told}
use Rattle.path_search.specs.Needs.{HaveFiles, ChildrenNeed}
use Rattle.path_search.proofs.Needed.{told_as}
use Rattle.path_walk.proofs.by_memory.children.Goals as goal

rising : {X : Type 0} (items here : List (Fact X)) → here ≡ items → Rises items → Rises here
rising {X} items here same rise = subst (λ (l : List (Fact X)). Rises l) (sym same) rise

pub returns-in-Err-clause-known : goal.returns-in-Err-clause-known
returns-in-Err-clause-known c facts r =
    let es : List (Fact Entry) = c.directory_in-run.result.now in
    let counted : HasEntries facts es = c.directory_in-run.ensures.counted facts (c.deref.ensures.value ∙ r.all_entries) (rising _ _ c.deref.ensures.value r.entries_rise) in
    known_ends facts c.args.view.now (λ (v : Vec KindAndSize Global). targets_with es v.items) (Ok (targets_by facts (whats es))) (λ (v : Vec Target Global). v.items) (Ok (map target_of (children facts c.args.id))) c.in-Err.stop (λ a e. absurd cc)
    (c.in-Err.ensures.known facts (c.deref-2.ensures.value ∙ r.all_inodes) (rising _ _ c.deref-2.ensures.value r.inodes_rise) counted)

pub returns-clause-known : goal.returns-clause-known
returns-clause-known c facts r =
    let es : List (Fact Entry) = c.directory_in-run.result.now in
    let counted : HasEntries facts es = c.directory_in-run.ensures.counted facts (c.deref.ensures.value ∙ r.all_entries) (rising _ _ c.deref.ensures.value r.entries_rise) in
    let all = c.directory_in-run.ensures.all facts (c.deref.ensures.value ∙ r.all_entries) (rising _ _ c.deref.ensures.value r.entries_rise) in
    let same : targets_with es c.in-Ok.kinds.items ≡ targets_by facts (whats es) = ok_same (targets_by facts (whats es)) (targets_with es c.in-Ok.kinds.items) (c.in-Ok.ensures.known facts (c.deref-2.ensures.value ∙ r.all_inodes) (rising _ _ c.deref-2.ensures.value r.inodes_rise) counted) in
    let copied : c.in_ok-kept.kept.items ≡ targets_by facts (whats es) = c.in_ok-kept.ensures ∙ (ap (targets_with es) c.deref-3.ensures.value ∙ same) in
    ap Ok (sym (children_told facts c.args.id (whats es) c.in_ok-kept.kept.items c.in_ok-sorted.sorted.items all copied c.in_ok-sorted.ensures))

pub returns-in-Err-clause-needs : goal.returns-in-Err-clause-needs
returns-in-Err-clause-needs c facts r =
    let es : List (Fact Entry) = c.directory_in-run.result.now in
    let counted : HasEntries facts es = c.directory_in-run.ensures.counted facts (c.deref.ensures.value ∙ r.all_entries) (rising _ _ c.deref.ensures.value r.entries_rise) in
    let all = c.directory_in-run.ensures.all facts (c.deref.ensures.value ∙ r.all_entries) (rising _ _ c.deref.ensures.value r.entries_rise) in
    told_as (Vec KindAndSize Global) (Vec Target Global) (HaveFiles facts (whats es)) (ChildrenNeed facts of_any c.args.id) c.in-Err.stop
    (λ a e h. (tt, subst (λ l. HaveFiles facts l) all h)) (c.in-Err.ensures.needs facts (c.deref-2.ensures.value ∙ r.all_inodes) (rising _ _ c.deref-2.ensures.value r.inodes_rise) counted)

pub returns-clause-needs : goal.returns-clause-needs
returns-clause-needs c facts r =
    let es : List (Fact Entry) = c.directory_in-run.result.now in
    let counted : HasEntries facts es = c.directory_in-run.ensures.counted facts (c.deref.ensures.value ∙ r.all_entries) (rising _ _ c.deref.ensures.value r.entries_rise) in
    let all = c.directory_in-run.ensures.all facts (c.deref.ensures.value ∙ r.all_entries) (rising _ _ c.deref.ensures.value r.entries_rise) in
    (tt, subst (λ l. HaveFiles facts l) all (c.in-Ok.ensures.needs facts (c.deref-2.ensures.value ∙ r.all_inodes) (rising _ _ c.deref-2.ensures.value r.inodes_rise) counted))
