-- Steps of a path, and what stops it.
use Rattle.std.proofs.Common.{◌≡◌, ◌==◌, ℕ, Bool, true, false, cond, List, [], ◌∷◌, length, Option, Some, None, Result, Ok, Err, inl, inr, refl, ap, sym, ◌∙◌, subst, arith}
use Rattle.std.specs.Prelude.{filter, option_map, is_some, not}
use Rattle.std.specs.Option.{ok_or}
use Rattle.apfs_model.specs.Lists.{In, and_then, passes}
use Rattle.apfs_model.proofs.BoolTests.{both-true, false-not, from-below}
use Rattle.obj_base.specs.Stops.{raised, Tells}
use Rattle.obj_base.specs.declared.site.Site.{Site}
use Rattle.obj_base.specs.declared.stop.Stop.{Stop}
use Rattle.obj_base.specs.declared.stop.Stop.TheVariants.{Found, Unsupported, ReadFault, NoMemory}
use Rattle.bt_cursor.specs.declared.fault.WalkFault.{WalkFault}
use Rattle.fs_record.specs.Inodes.{Inode}
use Rattle.fs_record.specs.Entries.{Entry}
use Rattle.fs_record.specs.Facts.{Fact, is_reserved, root_id}
use Rattle.vol_view.specs.Volumes.{Loaded}
use Rattle.vol_view.specs.Views.{IsViewFeature}
use Rattle.vol_view.specs.declared.volume.View.{View}
use Rattle.view_rules.specs.Facts.{Facts, inode_at, has_inode, is_directory, does_count}
use Rattle.view_rules.specs.Entries.{lacks_inode, has_root}
use Rattle.view_rules.specs.Rules.{view_facts, IsTreeFault}
use Rattle.view_rules.specs.declared.fault.TreeFault.{TreeFault}
use Rattle.view_rules.specs.declared.fault.TreeFault.TheVariants.{NoInode}
use Rattle.view_rules.specs.declared.profile.Profile.{Profile}
use Rattle.view_rules.specs.declared.profile.Profile.TheVariants.{Plain}
use Rattle.ext_ref.specs.declared.range.NewRange.{NewRange}
use Rattle.view_rules.proofs.Law.{refutes, featureless_rules}
use Rattle.path_search.specs.Paths.{is_component, parts_of, components}
use Rattle.path_search.specs.Places.{Place, placed, root_of, root_name, target_of}
use Rattle.path_search.specs.Found.{entries_in, entry_named, place_by, followed, step, walk, found, target_found}
use Rattle.path_search.specs.Stops.{IsLawful, IsPathFault}
use Rattle.path_search.specs.Calls.{IsGiven, IsStopThere, of_walk, IsNoAnswer}
use Rattle.path_search.specs.Parts.{by_part, along, rooted, IsLack, IsKnown, IsPlaceKnown, lacking_entry}
use Rattle.path_search.specs.declared.answer.Answer.{Answer}
use Rattle.path_search.specs.declared.answer.Answer.TheVariants.{NotFound, NotDirectory}
use Rattle.path_search.specs.declared.stop.PathStop.{PathStop}
use Rattle.path_search.specs.declared.stop.PathStop.TheVariants as stops
use Rattle.path_search.specs.declared.target.Target.{Target}

-- ---- one component
pub step_file : (facts : Facts) (place : Place) (name : List ℕ) → is_directory place.inode ≡ false → step facts place name ≡ Err NotDirectory
step_file facts place name e = ap (λ b. cond (not b) (Err NotDirectory) (followed facts (entry_named facts.names name (entries_in facts place.id)))) e

step-in : (facts : Facts) (place : Place) (name : List ℕ) (es : List Entry) (o : Option Entry) → is_directory place.inode ≡ true → es ≡ entries_in facts place.id → o ≡ entry_named facts.names name es → step facts place name ≡ followed facts o
step-in facts place name es o e same chosen =
    ap (λ b. cond (not b) (Err NotDirectory) (followed facts (entry_named facts.names name (entries_in facts place.id)))) e
    ∙ ap (followed facts) (sym (chosen ∙ ap (entry_named facts.names name) same))

-- the place of an entry whose file has an inode
pub place_there : (facts : Facts) (e : Entry) (inode : Inode) (next : Place) → inode_at facts e.file_id ≡ Some inode → next ≡ placed e.file_id e.name inode → place_by facts e ≡ Some next
place_there facts e inode next there same = ap (option_map (placed e.file_id e.name)) there ∙ ap Some (sym same)

pub step_to : (facts : Facts) (place : Place) (name : List ℕ) (es : List Entry) (e : Entry) (next : Place) → is_directory place.inode ≡ true → es ≡ entries_in facts place.id → Some e ≡ entry_named facts.names name es → place_by facts e ≡ Some next → step facts place name ≡ Ok next
step_to facts place name es e next directory same chosen there = step-in facts place name es (Some e) directory same chosen ∙ ap (λ (o : Option Place). ok_or o NotFound) there

-- ---- all components

pub part_named : (facts : Facts) (place : Place) (part : List ℕ) → (length part == 0) ≡ false → by_part facts place part ≡ step facts place part
part_named facts place [] e = absurd cc
part_named facts place (b ∷ bs) e = ap (λ t. cond t (step facts place (b ∷ bs)) (Ok place)) (from-below 0 (length (b ∷ bs)) (omega arith))

along-part : (facts : Facts) (parts : List (List ℕ)) (place : Place) (part : List ℕ) (b : Bool) → walk facts (cond b (part ∷ filter is_component parts) (filter is_component parts)) place ≡ and_then (cond b (step facts place part) (Ok place)) (λ next. along facts parts next)
along-part facts parts place part true = refl
along-part facts parts place part false = refl

pub along_part : (facts : Facts) (parts : List (List ℕ)) (place : Place) (part : List ℕ) → along facts (part ∷ parts) place ≡ and_then (by_part facts place part) (λ next. along facts parts next)
along_part facts parts place part = along-part facts parts place part (is_component part)

pub along_on : (facts : Facts) (parts : List (List ℕ)) (place next : Place) (part : List ℕ) → by_part facts place part ≡ Ok next → along facts (part ∷ parts) place ≡ along facts parts next
along_on facts parts place next part e = along_part facts parts place part ∙ ap (λ (r : Result Place Answer). and_then {T = Place} {U = Place} r (λ p. along facts parts p)) e

pub along_stops : (facts : Facts) (parts : List (List ℕ)) (place : Place) (part : List ℕ) (a : Answer) → by_part facts place part ≡ Err a → along facts (part ∷ parts) place ≡ Err a
along_stops facts parts place part a e = along_part facts parts place part ∙ ap (λ (r : Result Place Answer). and_then {T = Place} {U = Place} r (λ p. along facts parts p)) e

pub found_along : (facts : Facts) (path : List ℕ) → found facts path ≡ and_then (rooted facts) (λ root. along facts (parts_of path) root)
unfolding found components
found_along facts path = refl

pub root_there : (facts : Facts) (inode : Inode) (root : Place) → inode_at facts root_id ≡ Some inode → root ≡ placed root_id root_name inode → root_of facts ≡ Some root
root_there facts inode root e same = ap (option_map (placed root_id root_name)) e ∙ ap Some (sym same)

-- ---- what isn't there
no-place : (facts : Facts) (e : Entry) (o : Option Inode) → option_map (placed e.file_id e.name) o ≡ None → o ≡ None
no-place facts e None h = refl
no-place facts e (Some x) h = absurd cc

pub lack_entry : (facts : Facts) (view : View) (e : Fact Entry) (fault : TreeFault) → In e facts.entries → is_reserved e.id ≡ false → place_by facts e.what ≡ None → fault ≡ lacking_entry view e.id e.what.name → IsLack facts view fault
unfolding lacks_inode
lack_entry facts view e fault listed counts none same =
    let gone : inode_at facts e.what.file_id ≡ None = no-place facts e.what (inode_at facts e.what.file_id) none in
    let lost : has_inode facts e.what.file_id ≡ false = ap (λ (o : Option Inode). is_some o) gone in
    inl (e.id, e.what.name, same, record { item = e; listed = listed; same = refl; breach = both-true (does_count e) (not (has_inode facts e.what.file_id)) (false-not (is_reserved e.id) counts) (false-not (has_inode facts e.what.file_id) lost) })

pub lack_root : (facts : Facts) (view : View) (fault : TreeFault) → inode_at facts root_id ≡ None → fault ≡ NoInode view.slot view.xid root_id None → IsLack facts view fault
unfolding has_root
lack_root facts view fault none same = inr (same, ap (λ (o : Option Inode). passes o is_directory) none)

-- ---- what is there
lack-there : (image : List ℕ) (site : Site) (volume : Loaded) (view : View) (fault : TreeFault) → IsLack (view_facts image site volume view) view fault → IsPathFault image site volume view fault
lack-there image site volume view fault (inl (id, name, same, there)) profile ranges = subst (λ (f : TreeFault). IsTreeFault profile image site volume view ranges f) (sym same) ((refl, refl), there)
lack-there image site volume view fault (inr (same, there)) profile ranges = subst (λ (f : TreeFault). IsTreeFault profile image site volume view ranges f) (sym same) ((refl, refl), (refl, there))

-- what stops a call on the facts of a view is there
pub known_there : {T U : Type 0} (image : List ℕ) (site : Site) (volume : Loaded) (view : View) (shows : T → U) (wanted : Result U Answer) (stop : Stop PathStop) → IsKnown (view_facts image site volume view) view shows wanted (Err stop) → IsStopThere image site volume view stop
known_there image site volume view shows wanted (Found (stops.Fault fault)) known = lack-there image site volume view fault known
known_there image site volume view shows wanted (Unsupported feature block) known = absurd known
known_there image site volume view shows wanted stop known = tt

-- on a view that meets its rules no fault and no feature is there
pub lawful_stop : {T U : Type 0} (image : List ℕ) (site : Site) (volume : Loaded) (view : View) (shows : T → U) (wanted : Result U Answer) (stop : Stop PathStop) → IsLawful image site volume view → IsStopThere image site volume view stop → ((a : Answer) → stop ≡ Found (stops.Answer a) → wanted ≡ Err a) → IsGiven shows wanted (Err stop)
lawful_stop image site volume view shows wanted (Found (stops.Answer a)) lawful there answered = answered a refl
lawful_stop image site volume view shows wanted (Found (stops.Fault fault)) lawful there answered = refutes lawful.profile image site volume view lawful.ranges fault (there lawful.profile lawful.ranges) lawful.rules
lawful_stop image site volume view shows wanted (Unsupported feature block) lawful there answered = featureless_rules lawful.profile image site volume view lawful.ranges feature block there lawful.rules
lawful_stop image site volume view shows wanted stop lawful there answered = tt

pub known_given : {T U : Type 0} (image : List ℕ) (site : Site) (volume : Loaded) (view : View) (shows : T → U) (wanted : Result U Answer) (result : Result T (Stop PathStop)) → IsLawful image site volume view → IsKnown (view_facts image site volume view) view shows wanted result → IsGiven shows wanted result
known_given image site volume view shows wanted (Err (Found (stops.Fault fault))) lawful known = refutes lawful.profile image site volume view lawful.ranges fault (lack-there image site volume view fault known lawful.profile lawful.ranges) lawful.rules
known_given image site volume view shows wanted (Err (Unsupported feature block)) lawful known = absurd known
known_given image site volume view shows wanted (Err ReadFault) lawful known = absurd known
known_given image site volume view shows wanted result lawful known = known

-- ---- what stops a walk

-- ---- what is known of an entry's file
pub known_lack : {T U : Type 0} (facts : Facts) (view : View) (e : Fact Entry) (shows : T → U) (wanted : Result U Answer) (stop : Stop PathStop) → In e facts.entries → is_reserved e.id ≡ false → IsPlaceKnown facts view e (Err stop) → IsKnown facts view shows wanted (Err stop)
known_lack facts view e shows wanted (Found (stops.Fault fault)) listed counts known = lack_entry facts view e fault listed counts known.0 known.1
known_lack facts view e shows wanted NoMemory listed counts known = tt
known_lack facts view e shows wanted stop listed counts known = absurd known

-- what stops a part of a path stops the path
pub known_ends : {T U V W : Type 0} (facts : Facts) (view : View) (shows : T → U) (wanted : Result U Answer) (sees : V → W) (whole : Result W Answer) (stop : Stop PathStop) → ((a : Answer) → wanted ≡ Err a → whole ≡ Err a) → IsKnown facts view shows wanted (Err stop) → IsKnown facts view sees whole (Err stop)
known_ends facts view shows wanted sees whole (Found (stops.Answer a)) goes known = goes a known
known_ends facts view shows wanted sees whole stop goes known = known

-- what is found by the root and the parts
pub found_by : (facts : Facts) (path : List ℕ) (root : Place) (parts : List (List ℕ)) (whole : Result Place Answer) → rooted facts ≡ Ok root → parts ≡ parts_of path → along facts parts root ≡ whole → found facts path ≡ whole
found_by facts path root parts whole there same so_far =
    found_along facts path ∙ (ap (λ (r : Result Place Answer). and_then {T = Place} {U = Place} r (λ (p : Place). along facts (parts_of path) p)) there ∙ (ap (λ ps. along facts ps root) (sym same) ∙ so_far))

pub found_lost : (facts : Facts) (path : List ℕ) (a : Answer) → rooted facts ≡ Err a → found facts path ≡ Err a
found_lost facts path a e = found_along facts path ∙ ap (λ (r : Result Place Answer). and_then {T = Place} {U = Place} r (λ (p : Place). along facts (parts_of path) p)) e

-- a walk stops with no answer
pub raised_unanswered : (view : View) (stop : Stop WalkFault) → IsNoAnswer (raised (of_walk view) stop)
raised_unanswered view (Found why) = tt
raised_unanswered view stop = tt

same-fault : (a b : TreeFault) → ◌≡◌ {A = Stop PathStop} (Found (stops.Fault a)) (Found (stops.Fault b)) → a ≡ b
same-fault a b e = cc

-- a fault that is said of a path is one of the view
fault-said : (stop : Stop TreeFault) (fault : TreeFault) → raised stops.Fault stop ≡ Found (stops.Fault fault) → stop ≡ Found fault
fault-said (Found other) fault e = ap Found (same-fault other fault e)
fault-said stop fault e = absurd cc

stop-same : {T : Type 0} (a b : Stop PathStop) → ◌≡◌ {A = Result T (Stop PathStop)} (Err a) (Err b) → a ≡ b
stop-same a b e = cc

pub fault_said : {T : Type 0} (stop : Stop TreeFault) (other : Stop PathStop) (fault : TreeFault) → other ≡ raised stops.Fault stop → ◌≡◌ {A = Result T (Stop PathStop)} (Err other) (Err (Found (stops.Fault fault))) → stop ≡ Found fault
fault_said stop other fault said e = fault-said stop fault (sym said ∙ stop-same other (Found (stops.Fault fault)) e)

pub said_unanswered : (stop : Stop TreeFault) → IsNoAnswer (raised stops.Fault stop)
said_unanswered (Found fault) = tt
said_unanswered stop = tt

-- what is there whatever the profile and the new ranges is there where a path stops
pub said_there : (image : List ℕ) (site : Site) (volume : Loaded) (view : View) (stop : Stop TreeFault) → ((profile : Profile) (ranges : List NewRange) → Tells (IsTreeFault profile image site volume view ranges) (IsViewFeature image site volume view) stop) → IsStopThere image site volume view (raised stops.Fault stop)
said_there image site volume view (Found fault) there = there
said_there image site volume view (Unsupported name block) there = there Plain []
said_there image site volume view stop there = tt

pub unanswered_given : {T U : Type 0} (image : List ℕ) (site : Site) (volume : Loaded) (view : View) (shows : T → U) (wanted : Result U Answer) (stop : Stop PathStop) → IsLawful image site volume view → IsStopThere image site volume view stop → IsNoAnswer stop → IsGiven shows wanted (Err stop)
unanswered_given image site volume view shows wanted stop lawful there unanswered = lawful_stop image site volume view shows wanted stop lawful there (λ a e. absurd (subst (λ (s : Stop PathStop). IsNoAnswer s) e unanswered))

-- what is given of a path is given of what it leads to
pub given_on : {T U V W : Type 0} (shows : T → U) (wanted : Result U Answer) (sees : V → W) (whole : Result W Answer) (stop : Stop PathStop) → ((a : Answer) → wanted ≡ Err a → whole ≡ Err a) → IsGiven shows wanted (Err stop) → IsGiven sees whole (Err stop)
given_on shows wanted sees whole (Found (stops.Answer a)) goes given = goes a given
given_on shows wanted sees whole stop goes given = given

pub target_lost : (facts : Facts) (path : List ℕ) (a : Answer) → found facts path ≡ Err a → target_found facts path ≡ Err a
target_lost facts path a e = ap (λ (r : Result Place Answer). and_then {T = Place} {U = Target} r (λ (p : Place). Ok (target_of p))) e
