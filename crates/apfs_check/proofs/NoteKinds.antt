-- The notes of views, kind by kind, are those of the container.
use Rattle.std.proofs.Common.{◌≡◌, ℕ, Bool, true, false, cond, List, [], ◌∷◌, ◌++◌, map, filter, refl, ap, ◌∙◌, append-nil}
use Rattle.std.proofs.lemmas.List.Elements.{filter-append}
use Rattle.nx_ring.specs.Checkpoint.{Seen, site_of}
use Rattle.vol_view.specs.declared.head.VolHead.{VolHead}
use Rattle.vol_view.specs.declared.volume.View.{View}
use Rattle.view_rules.specs.Facts.{Facts}
use Rattle.view_rules.specs.Names.{has_other_name_hash}
use Rattle.tree_rules.specs.Notes.{hash_note, hash_notes, is_unnamed, unnamed_note, unnamed_notes}
use Rattle.tree_rules.specs.Tallies.{notes_of}
use Rattle.view_rules.specs.Rules.{view_facts}
use Rattle.view_rules.specs.declared.notes.Note.{Note}
use Rattle.view_rules.specs.declared.profile.Profile.{Profile}
use Rattle.view_rules.specs.declared.profile.Profile.TheVariants.{Plain, Strict}
use Rattle.apfs_check.specs.Volumes.{volume_of}
use Rattle.apfs_check.specs.Notes as notes
use Rattle.apfs_check.specs.NoteTests as tests

filter-made : {X Y : Type 0} (p : Y → Bool) (f : X → Y) (xs : List X) → ((x : X) → p (f x) ≡ true) → filter p (map f xs) ≡ map f xs
filter-made p f [] h = refl
filter-made p f (x ∷ xs) h = ap (λ b. cond b (f x ∷ filter p (map f xs)) (filter p (map f xs))) (h x) ∙ ap (λ ys. f x ∷ ys) (filter-made p f xs h)

filter-other : {X Y : Type 0} (p : Y → Bool) (f : X → Y) (xs : List X) → ((x : X) → p (f x) ≡ false) → filter p (map f xs) ≡ []
filter-other p f [] h = refl
filter-other p f (x ∷ xs) h = ap (λ b. cond b (f x ∷ filter p (map f xs)) (filter p (map f xs))) (h x) ∙ filter-other p f xs h

-- the notes of a view on inodes without entries
pub unnamed-kind : (profile : Profile) (view : View) (facts : Facts) → filter tests.is_unnamed_note (notes_of profile view facts) ≡ unnamed_notes view facts
unfolding notes_of
unnamed-kind Plain view facts =
    filter-append tests.is_unnamed_note (hash_notes view facts) (unnamed_notes view facts)
    ∙ (ap (λ ns. ns ++ filter tests.is_unnamed_note (unnamed_notes view facts)) (filter-other tests.is_unnamed_note (hash_note view) (filter (has_other_name_hash facts) facts.entries) (λ e. refl))
    ∙ filter-made tests.is_unnamed_note (unnamed_note view) (filter (is_unnamed facts) facts.inodes) (λ f. refl))
unnamed-kind Strict view facts = filter-made tests.is_unnamed_note (unnamed_note view) (filter (is_unnamed facts) facts.inodes) (λ f. refl)

-- the notes of a view on hashes; under Strict there are none
abbrev pub hashes_under : Profile → View → Facts → List Note
hashes_under Plain view facts = hash_notes view facts
hashes_under Strict view facts = []

pub hash-kind : (profile : Profile) (view : View) (facts : Facts) → filter tests.is_hash_note (notes_of profile view facts) ≡ hashes_under profile view facts
unfolding notes_of
hash-kind Plain view facts =
    filter-append tests.is_hash_note (hash_notes view facts) (unnamed_notes view facts)
    ∙ (ap (λ ns. filter tests.is_hash_note (hash_notes view facts) ++ ns) (filter-other tests.is_hash_note (unnamed_note view) (filter (is_unnamed facts) facts.inodes) (λ f. refl))
    ∙ (append-nil (filter tests.is_hash_note (hash_notes view facts)) ∙ filter-made tests.is_hash_note (hash_note view) (filter (has_other_name_hash facts) facts.entries) (λ e. refl)))
hash-kind Strict view facts = filter-other tests.is_hash_note (unnamed_note view) (filter (is_unnamed facts) facts.inodes) (λ f. refl)

-- the notes that a view's rules give, by kind, are those of which a container's notes are made
pub view-unnamed : (profile : Profile) (image : List ℕ) (seen : Seen) (head : VolHead) (view : View) → filter tests.is_unnamed_note (notes_of profile view (view_facts image (site_of seen) (volume_of image seen head) view)) ≡ notes.view_unnamed_notes image seen head view
view-unnamed profile image seen head view = unnamed-kind profile view (view_facts image (site_of seen) (volume_of image seen head) view)

pub view-hash : (image : List ℕ) (seen : Seen) (head : VolHead) (view : View) → filter tests.is_hash_note (notes_of Plain view (view_facts image (site_of seen) (volume_of image seen head) view)) ≡ notes.view_hash_notes image seen head view
view-hash image seen head view = hash-kind Plain view (view_facts image (site_of seen) (volume_of image seen head) view)
