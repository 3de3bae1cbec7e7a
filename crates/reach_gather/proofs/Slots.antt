-- What a volume adds, from the naming of its slot on.
use Rattle.std.proofs.Common.{◌≡◌, ℕ, zero, suc, ◌+◌, ◌<◌, Bool, true, false, List, [], ◌∷◌, ◌++◌, length, take, get_or, Option, None, Some, inl, inr, refl, ap, sym, ◌∙◌, subst, arith}
use Rattle.std.proofs.lemmas.List.{take_more, append-nil, append_assoc}
use Rattle.std.specs.Prelude.{if◌then◌else◌}
use Rattle.apfs_model.specs.Lists.{In}
use Rattle.apfs_model.proofs.Searches.{in-map}
use Rattle.apfs_model.proofs.Greatest.{some-value}
use Rattle.nx_block.specs.Super.{omap_oid_of}
use Rattle.nx_ring.specs.Checkpoint.{Seen, site_of}
use Rattle.obj_base.specs.declared.site.Site.{Site}
use Rattle.omap_map.specs.Maps.{map_records, is_whole_map, resolved_in}
use Rattle.omap_map.specs.Resolve as resolve
use Rattle.omap_map.specs.declared.records.OmapRecord.{OmapRecord}
use Rattle.vol_view.specs.Volumes.{Loaded}
use Rattle.reach_rules.specs.declared.naming.Object.TheVariants.{OfRecord}
use Rattle.reach_rules.specs.declared.naming.Namer.{Namer}
use Rattle.reach_rules.specs.declared.naming.Namer.TheVariants.{Whole}
use Rattle.reach_rules.specs.declared.naming.Expected.TheVariants.{VolumeIn, TreeRoot}
use Rattle.reach_rules.specs.declared.naming.Naming.{Naming}
use Rattle.reach_rules.specs.Next.{next}
use Rattle.reach_rules.specs.Resolved.{Found, standing}
use Rattle.reach_rules.specs.declared.owner.Who.TheVariants.{Recorded}
use Rattle.reach_rules.specs.Owners.{owner, object_owners, told_owners, owners_through}
use Rattle.reach_rules.specs.PoolOwners.{pool_object_owners, pool_told_owners, pool_owners_through}
use Rattle.reach_gather.specs.Volumes.Parts.{IsVolumePart, volume_namer}
use Rattle.reach_gather.specs.Volumes.Told.{head_naming, told_volume}
use Rattle.reach_gather.specs.Held.{Held, some_owners}
use Rattle.reach_gather.specs.Adds.{Adds}
use Rattle.reach_gather.specs.Views.{volume_views, slots_namings, loaded_views}
use Rattle.reach_gather.proofs.Growing.{grewby-one, adds-join, adds-step, adds-as, IsRightRoot}
use Rattle.reach_gather.proofs.Owning.{own-plain, pool-plain}

by-whole : (b : Bool) (o : Option OmapRecord) (r : OmapRecord) → (if b then o else None) ≡ Some r → o ≡ Some r
by-whole true o r e = e
by-whole false o r e = absurd (let z : None ≡ Some r = e in let q : ⊥ = cc in q)

-- what is resolved in a map is resolved by its records
pub mapped-in : (image : List ℕ) (site : Site) (block oid x : ℕ) (r : OmapRecord) → resolved_in image site block oid x ≡ Some r → resolve.resolved (map_records image site block) oid x ≡ Some r
unfolding resolved_in
mapped-in image site block oid x r e = by-whole (is_whole_map image site block) (resolve.resolved (map_records image site block) oid x) r e

-- the record that was found is that of the volume
pub record-found : (image : List ℕ) (seen : Seen) (volume : Loaded) (records : List OmapRecord) (oid x : ℕ) (found : Option OmapRecord) (part : IsVolumePart image seen volume.head volume) → records ≡ map_records image (site_of seen) (omap_oid_of seen.nx) → oid ≡ volume.head.oid → x ≡ seen.line.xid
    → found ≡ resolve.resolved records oid x → found ≡ Some part.mapping
record-found image seen volume records oid x found part all same at e =
    e ∙ (ap (λ rs. resolve.resolved rs oid x) all ∙ (ap (λ o. resolve.resolved (map_records image (site_of seen) (omap_oid_of seen.nx)) o x) same
    ∙ (ap (λ y. resolve.resolved (map_records image (site_of seen) (omap_oid_of seen.nx)) volume.head.oid y) at
    ∙ mapped-in image (site_of seen) (omap_oid_of seen.nx) volume.head.oid seen.line.xid part.mapping part.mapped)))

pub never-lost : (found : Option OmapRecord) (r : OmapRecord) → found ≡ None → found ≡ Some r → ⊥
never-lost found r p q = let z : None ≡ Some r = sym p ∙ q in let k : ⊥ = cc in k

pub found-one : {X : Type 0} (found : Option X) (a b : X) → found ≡ Some a → found ≡ Some b → a ≡ b
found-one found a b p q = some-value a b (sym p ∙ q)

-- who names what the volume's superblock does
pub namer-is : (seen : Seen) (map : ℕ) (found r : OmapRecord) → map ≡ omap_oid_of seen.nx → found ≡ r → Whole (OfRecord map found) ≡ volume_namer seen r
namer-is seen map found r m f = λ i. Whole (OfRecord (m i) (f i))

owner-is : (seen : Seen) (map : ℕ) (found r : OmapRecord) → map ≡ omap_oid_of seen.nx → found ≡ r → owner (Recorded map found) found.paddr 1 ≡ owner (Recorded (omap_oid_of seen.nx) r) r.paddr 1
owner-is seen map found r m f = λ i. owner (Recorded (m i) (f i)) (f i).paddr 1

-- the naming of a volume owns the block of its record
slot-owners : (image : List ℕ) (seen : Seen) (volume : Loaded) (part : IsVolumePart image seen volume.head volume) → owners_through image seen (head_naming volume.head) ≡ owner (Recorded (omap_oid_of seen.nx) part.mapping) part.mapping.paddr 1 ∷ []
slot-owners image seen volume part =
    let n : Naming = head_naming volume.head in
    let same : part.plain.object ≡ standing image (site_of seen) (OfRecord (omap_oid_of seen.nx) part.mapping) volume.head.block = some-value part.plain.object (standing image (site_of seen) (OfRecord (omap_oid_of seen.nx) part.mapping) volume.head.block) (sym part.plain.found ∙ part.found) in
    own-plain image seen n part.plain ∙ ap (λ (f : Found). object_owners n f.object ++ told_owners image seen n n.expected f.bytes) same

slot-pool : (image : List ℕ) (seen : Seen) (volume : Loaded) (part : IsVolumePart image seen volume.head volume) → pool_owners_through image seen (head_naming volume.head) ≡ []
slot-pool image seen volume part =
    let n : Naming = head_naming volume.head in
    let same : part.plain.object ≡ standing image (site_of seen) (OfRecord (omap_oid_of seen.nx) part.mapping) volume.head.block = some-value part.plain.object (standing image (site_of seen) (OfRecord (omap_oid_of seen.nx) part.mapping) volume.head.block) (sym part.plain.found ∙ part.found) in
    pool-plain image seen n part.plain ∙ ap (λ (f : Found). pool_object_owners n f.object ++ pool_told_owners image seen n n.expected f.bytes) same

slot-root : (image : List ℕ) (seen : Seen) (volume : Loaded) → IsRightRoot image seen (head_naming volume.head)
slot-root image seen volume = λ kind is. absurd (let z : VolumeIn volume.head.slot ≡ TreeRoot kind = is in let q : ⊥ = cc in q)

-- a volume, and all that its superblock names but what its views do
pub volume-adds : (image : List ℕ) (seen : Seen) (volume : Loaded) (n : Naming) (map : ℕ) (found : OmapRecord) (a b c : Held) (part : IsVolumePart image seen volume.head volume) → n ≡ head_naming volume.head
    → map ≡ omap_oid_of seen.nx → found ≡ part.mapping
    → b.namings ≡ a.namings ++ n ∷ [] → b.owners ≡ a.owners ++ owner (Recorded map found) found.paddr 1 ∷ [] → b.pool_owners ≡ a.pool_owners
    → Adds image seen (told_volume seen (Whole (OfRecord map found)) volume) (volume_views seen (Whole (OfRecord map found)) volume) b c
    → Adds image seen (head_naming volume.head ∷ []) (volume_views seen (volume_namer seen part.mapping) volume) a c
volume-adds image seen volume n map found a b c part is m f p q r below =
    let h : Naming = head_naming volume.head in
    let me : Namer = volume_namer seen part.mapping in
    let names : Adds image seen (told_volume seen me volume) (volume_views seen me volume) b c = subst (λ x. Adds image seen (told_volume seen x volume) (volume_views seen x volume) b c) (namer-is seen map found part.mapping m f) below in
    adds-step image seen h (volume_views seen me volume) a b c part.plain refl (slot-root image seen volume)
    (grewby-one image seen h a b (p ∙ ap (λ x. a.namings ++ x ∷ []) is)
    (q ∙ (ap (λ o. a.owners ++ o ∷ []) (owner-is seen map found part.mapping m f) ∙ ap (λ os. a.owners ++ some_owners os) (sym (slot-owners image seen volume part))))
    (r ∙ (sym (append-nil a.pool_owners) ∙ ap (λ os. a.pool_owners ++ some_owners os) (sym (slot-pool image seen volume part)))))
    (adds-as image seen (told_volume seen me volume) (next image seen h) (volume_views seen me volume) b c part.leads names)

-- ---- volume by volume
slots-more : (xs : List Loaded) (x : Loaded) → slots_namings (xs ++ x ∷ []) ≡ slots_namings xs ++ head_naming x.head ∷ []
slots-more [] x = refl
slots-more (y ∷ ys) x = ap (λ ns. head_naming y.head ∷ ns) (slots-more ys x)

views-more : (seen : Seen) (namer : Loaded → Namer) (xs : List Loaded) (x : Loaded) → loaded_views seen namer (xs ++ x ∷ []) ≡ loaded_views seen namer xs ++ volume_views seen (namer x) x
views-more seen namer [] x = append-nil (volume_views seen (namer x) x)
views-more seen namer (y ∷ ys) x = ap (λ ns. volume_views seen (namer y) y ++ ns) (views-more seen namer ys x) ∙ sym (append_assoc (volume_views seen (namer y) y) (loaded_views seen namer ys) (volume_views seen (namer x) x))

pub volumes-next : (image : List ℕ) (seen : Seen) (namer : Loaded → Namer) (xs : List Loaded) (i : ℕ) (x : Loaded) (a b c : Held) → i < length xs → get_or xs i x ≡ x
    → Adds image seen (slots_namings (take i xs)) (loaded_views seen namer (take i xs)) a b
    → Adds image seen (head_naming x.head ∷ []) (volume_views seen (namer x) x) b c
    → Adds image seen (slots_namings (take (i + 1) xs)) (loaded_views seen namer (take (i + 1) xs)) a c
volumes-next image seen namer xs i x a b c low is before one =
    let more : take (i + 1) xs ≡ take i xs ++ x ∷ [] = take_more xs i x low ∙ ap (λ y. take i xs ++ y ∷ []) is in
    let told : slots_namings (take (i + 1) xs) ≡ slots_namings (take i xs) ++ head_naming x.head ∷ [] = ap slots_namings more ∙ slots-more (take i xs) x in
    let rests : loaded_views seen namer (take (i + 1) xs) ≡ loaded_views seen namer (take i xs) ++ volume_views seen (namer x) x = ap (loaded_views seen namer) more ∙ views-more seen namer (take i xs) x in
    subst (λ rs. Adds image seen (slots_namings (take (i + 1) xs)) rs a c) (sym rests)
    (adds-as image seen (slots_namings (take i xs) ++ head_naming x.head ∷ []) (slots_namings (take (i + 1) xs)) (loaded_views seen namer (take i xs) ++ volume_views seen (namer x) x) a c told
    (adds-join image seen (slots_namings (take i xs)) (head_naming x.head ∷ []) (loaded_views seen namer (take i xs)) (volume_views seen (namer x) x) a b c before one))

-- a volume at a place is one of them, and so is its naming
pub volume-in : (xs : List Loaded) (i : ℕ) (x : Loaded) → i < length xs → get_or xs i x ≡ x → In x xs
volume-in [] i x low is = absurd (omega arith)
volume-in (y ∷ ys) zero x low is = inl (sym is)
volume-in (y ∷ ys) (suc i) x low is = inr (volume-in ys i x (omega arith) is)

pub slot-in : (xs : List Loaded) (x : Loaded) → In x xs → In (head_naming x.head) (slots_namings xs)
slot-in xs x h = in-map (λ (v : Loaded). head_naming v.head) xs x h
