-- What is live from the parts of a container that are lists of their own.
use Rattle.std.proofs.Common.{◌≡◌, ℕ, true, false, List, [], ◌∷◌, ◌++◌, Some, Ok, Err, is_ok, inl, inr, refl, ap, sym, ◌∙◌, subst}
use Rattle.std.specs.List.{flat_map}
use Rattle.apfs_model.specs.Lists.{In, Lists}
use Rattle.nx_ring.specs.Checkpoint.{Seen, site_of}
use Rattle.omap_map.specs.Fields as maps
use Rattle.space_map.specs.Blocks.{manager_of}
use Rattle.reach_rules.specs.declared.naming.LookUp.TheVariants.{ByBlock}
use Rattle.reach_rules.specs.declared.naming.Namer.{Namer}
use Rattle.reach_rules.specs.declared.naming.Namer.TheVariants.{Whole}
use Rattle.reach_rules.specs.declared.naming.TreeKind.TheVariants.{MapRecords, MapSnapshots}
use Rattle.reach_rules.specs.declared.naming.Expected.{Expected}
use Rattle.reach_rules.specs.declared.naming.Expected.TheVariants.{Jumpstart, ExtendedMetadata, AddressBlock, InfoBlock, TreeRoot}
use Rattle.reach_rules.specs.declared.naming.Naming.{Naming}
use Rattle.reach_rules.specs.Resolved.{Found, resolved}
use Rattle.reach_rules.specs.Tested.{Answer, tested}
use Rattle.reach_rules.specs.Next.{names, next, unless_zero, map_namings, cab_namings, cib_naming, cibs_in}
use Rattle.reach_rules.specs.Live.{Live, IsSoundFor}
use Rattle.reach_rules.proofs.Nexts.{Each, each-in, each-unless, each-map, each-through, from-next}
use Rattle.reach_rules.proofs.Lives.{lists-none, lists-both, lists-by}
use Rattle.reach_gather.specs.Parts.{physical_namings, records_naming, ExpectsMap, AreOfMap, IsAlone, NamingsOfParts}
use Rattle.reach_gather.proofs.Law.{next-some}
use Rattle.reach_gather.proofs.OfKinds.{of-steps}

-- ---- part by part
-- from each of some things a list, so from all of them
pub lists-flat : {N : Type 0} (next : N → List N) (f : N → List N) (ns : List N) → ((n : N) → In n ns → Lists (f n) (Live (n ∷ []) next)) → Lists (flat_map f ns) (Live ns next)
lists-flat next f [] h = lists-none next
lists-flat next f (n ∷ ns) h = lists-both next n ns (f n) (flat_map f ns) (h n (inl refl)) (lists-flat next f ns (λ m k. h m (inr k)))

-- ---- what names nothing
nothing-in : {X : Type 0} (xs : List X) → ((x : X) → In x xs → ⊥) → xs ≡ []
nothing-in [] h = refl
nothing-in (x ∷ xs) h = absurd (h x (inl refl))

leads-nowhere : (image : List ℕ) (seen : Seen) (n : Naming) (e : Expected) → n.expected ≡ e → ((f : Found) → names image seen n.how e (Whole f.object) f.bytes ≡ []) → next image seen n ≡ []
leads-nowhere image seen n e s none = nothing-in (next image seen n) (λ m h.
    let l = from-next image seen n m h in
    subst (In m) (none l.object) (subst (λ x. In m (names image seen n.how x (Whole l.object.object) l.object.bytes)) s l.names))

alone : (image : List ℕ) (seen : Seen) (n : Naming) → next image seen n ≡ [] → IsAlone image seen n
alone image seen n e = lists-by (next image seen) n [] (subst (λ ns. Lists [] (Live ns (next image seen))) (sym e) (lists-none (next image seen)))

info-alone : (image : List ℕ) (seen : Seen) (n : Naming) (i : ℕ) → n.expected ≡ InfoBlock i → IsAlone image seen n
info-alone image seen n i s = alone image seen n (leads-nowhere image seen n (InfoBlock i) s (λ f. refl))

-- ---- chunk-info address blocks, which name chunk-info blocks alone
abbrev IsInfo : Naming → Type 0
IsInfo n = (i : ℕ) × (n.expected ≡ InfoBlock i)

cab-infos : (image : List ℕ) (seen : Seen) (n m : Naming) (i : ℕ) → n.expected ≡ AddressBlock i → In m (next image seen n) → IsInfo m
cab-infos image seen n m i s h =
    let l = from-next image seen n m h in
    let f : Found = l.object in
    each-in IsInfo (names image seen n.how (AddressBlock i) (Whole f.object) f.bytes) m
    (each-through IsInfo (manager_of seen) (λ manager. cab_namings (site_of seen).block_size (Whole f.object) manager i f.bytes) (λ manager.
    each-map IsInfo (cib_naming (Whole f.object) manager f.bytes) (cibs_in (site_of seen).block_size manager i) (λ c. (c, refl))))
    (subst (λ x. In m (names image seen n.how x (Whole f.object) f.bytes)) s l.names)

flat-self : {X : Type 0} (xs : List X) → flat_map (λ x. x ∷ []) xs ≡ xs
flat-self [] = refl
flat-self (x ∷ xs) = ap (λ ys. x ∷ ys) (flat-self xs)

cab-lives : (image : List ℕ) (seen : Seen) (n : Naming) (i : ℕ) → n.expected ≡ AddressBlock i → Lists (n ∷ next image seen n) (Live (n ∷ []) (next image seen))
cab-lives image seen n i s =
    lists-by (next image seen) n (next image seen n)
    (subst (λ xs. Lists xs (Live (next image seen n) (next image seen))) (flat-self (next image seen n))
    (lists-flat (next image seen) (λ m. m ∷ []) (next image seen n) (λ m h. let t = cab-infos image seen n m i s h in info-alone image seen m t.0 t.1)))

-- ---- object maps
sound-names : (image : List ℕ) (seen : Seen) (n : Naming) (f : Found) (a : Answer) → resolved image seen n ≡ Some f → tested (site_of seen) n.expected n.oid f.bytes ≡ a → is_ok a ≡ true → next image seen n ≡ names image seen n.how n.expected (Whole f.object) f.bytes
sound-names image seen n f (Ok bytes) e t s = next-some image seen n f (Ok bytes) e t
sound-names image seen n f (Err bad) e t s = absurd (let z : false ≡ true = s in let q : ⊥ = cc in q)

-- what the naming of a sound object leads to
pub sound-next : (image : List ℕ) (seen : Seen) (n : Naming) (f : Found) → resolved image seen n ≡ Some f → IsSoundFor seen n f → next image seen n ≡ names image seen n.how n.expected (Whole f.object) f.bytes
sound-next image seen n f found sound = sound-names image seen n f (tested (site_of seen) n.expected n.oid f.bytes) found refl sound

pub map-names : (image : List ℕ) (seen : Seen) (n : Naming) (f : Found) → ExpectsMap n.expected → resolved image seen n ≡ Some f → IsSoundFor seen n f → next image seen n ≡ map_namings (Whole f.object) f.bytes
map-names image seen n f (inl e) found sound = sound-next image seen n f found sound ∙ ap (λ x. names image seen n.how x (Whole f.object) f.bytes) e
map-names image seen n f (inr e) found sound = sound-next image seen n f found sound ∙ ap (λ x. names image seen n.how x (Whole f.object) f.bytes) e

abbrev IsSnapshotsRoot : Naming → Type 0
IsSnapshotsRoot n = (n.expected ≡ TreeRoot MapSnapshots) × (n.how ≡ ByBlock)

map-lives : (image : List ℕ) (seen : Seen) → AreOfMap image seen
map-lives image seen n f expects found sound =
    let me : Namer = Whole f.object in
    let root : Naming = records_naming me f.bytes in
    let past : List Naming = unless_zero me 56 (TreeRoot MapSnapshots) ByBlock (maps.snap_tree_of f.bytes) in
    let each : Each IsSnapshotsRoot past = each-unless IsSnapshotsRoot me 56 (TreeRoot MapSnapshots) ByBlock (maps.snap_tree_of f.bytes) (refl, refl) in
    lists-by (next image seen) n (physical_namings image seen MapRecords root ++ flat_map (physical_namings image seen MapSnapshots) past)
    (subst (λ ns. Lists (physical_namings image seen MapRecords root ++ flat_map (physical_namings image seen MapSnapshots) past) (Live ns (next image seen))) (sym (map-names image seen n f expects found sound))
    (lists-both (next image seen) root past (physical_namings image seen MapRecords root) (flat_map (physical_namings image seen MapSnapshots) past)
    (of-steps.records image seen root refl refl)
    (lists-flat (next image seen) (physical_namings image seen MapSnapshots) past (λ m h. let t = each-in IsSnapshotsRoot past m each h in of-steps.snapshots image seen m t.0 t.1))))

-- ---- all of them
pub of-parts : (image : List ℕ) (seen : Seen) → NamingsOfParts image seen
of-parts image seen = record {
  maps = map-lives image seen;
  jumpstart = λ n s. alone image seen n (leads-nowhere image seen n Jumpstart s (λ f. refl));
  metadata = λ n s. alone image seen n (leads-nowhere image seen n ExtendedMetadata s (λ f. refl));
  infos = λ n i s. info-alone image seen n i s;
  addresses = λ n i s. cab-lives image seen n i s;
}
