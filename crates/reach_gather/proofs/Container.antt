-- The parts of a container, and all of them.
use Rattle.std.proofs.Common.{◌≡◌, ℕ, Bool, true, false, ◌==◌, List, [], ◌∷◌, ◌++◌, map, Option, Some, None, ◌⊎◌, inl, inr, refl, ap, sym, ◌∙◌, subst, if◌then◌else◌}
use Rattle.std.specs.Prelude.{option_map, option_and_then}
use Rattle.apfs_model.specs.Blocks.{in_container}
use Rattle.apfs_model.specs.Lists.{In, through}
use Rattle.obj_base.specs.declared.site.Site.{Site}
use Rattle.nx_ring.specs.Objects.{Place}
use Rattle.nx_ring.specs.Checkpoint.{Seen, site_of, eph}
use Rattle.space_map.specs.Fields.{cabs_of, cibs_of}
use Rattle.space_pool.specs.Queues.{one_block}
use Rattle.reach_rules.specs.declared.naming.LookUp.TheVariants.{ByBlock, ByMapping}
use Rattle.reach_rules.specs.declared.naming.Object.TheVariants.{InBlock, OfId}
use Rattle.reach_rules.specs.declared.naming.Namer.{Namer}
use Rattle.reach_rules.specs.declared.naming.Namer.TheVariants.{Whole}
use Rattle.reach_rules.specs.declared.naming.Expected.{Expected}
use Rattle.reach_rules.specs.declared.naming.Expected.TheVariants.{SpaceManager, AddressBlock, InfoBlock}
use Rattle.reach_rules.specs.declared.naming.Naming.{Naming}
use Rattle.reach_rules.specs.Resolved.{Found, resolved, standing, found_by, found_physical, found_ephemeral, is_node, mapped, mapped_node}
use Rattle.reach_rules.specs.Tested.{Answer, tested}
use Rattle.reach_rules.specs.Next.{names, next, address_naming, addresses_in, address_namings}
use Rattle.reach_rules.specs.Live.{IsSoundFor}
use Rattle.reach_rules.specs.Features.{used_features, field_features, tested_features, features_through}
use Rattle.reach_rules.proofs.Looks.{standing-by}
use Rattle.reach_rules.proofs.Nexts.{Each, each-in, each-if, each-map}
use Rattle.reach_rules.proofs.SpaceDecided.{ok-features}
use Rattle.reach_gather.specs.Namings.{IsPlainNaming, AreCounted}
use Rattle.reach_gather.specs.Joined.{ArePart}
use Rattle.reach_gather.specs.Container.{pool_queue_naming, main_queue_naming, block_namings, ExpectsNone, PlainLeads, IsManagerPart, AreBlocksPart}
use Rattle.reach_gather.proofs.Parts.{of-parts, sound-next}
use Rattle.reach_gather.proofs.Counted.{counts-self, counts-step}
use Rattle.reach_gather.proofs.Joined.{part-join, part-step, part-listed, part-all}
use Rattle.reach_gather.proofs.OfKinds.{standing-of}

-- ---- what a plain naming leads to
pub plain-leads : (image : List ℕ) (seen : Seen) (n : Naming) (e : Expected) (p : IsPlainNaming image seen n) → n.expected ≡ e → next image seen n ≡ names image seen n.how e (Whole p.object.object) p.object.bytes
plain-leads image seen n e p s =
    sound-next image seen n p.object p.found p.sound ∙ ap (λ x. names image seen n.how x (Whole p.object.object) p.object.bytes) s

-- a part by what a plain naming leads to
lead : (image : List ℕ) (seen : Seen) (n : Naming) (e : Expected) (xs rs : List Naming) (p : IsPlainNaming image seen n) → n.expected ≡ e →
    ArePart image seen (names image seen n.how e (Whole p.object.object) p.object.bytes) xs rs → ArePart image seen (n ∷ []) (n ∷ xs) rs
lead image seen n e xs rs p s a = part-step image seen n xs rs p (subst (λ ns. ArePart image seen ns xs rs) (sym (plain-leads image seen n e p s)) a)

-- ---- to what it resolves
pub plain-only : (image : List ℕ) (seen : Seen) (n : Naming) (p q : IsPlainNaming image seen n) → p.object ≡ q.object
plain-only image seen n p q = let e : Some p.object ≡ Some q.object = sym p.found ∙ q.found in cc

pub plain-block : (image : List ℕ) (seen : Seen) (n : Naming) (p : IsPlainNaming image seen n) → n.how ≡ ByBlock → p.object ≡ standing image (site_of seen) (InBlock n.oid) n.oid
unfolding resolved
plain-block image seen n p h =
    let by : found_physical image (site_of seen) n.oid ≡ Some p.object = subst (λ how. found_by image seen how n.expected n.oid ≡ Some p.object) h p.found in
    standing-by image (site_of seen) n.oid p.object by

-- what a mapping finds is the object of its id
of-bytes : (oid : ℕ) (bytes : List ℕ) (o : Option ℕ) (f : Found) → option_map (λ block. record { object = OfId oid; block = block; bytes = bytes }) o ≡ Some f → f.object ≡ OfId oid
of-bytes oid bytes None f h = absurd (let z : ◌≡◌ {A = Option Found} None (Some f) = h in let q : ⊥ = cc in q)
of-bytes oid bytes (Some b) f h =
    let z : ◌≡◌ {A = Option Found} (Some (record { object = OfId oid; block = b; bytes = bytes })) (Some f) = h in
    let s : ◌≡◌ {A = Found} (record { object = OfId oid; block = b; bytes = bytes }) f = cc in
    ap (λ (x : Found). x.object) (sym s)

of-place : (image : List ℕ) (site : Site) (oid : ℕ) (place : Place) (b : Bool) (f : Found) → (if b then mapped_node image site oid place else mapped site oid place) ≡ Some f → f.object ≡ OfId oid
of-place image site oid place true f h = standing-of image site oid (one_block site place) f h
of-place image site oid place false f h = of-bytes oid place.bytes _ f h

of-id : (image : List ℕ) (site : Site) (e : Expected) (oid : ℕ) (o : Option Place) (f : Found) → option_and_then (λ (place : Place). if is_node e then mapped_node image site oid place else mapped site oid place) o ≡ Some f → f.object ≡ OfId oid
of-id image site e oid None f h = absurd (let z : ◌≡◌ {A = Option Found} None (Some f) = h in let q : ⊥ = cc in q)
of-id image site e oid (Some place) f h = of-place image site oid place (is_node e) f h

pub plain-id : (image : List ℕ) (seen : Seen) (n : Naming) (p : IsPlainNaming image seen n) → n.how ≡ ByMapping → p.object.object ≡ OfId n.oid
unfolding resolved
plain-id image seen n p h =
    let by : found_ephemeral image seen n.expected n.oid ≡ Some p.object = subst (λ how. found_by image seen how n.expected n.oid ≡ Some p.object) h p.found in
    of-id image (site_of seen) n.expected n.oid (eph seen n.oid) p.object by

-- ---- which are plain
pub plain-by : (image : List ℕ) (seen : Seen) (n : Naming) (f : Found) → resolved image seen n ≡ Some f → IsSoundFor seen n f → used_features (site_of seen) f.object ≡ [] → field_features image seen n.expected f.block f.bytes ≡ [] → IsPlainNaming image seen n
unfolding features_through
plain-by image seen n f found sound used fields =
    let a : Answer = tested (site_of seen) n.expected n.oid f.bytes in
    record {
      object = f;
      found = found;
      sound = sound;
      plain = ap (λ o. through o (λ (g : Found). used_features (site_of seen) g.object ++ tested_features image seen n.expected g (tested (site_of seen) n.expected n.oid g.bytes))) found
          ∙ (ap (λ xs. xs ++ tested_features image seen n.expected f a) used
          ∙ (ok-features image seen n.expected f a sound ∙ fields));
    }

pub block-stands : (image : List ℕ) (seen : Seen) (n : Naming) → n.how ≡ ByBlock → in_container (site_of seen).blocks n.oid ≡ Some n.oid → resolved image seen n ≡ Some (standing image (site_of seen) (InBlock n.oid) n.oid)
unfolding resolved
block-stands image seen n how inside =
    ap (λ h. found_by image seen h n.expected n.oid) how
    ∙ ap (λ (o : Option ℕ). option_map (λ b. standing image (site_of seen) (InBlock b) b) o) inside

pub plain-facts : (image : List ℕ) (seen : Seen) → PlainLeads image seen
plain-facts image seen = record { leads = plain-leads image seen; block = plain-block image seen; id = plain-id image seen; only = plain-only image seen; by = plain-by image seen; stands = block-stands image seen }

-- ---- what names nothing
none-listed : (image : List ℕ) (seen : Seen) (n : Naming) → IsPlainNaming image seen n → (m : Naming) → In m (n ∷ []) → IsPlainNaming image seen m
none-listed image seen n p m (inl e) = subst (IsPlainNaming image seen) (sym e) p
none-listed image seen n p m (inr k) = absurd k

alone-part : (image : List ℕ) (seen : Seen) (n : Naming) → IsPlainNaming image seen n → ExpectsNone n.expected → ArePart image seen (n ∷ []) (n ∷ []) []
alone-part image seen n p (inl e) = part-listed image seen (n ∷ []) (n ∷ []) ((of-parts image seen).jumpstart n e) (counts-self (next image seen) (n ∷ [])) (none-listed image seen n p)
alone-part image seen n p (inr (inl e)) = part-listed image seen (n ∷ []) (n ∷ []) ((of-parts image seen).metadata n e) (counts-self (next image seen) (n ∷ [])) (none-listed image seen n p)
alone-part image seen n p (inr (inr (i, e))) = part-listed image seen (n ∷ []) (n ∷ []) ((of-parts image seen).infos n i e) (counts-self (next image seen) (n ∷ [])) (none-listed image seen n p)

-- ---- the space manager
abbrev Tells : Naming → Type 0
Tells n = ((i : ℕ) × (n.expected ≡ InfoBlock i)) ⊎ ((i : ℕ) × (n.expected ≡ AddressBlock i))

address-tells : (namer : Namer) (manager : List ℕ) → Each Tells (address_namings namer manager)
address-tells namer manager =
    each-if Tells (cabs_of manager == 0) (map (address_naming InfoBlock namer manager) (addresses_in manager (cibs_of manager))) (map (address_naming AddressBlock namer manager) (addresses_in manager (cabs_of manager)))
    (each-map Tells (address_naming InfoBlock namer manager) (addresses_in manager (cibs_of manager)) (λ i. inl (i, refl)))
    (each-map Tells (address_naming AddressBlock namer manager) (addresses_in manager (cabs_of manager)) (λ i. inr (i, refl)))

block-plain : (image : List ℕ) (seen : Seen) (n : Naming) → IsPlainNaming image seen n → ((m : Naming) → In m (next image seen n) → IsPlainNaming image seen m) → (m : Naming) → In m (block_namings image seen n) → IsPlainNaming image seen m
block-plain image seen n p more m (inl e) = subst (IsPlainNaming image seen) (sym e) p
block-plain image seen n p more m (inr h) = more m h

-- a block and those that it names, which name no more
block-counts : (image : List ℕ) (seen : Seen) (n : Naming) → AreCounted image seen (n ∷ []) (block_namings image seen n) []
block-counts image seen n = counts-step (next image seen) n (next image seen n) [] (counts-self (next image seen) (next image seen n))

block-part : (image : List ℕ) (seen : Seen) (n : Naming) → IsPlainNaming image seen n → ((m : Naming) → In m (next image seen n) → IsPlainNaming image seen m) → Tells n → ArePart image seen (n ∷ []) (block_namings image seen n) []
block-part image seen n p more (inl (i, e)) =
    subst (λ ns. ArePart image seen (n ∷ []) (n ∷ ns) []) (sym (plain-leads image seen n (InfoBlock i) p e)) (alone-part image seen n p (inr (inr (i, e))))
block-part image seen n p more (inr (i, e)) = part-listed image seen (n ∷ []) (block_namings image seen n) ((of-parts image seen).addresses n i e) (block-counts image seen n) (block-plain image seen n p more)

pub blocks-part : (image : List ℕ) (seen : Seen) → AreBlocksPart image seen
blocks-part image seen namer manager plain more =
    let ns : List Naming = address_namings namer manager in
    part-all image seen (block_namings image seen) ns (λ n h. block-part image seen n (plain n h) (λ m k. more n m h k) (each-in Tells ns n (address-tells namer manager) h))

pub manager-part : (image : List ℕ) (seen : Seen) → IsManagerPart image seen
manager-part image seen n pool main blocks p s a b c =
    let me : Namer = Whole p.object.object in
    let bytes : List ℕ = p.object.bytes in
    lead image seen n SpaceManager (pool ++ (main ++ blocks)) [] p s
    (part-join image seen (pool_queue_naming me bytes) (main_queue_naming me bytes ++ address_namings me bytes) pool (main ++ blocks) [] [] a
    (part-join image seen (main_queue_naming me bytes) (address_namings me bytes) main blocks [] [] b c))
