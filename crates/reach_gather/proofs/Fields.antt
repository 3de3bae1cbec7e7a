-- What a field names in which 0 names nothing, and what an object map names.
use Rattle.std.proofs.Common.{◌≡◌, ℕ, Bool, true, false, List, [], ◌∷◌, ◌++◌, inl, inr, refl, ap, sym, ◌∙◌, subst}
use Rattle.std.specs.Prelude.{◌==◌, if◌then◌else◌}
use Rattle.apfs_model.specs.Lists.{In}
use Rattle.apfs_model.proofs.BoolTests.{from-equal}
use Rattle.nx_ring.specs.Checkpoint.{Seen, site_of}
use Rattle.omap_map.specs.Fields as maps
use Rattle.omap_map.specs.Maps.{map_in}
use Rattle.space_map.proofs.Loads.{unequal}
use Rattle.reach_rules.specs.declared.naming.LookUp.{LookUp}
use Rattle.reach_rules.specs.declared.naming.LookUp.TheVariants.{ByBlock}
use Rattle.reach_rules.specs.declared.naming.Object.TheVariants.{InBlock}
use Rattle.reach_rules.specs.declared.naming.Namer.{Namer}
use Rattle.reach_rules.specs.declared.naming.Namer.TheVariants.{Whole}
use Rattle.reach_rules.specs.declared.naming.TreeKind.TheVariants.{MapRecords, MapSnapshots}
use Rattle.reach_rules.specs.declared.naming.Expected.{Expected}
use Rattle.reach_rules.specs.declared.naming.Expected.TheVariants.{ContainerMap, VolumeMap, TreeRoot}
use Rattle.reach_rules.specs.declared.naming.Naming.{Naming}
use Rattle.reach_rules.specs.Naming.{naming}
use Rattle.reach_rules.specs.Next.{next, unless_zero}
use Rattle.reach_rules.specs.Live.{IsLive, led}
use Rattle.reach_rules.specs.Owners.{owners_through}
use Rattle.reach_rules.specs.PoolOwners.{pool_owners_through}
use Rattle.reach_gather.specs.Namings.{IsPlainNaming}
use Rattle.reach_gather.specs.Parts.{ExpectsMap}
use Rattle.reach_gather.specs.ViewParts.{is_in_view}
use Rattle.reach_gather.specs.Volumes.Parts.{IsMapPart}
use Rattle.reach_gather.specs.Held.{Held, GrewBy}
use Rattle.reach_gather.specs.Adds.{Adds, AreLive}
use Rattle.reach_gather.specs.Steps.{block_owner}
use Rattle.reach_gather.proofs.Growing.{adds-none, adds-join, adds-step, adds-as, IsRightRoot}
use Rattle.reach_gather.proofs.Owning.{own-block, pool-block, OwnBlocks, grewby-blocks}

pub unless-by : (b : Bool) (ns : List Naming) → b ≡ true → (if b then [] else ns) ≡ []
unless-by true ns e = refl
unless-by false ns e = absurd (cc)

pub unless-not : (b : Bool) (ns : List Naming) → b ≡ false → (if b then [] else ns) ≡ ns
unless-not true ns e = absurd (cc)
unless-not false ns e = refl

pub unless-none : (namer : Namer) (at : ℕ) (e : Expected) (how : LookUp) (oid : ℕ) → oid ≡ 0 → unless_zero namer at e how oid ≡ []
unless-none namer at e how oid zero = unless-by (oid == 0) (naming namer at e how oid ∷ []) (from-equal oid 0 zero)

pub unless-some : (namer : Namer) (at : ℕ) (e : Expected) (how : LookUp) (oid : ℕ) → (oid ≡ 0 → ⊥) → unless_zero namer at e how oid ≡ naming namer at e how oid ∷ []
unless-some namer at e how oid not = unless-not (oid == 0) (naming namer at e how oid ∷ []) (unequal oid not)

-- nothing is added where nothing is named
pub adds-zero : (image : List ℕ) (seen : Seen) (namer : Namer) (at : ℕ) (e : Expected) (how : LookUp) (oid : ℕ) (a : Held) → oid ≡ 0 → Adds image seen (unless_zero namer at e how oid) [] a a
adds-zero image seen namer at e how oid a zero = adds-as image seen [] (unless_zero namer at e how oid) [] a a (unless-none namer at e how oid zero) (adds-none image seen a)

pub adds-some : (image : List ℕ) (seen : Seen) (namer : Namer) (at : ℕ) (e : Expected) (how : LookUp) (oid : ℕ) (rs : List Naming) (a b : Held) → (oid ≡ 0 → ⊥) → Adds image seen (naming namer at e how oid ∷ []) rs a b → Adds image seen (unless_zero namer at e how oid) rs a b
adds-some image seen namer at e how oid rs a b not g = adds-as image seen (naming namer at e how oid ∷ []) (unless_zero namer at e how oid) rs a b (unless-some namer at e how oid not) g

pub live-some : (image : List ℕ) (seen : Seen) (namer : Namer) (at : ℕ) (e : Expected) (how : LookUp) (oid : ℕ) → (oid ≡ 0 → ⊥) → AreLive image seen (unless_zero namer at e how oid) → IsLive image seen (naming namer at e how oid)
live-some image seen namer at e how oid not live = live (naming namer at e how oid) (subst (λ ns. In (naming namer at e how oid) ns) (sym (unless-some namer at e how oid not)) (inl refl))

-- what a live naming leads to is live
pub led-to : (image : List ℕ) (seen : Seen) (n : Naming) (ns : List Naming) → IsLive image seen n → next image seen n ≡ ns → AreLive image seen ns
led-to image seen n ns live e = λ m h. led n m live (subst (λ xs. In m xs) (sym e) h)

-- a naming owns its block, and nothing else
abbrev pub owners_alone : List ℕ → Seen → Naming → Type 0
owners_alone image seen n = (owners_through image seen n ≡ block_owner n ∷ []) × (pool_owners_through image seen n ≡ [])

-- a physical object that owns its block alone
pub block-grew : (image : List ℕ) (seen : Seen) (n : Naming) (a b : Held) → OwnBlocks image seen (n ∷ []) → b.namings ≡ a.namings ++ n ∷ [] → b.owners ≡ a.owners ++ block_owner n ∷ [] → b.pool_owners ≡ a.pool_owners → GrewBy image seen (n ∷ []) a b
block-grew image seen n a b own p q r = grewby-blocks image seen (n ∷ []) a b own p q r

pub one-owns : (image : List ℕ) (seen : Seen) (n : Naming) → owners_alone image seen n → OwnBlocks image seen (n ∷ [])
one-owns image seen n o = record {
  owners = λ m h. elim h as (λ _. owners_through image seen m ≡ block_owner m ∷ []) [ inl e ↦ subst (λ x. owners_through image seen x ≡ block_owner x ∷ []) (sym e) o.0 | inr k ↦ absurd k ];
  pool_owners = λ m h. elim h as (λ _. pool_owners_through image seen m ≡ []) [ inl e ↦ subst (λ x. pool_owners_through image seen x ≡ []) (sym e) o.1 | inr k ↦ absurd k ];
}

-- ---- object maps
map-owns : (image : List ℕ) (seen : Seen) (n : Naming) → n.how ≡ ByBlock → ExpectsMap n.expected → IsPlainNaming image seen n → owners_alone image seen n
map-owns image seen n how (inl e) p = (own-block image seen n ContainerMap p how e refl, pool-block image seen n ContainerMap p how e refl)
map-owns image seen n how (inr e) p = (own-block image seen n VolumeMap p how e refl, pool-block image seen n VolumeMap p how e refl)

no-root : (image : List ℕ) (seen : Seen) (n : Naming) → ExpectsMap n.expected → IsRightRoot image seen n
no-root image seen n (inl e) = λ kind is. absurd (let z : ContainerMap ≡ TreeRoot kind = sym e ∙ is in let q : ⊥ = cc in q)
no-root image seen n (inr e) = λ kind is. absurd (let z : VolumeMap ≡ TreeRoot kind = sym e ∙ is in let q : ⊥ = cc in q)

pub map-adds : (image : List ℕ) (seen : Seen) (n : Naming) (tree past : ℕ) (a b c d : Held) → n.how ≡ ByBlock → ExpectsMap n.expected → IsMapPart image seen n
    → tree ≡ maps.tree_of (map_in image (site_of seen) n.oid) → past ≡ maps.snap_tree_of (map_in image (site_of seen) n.oid)
    → b.namings ≡ a.namings ++ n ∷ [] → b.owners ≡ a.owners ++ block_owner n ∷ [] → b.pool_owners ≡ a.pool_owners
    → Adds image seen (naming (Whole (InBlock n.oid)) 48 (TreeRoot MapRecords) ByBlock tree ∷ []) [] b c
    → Adds image seen (unless_zero (Whole (InBlock n.oid)) 56 (TreeRoot MapSnapshots) ByBlock past) [] c d
    → Adds image seen (n ∷ []) [] a d
map-adds image seen n tree past a b c d how expects part is_tree is_past p q r records snapshots =
    let namer : Namer = Whole (InBlock n.oid) in
    let leads : next image seen n ≡ naming namer 48 (TreeRoot MapRecords) ByBlock tree ∷ unless_zero namer 56 (TreeRoot MapSnapshots) ByBlock past =
    part.leads ∙ (λ i. naming namer 48 (TreeRoot MapRecords) ByBlock (sym is_tree i) ∷ unless_zero namer 56 (TreeRoot MapSnapshots) ByBlock (sym is_past i)) in
    adds-step image seen n [] a b d part.plain (ap is_in_view how) (no-root image seen n expects) (block-grew image seen n a b (one-owns image seen n (map-owns image seen n how expects part.plain)) p q r)
    (adds-as image seen (naming namer 48 (TreeRoot MapRecords) ByBlock tree ∷ unless_zero namer 56 (TreeRoot MapSnapshots) ByBlock past) (next image seen n) [] b d leads
    (adds-join image seen (naming namer 48 (TreeRoot MapRecords) ByBlock tree ∷ []) (unless_zero namer 56 (TreeRoot MapSnapshots) ByBlock past) [] [] b c d records snapshots))
