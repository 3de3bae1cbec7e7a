-- The records by which volumes are found.
use Rattle.std.proofs.Common.{◌≡◌, ℕ, ◌+◌, ◌<◌, true, List, [], ◌∷◌, ◌++◌, map, length, get_or, take, Option, None, Some, inl, inr, refl, ap, sym, ◌∙◌, subst}
use Rattle.std.specs.Prelude.{option_map}
use Rattle.std.specs.List.{filter_map, cons_option}
use Rattle.std.proofs.lemmas.List.{take_more}
use Rattle.std.proofs.lemmas.List.Elements.{filter_map-append}
use Rattle.apfs_model.specs.Lists.{In}
use Rattle.apfs_model.proofs.Searches.{in-map, from-map}
use Rattle.apfs_model.proofs.Greatest.{some-value}
use Rattle.obj_base.specs.declared.site.Site.{Site}
use Rattle.nx_block.specs.Super.{omap_oid_of}
use Rattle.nx_ring.specs.Checkpoint.{Seen, site_of}
use Rattle.omap_map.specs.Maps.{map_records, is_whole_map, resolved_in}
use Rattle.omap_map.specs.Resolve.{resolved}
use Rattle.omap_map.specs.declared.records.OmapRecord.{OmapRecord}
use Rattle.vol_view.specs.Volumes.{Loaded}
use Rattle.vol_view.specs.declared.head.VolHead.{VolHead}
use Rattle.reach_rules.specs.declared.naming.Namer.{Namer}
use Rattle.reach_gather.specs.Volumes.Laws.{HasParts}
use Rattle.reach_gather.proofs.VolumeLemmas.Heads.{from-filter_map}
use Rattle.view_sweep.specs.declared.used.Used.{Used}
use Rattle.view_sweep.specs.Unused.{used_in}
use Rattle.reach_sweep.specs.Views.{head_of, AreVolumes}
use Rattle.reach_sweep.specs.Used.{found_of}
use Rattle.reach_sweep.specs.Composed.{record_used, records_used, IsHeadRecord, AreHeadRecords}

-- ---- what a filter gives
in-cons : {Y : Type 0} (o : Option Y) (y : Y) (ys : List Y) → In y ys → In y (cons_option o ys)
in-cons None y ys h = h
in-cons (Some z) y ys h = inr h

in-filter_map : {X Y : Type 0} (f : X → Option Y) (x : X) (y : Y) (xs : List X) → In x xs → f x ≡ Some y → In y (filter_map f xs)
in-filter_map f x y [] h e = absurd h
in-filter_map {X} {Y} f x y (z ∷ zs) (inl same) e =
    let here : f z ≡ Some y = ap f (sym same) ∙ e in
    subst (λ (o : Option Y). In y (cons_option o (filter_map f zs))) (sym here) (inl refl)
in-filter_map f x y (z ∷ zs) (inr m) e = in-cons (f z) y (filter_map f zs) (in-filter_map f x y zs m e)

-- one more volume
pub found-more : (seen : Seen) (records : List OmapRecord) (vs : List Loaded) (i : ℕ) (v : Loaded) (old : List Used) → i < length vs → get_or vs i v ≡ v → old ≡ filter_map (found_of seen records) (take i vs)
    → old ++ filter_map (found_of seen records) (v ∷ []) ≡ filter_map (found_of seen records) (take (i + 1) vs)
found-more seen records vs i v old low is before =
    let more : take (i + 1) vs ≡ take i vs ++ v ∷ [] = take_more vs i v low ∙ ap (λ y. take i vs ++ y ∷ []) is in
    ap (λ us. us ++ filter_map (found_of seen records) (v ∷ [])) before
    ∙ sym (ap (filter_map (found_of seen records)) more ∙ filter_map-append (found_of seen records) (take i vs) (v ∷ []))

-- ---- what is found
-- through a whole map an id resolves to what it does among the map's records
through-whole : (image : List ℕ) (site : Site) (block oid x : ℕ) → is_whole_map image site block ≡ true → resolved_in image site block oid x ≡ resolved (map_records image site block) oid x
unfolding resolved_in
through-whole image site block oid x e = rw e refl

-- the record that is used, of one that was found
record IsOne (map : ℕ) (o : Option OmapRecord) (u : Used) : Type 0 where
  mapping : OmapRecord
  is : o ≡ Some mapping
  used_is : u ≡ used_in map mapping

one-of : (map : ℕ) (o : Option OmapRecord) (u : Used) → option_map (used_in map) o ≡ Some u → IsOne map o u
one-of map None u e = absurd (let z : ◌≡◌ {A = Option Used} None (Some u) = e in let q : ⊥ = cc in q)
one-of map (Some r) u e = record { mapping = r; is = refl; used_is = some-value u (used_in map r) (sym e) }

-- a record by which a volume is found is that of its head
head-record : (image : List ℕ) (seen : Seen) (heads : List VolHead) (volumes : List Loaded) (records : List OmapRecord) → is_whole_map image (site_of seen) (omap_oid_of seen.nx) ≡ true → heads ≡ map head_of volumes → records ≡ map_records image (site_of seen) (omap_oid_of seen.nx)
    → (u : Used) → In u (filter_map (found_of seen records) volumes) → IsHeadRecord image seen heads (record_used u)
head-record image seen heads volumes records whole heads_are are u h =
    let block : ℕ = omap_oid_of seen.nx in
    let t = from-filter_map (found_of seen records) u volumes h in
    let volume : Loaded = t.0 in
    let one = one-of block (resolved records volume.head.oid seen.line.xid) u t.1.1 in
    record {
      head = volume.head;
      one = subst (λ (hs : List VolHead). In volume.head hs) (sym heads_are) (in-map head_of volumes volume t.1.0);
      map_is = ap (λ (x : Used). x.map) one.used_is;
      found =
          through-whole image (site_of seen) block volume.head.oid seen.line.xid whole
          ∙ (ap (λ (rs : List OmapRecord). resolved rs volume.head.oid seen.line.xid) (sym are)
          ∙ (one.is ∙ ap (λ (x : Used). Some x.mapping) (sym one.used_is)));
    }

pub found-records : (image : List ℕ) (seen : Seen) (heads : List VolHead) (volumes : List Loaded) (namer : Loaded → Namer) (records : List OmapRecord) → HasParts image seen heads → records ≡ map_records image (site_of seen) (omap_oid_of seen.nx) → AreVolumes image seen heads volumes namer
    → AreHeadRecords image seen heads (records_used (filter_map (found_of seen records) volumes))
found-records image seen heads volumes namer records p are v =
    let block : ℕ = omap_oid_of seen.nx in
    let found : List Used = filter_map (found_of seen records) volumes in
    record {
      all = λ head r h e.
          let t = from-map head_of volumes head (subst (λ (hs : List VolHead). In head hs) v.heads_are h) in
          let volume : Loaded = t.0 in
          let at : resolved records volume.head.oid seen.line.xid ≡ Some r =
          ap (λ (rs : List OmapRecord). resolved rs volume.head.oid seen.line.xid) are
          ∙ (ap (λ (x : VolHead). resolved (map_records image (site_of seen) block) x.oid seen.line.xid) (sym t.1.1)
          ∙ (sym (through-whole image (site_of seen) block head.oid seen.line.xid p.container.whole) ∙ e)) in
          in-map record_used found (used_in block r) (in-filter_map (found_of seen records) volume (used_in block r) volumes t.1.0 (ap (option_map (used_in block)) at));
      only = λ r k.
          let t = from-map record_used found r k in
          subst (IsHeadRecord image seen heads) (sym t.1.1) (head-record image seen heads volumes records p.container.whole v.heads_are are t.0 t.1.0);
    }
