-- The live namings are the rows'; each id is named once, and each record of the maps is used.
use Rattle.std.proofs.Common.{◌≡◌, ℕ, true, not, List, [], ◌∷◌, map, Option, Some, inl, inr, refl, ap, sym, ◌∙◌, subst, is_ok}
use Rattle.std.specs.Prelude.{filter}
use Rattle.apfs_model.specs.Lists.{In, has, is_distinct}
use Rattle.apfs_model.proofs.BoolTests.{clash, left-true, right-true, not-true}
use Rattle.apfs_model.proofs.Searches.{in-has, in-map, in-filter}
use Rattle.obj_base.specs.declared.stop.Within.{Within}
use Rattle.obj_base.specs.declared.stop.Within.TheVariants.{Physical, Ephemeral, Container, Volume}
use Rattle.nx_ring.specs.Checkpoint.{site_of}
use Rattle.omap_map.specs.Maps.{map_records}
use Rattle.omap_map.specs.declared.records.OmapRecord.{OmapRecord}
use Rattle.vol_view.specs.Fields as volumes
use Rattle.reach_rules.specs.declared.naming.Object.TheVariants.{OfRecord}
use Rattle.reach_rules.specs.declared.naming.Expected.TheVariants.{VolumeIn}
use Rattle.reach_rules.specs.declared.naming.Naming.{Naming}
use Rattle.reach_rules.specs.Resolved.{Found, resolved}
use Rattle.reach_rules.specs.Next.{next}
use Rattle.reach_rules.specs.Live.{rooted, led, IsLive, NamesSound}
use Rattle.reach_rules.specs.Maps.{IsMapOf, GivesMap, AreUsed}
use Rattle.reach_rules.specs.Faults.{is_once}
use Rattle.reach_rules.specs.Accounted.{AreNamed}
use Rattle.reach_rules.proofs.Nexts.{Each, each-in}
use Rattle.img_format.specs.declared.spec.Spec.{Spec}
use Rattle.img_format.specs.Valid.{IsValid}
use Rattle.fresh_law.specs.Site.{block_at, site}
use Rattle.fresh_law.specs.Checkpoint.{seen}
use Rattle.fresh_law.specs.Facts.{IsFresh}
use Rattle.fresh_law.proofs.Sites.{site-is}
use Rattle.fresh_law.proofs.Maps.{container-map, volume-map}
use Rattle.fresh_law.proofs.Roots as known
use Rattle.fresh_law.proofs.Rows.{IsRow, next-is, all-rows, roots-are}

-- a row has a naming
pub record Has (n : Naming) : Type 0 where
  pub row : known.Row
  pub one : In row known.rows
  pub same : row.naming ≡ n

as-row : (row : known.Row) → In row known.rows → Has row.naming
as-row row one = record { row = row; one = one; same = refl }

-- where each row stands
pub at-manager : In known.manager_row known.rows
at-manager = inl refl

pub at-map : In known.map_row known.rows
at-map = inr (inl refl)

pub at-reaper : In known.reaper_row known.rows
at-reaper = inr (inr (inl refl))

pub at-volume : In known.volume_row known.rows
at-volume = inr (inr (inr (inl refl)))

pub at-pool_queue : In known.pool_queue_row known.rows
at-pool_queue = inr (inr (inr (inr (inl refl))))

pub at-main_queue : In known.main_queue_row known.rows
at-main_queue = inr (inr (inr (inr (inr (inl refl)))))

pub at-info : In known.info_row known.rows
at-info = inr (inr (inr (inr (inr (inr (inl refl))))))

pub at-map_tree : In known.map_tree_row known.rows
at-map_tree = inr (inr (inr (inr (inr (inr (inr (inl refl)))))))

pub at-volume_map : In known.volume_map_row known.rows
at-volume_map = inr (inr (inr (inr (inr (inr (inr (inr (inl refl))))))))

pub at-files : In known.files_row known.rows
at-files = inr (inr (inr (inr (inr (inr (inr (inr (inr (inl refl)))))))))

pub at-extents : In known.extents_row known.rows
at-extents = inr (inr (inr (inr (inr (inr (inr (inr (inr (inr (inl refl))))))))))

pub at-snaps : In known.snaps_row known.rows
at-snaps = inr (inr (inr (inr (inr (inr (inr (inr (inr (inr (inr (inl refl)))))))))))

pub at-volume_tree : In known.volume_tree_row known.rows
at-volume_tree = inr (inr (inr (inr (inr (inr (inr (inr (inr (inr (inr (inr (inl refl))))))))))))

first-have : Each Has known.first_namings
first-have = (as-row known.manager_row at-manager, (as-row known.map_row at-map, (as-row known.reaper_row at-reaper, (as-row known.volume_row at-volume, tt))))

abbrev Closed : known.Row → Type 0
Closed row = Each Has row.children

all-closed : Each Closed known.rows
all-closed = ((as-row known.pool_queue_row at-pool_queue, (as-row known.main_queue_row at-main_queue, (as-row known.info_row at-info, tt))), ((as-row known.map_tree_row at-map_tree, tt), (tt, ((as-row known.volume_map_row at-volume_map, (as-row known.files_row at-files, (as-row known.extents_row at-extents, (as-row known.snaps_row at-snaps, tt)))), (tt, (tt, (tt, (tt, ((as-row known.volume_tree_row at-volume_tree, tt), (tt, (tt, (tt, (tt, tt)))))))))))))

-- a live naming is a row's
pub live-has : (spec : Spec) (image : List ℕ) → IsValid spec → IsFresh spec image → (n : Naming) → IsLive image (seen image) n → Has n
live-has spec image v f n (rooted m h) = each-in Has known.first_namings n first-have (subst (λ ns. In n ns) (roots-are spec image f) h)
live-has spec image v f n (led m k l h) =
    let r = live-has spec image v f m l in
    let leads : In n (next image (seen image) r.row.naming) = subst (λ x. In n (next image (seen image) x)) (sym r.same) h in
    let i = each-in (IsRow image) known.rows r.row (all-rows spec image v f) r.one in
    each-in Has r.row.children n (each-in Closed known.rows r.row all-closed r.one) (subst (λ ns. In n ns) (next-is image r.row i) leads)

-- and each row's naming is live
record IsLiveRow (image : List ℕ) (row : known.Row) : Type 0 where
  live : IsLive image (seen image) row.naming

pub first-live : (spec : Spec) (image : List ℕ) → IsFresh spec image → (n : Naming) → In n known.first_namings → IsLive image (seen image) n
first-live spec image f n h = rooted n (subst (λ ns. In n ns) (sym (roots-are spec image f)) h)

pub child-live : (spec : Spec) (image : List ℕ) → IsValid spec → IsFresh spec image → (row : known.Row) → In row known.rows → IsLive image (seen image) row.naming → (n : Naming) → In n row.children → IsLive image (seen image) n
child-live spec image v f row one l n h =
    led row.naming n l (subst (λ ns. In n ns) (sym (next-is image row (each-in (IsRow image) known.rows row (all-rows spec image v f) one))) h)

manager-live : (spec : Spec) (image : List ℕ) → IsValid spec → IsFresh spec image → IsLive image (seen image) known.to_manager
manager-live spec image v f = first-live spec image f known.to_manager (inl refl)

map-live : (spec : Spec) (image : List ℕ) → IsValid spec → IsFresh spec image → IsLive image (seen image) known.to_map
map-live spec image v f = first-live spec image f known.to_map (inr (inl refl))

reaper-live : (spec : Spec) (image : List ℕ) → IsValid spec → IsFresh spec image → IsLive image (seen image) known.to_reaper
reaper-live spec image v f = first-live spec image f known.to_reaper (inr (inr (inl refl)))

volume-live : (spec : Spec) (image : List ℕ) → IsValid spec → IsFresh spec image → IsLive image (seen image) known.to_volume
volume-live spec image v f = first-live spec image f known.to_volume (inr (inr (inr (inl refl))))

pool_queue-live : (spec : Spec) (image : List ℕ) → IsValid spec → IsFresh spec image → IsLive image (seen image) known.to_pool_queue
pool_queue-live spec image v f = child-live spec image v f known.manager_row at-manager (manager-live spec image v f) known.to_pool_queue (inl refl)

main_queue-live : (spec : Spec) (image : List ℕ) → IsValid spec → IsFresh spec image → IsLive image (seen image) known.to_main_queue
main_queue-live spec image v f = child-live spec image v f known.manager_row at-manager (manager-live spec image v f) known.to_main_queue (inr (inl refl))

info-live : (spec : Spec) (image : List ℕ) → IsValid spec → IsFresh spec image → IsLive image (seen image) known.to_info
info-live spec image v f = child-live spec image v f known.manager_row at-manager (manager-live spec image v f) known.to_info (inr (inr (inl refl)))

map_tree-live : (spec : Spec) (image : List ℕ) → IsValid spec → IsFresh spec image → IsLive image (seen image) known.to_map_tree
map_tree-live spec image v f = child-live spec image v f known.map_row at-map (map-live spec image v f) known.to_map_tree (inl refl)

volume_map-live : (spec : Spec) (image : List ℕ) → IsValid spec → IsFresh spec image → IsLive image (seen image) known.to_volume_map
volume_map-live spec image v f = child-live spec image v f known.volume_row at-volume (volume-live spec image v f) known.to_volume_map (inl refl)

files-live : (spec : Spec) (image : List ℕ) → IsValid spec → IsFresh spec image → IsLive image (seen image) known.to_files
files-live spec image v f = child-live spec image v f known.volume_row at-volume (volume-live spec image v f) known.to_files (inr (inl refl))

extents-live : (spec : Spec) (image : List ℕ) → IsValid spec → IsFresh spec image → IsLive image (seen image) known.to_extents
extents-live spec image v f = child-live spec image v f known.volume_row at-volume (volume-live spec image v f) known.to_extents (inr (inr (inl refl)))

snaps-live : (spec : Spec) (image : List ℕ) → IsValid spec → IsFresh spec image → IsLive image (seen image) known.to_snaps
snaps-live spec image v f = child-live spec image v f known.volume_row at-volume (volume-live spec image v f) known.to_snaps (inr (inr (inr (inl refl))))

volume_tree-live : (spec : Spec) (image : List ℕ) → IsValid spec → IsFresh spec image → IsLive image (seen image) known.to_volume_tree
volume_tree-live spec image v f = child-live spec image v f known.volume_map_row at-volume_map (volume_map-live spec image v f) known.to_volume_tree (inl refl)

pub rows-live : (spec : Spec) (image : List ℕ) → IsValid spec → IsFresh spec image → (row : known.Row) → In row known.rows → IsLive image (seen image) row.naming
rows-live spec image v f row one = (each-in (IsLiveRow image) known.rows row (record { live = manager-live spec image v f }, (record { live = map-live spec image v f }, (record { live = reaper-live spec image v f }, (record { live = volume-live spec image v f }, (record { live = pool_queue-live spec image v f }, (record { live = main_queue-live spec image v f }, (record { live = info-live spec image v f }, (record { live = map_tree-live spec image v f }, (record { live = volume_map-live spec image v f }, (record { live = files-live spec image v f }, (record { live = extents-live spec image v f }, (record { live = snaps-live spec image v f }, (record { live = volume_tree-live spec image v f }, tt))))))))))))) one).live

-- what a row says of its naming
pub row-of : (spec : Spec) (image : List ℕ) → IsValid spec → IsFresh spec image → (row : known.Row) → In row known.rows → IsRow image row
row-of spec image v f row one = each-in (IsRow image) known.rows row (all-rows spec image v f) one

row-sound : (spec : Spec) (image : List ℕ) → IsValid spec → IsFresh spec image → (row : known.Row) → In row known.rows → NamesSound image (seen image) row.naming (known.found image row)
row-sound spec image v f row one =
    let i = row-of spec image v f row one in
    record { names = record { live = rows-live spec image v f row one; found = i.named }; sound = ap is_ok i.sound }

pub all-named : (spec : Spec) (image : List ℕ) → IsValid spec → IsFresh spec image → (n : Naming) → IsLive image (seen image) n → (o : Found) × NamesSound image (seen image) n o
all-named spec image v f n l =
    let r = live-has spec image v f n l in
    (known.found image r.row, subst (λ x. NamesSound image (seen image) x (known.found image r.row)) r.same (row-sound spec image v f r.row r.one))

-- ---- each id is named once
-- numbers that differ from one another tell the items of a list apart
pub distinct-by : {X : Type 0} (number : X → ℕ) (xs : List X) → is_distinct (map number xs) ≡ true → (x y : X) → In x xs → In y xs → number x ≡ number y → x ≡ y
distinct-by number [] d x y h k e = absurd h
distinct-by number (z ∷ zs) d x y (inl a) (inl b) e = a ∙ sym b
distinct-by number (z ∷ zs) d x y (inl a) (inr k) e =
    clash (has (map number zs) (number z))
    (in-has (number z) (map number zs) (subst (λ n. In n (map number zs)) (sym e ∙ ap number a) (in-map number zs y k)))
    (not-true (has (map number zs) (number z)) (left-true (not (has (map number zs) (number z))) (is_distinct (map number zs)) d))
distinct-by number (z ∷ zs) d x y (inr h) (inl b) e =
    clash (has (map number zs) (number z))
    (in-has (number z) (map number zs) (subst (λ n. In n (map number zs)) (e ∙ ap number b) (in-map number zs x h)))
    (not-true (has (map number zs) (number z)) (left-true (not (has (map number zs) (number z))) (is_distinct (map number zs)) d))
distinct-by number (z ∷ zs) d x y (inr h) (inr k) e = distinct-by number zs (right-true (not (has (map number zs) (number z))) (is_distinct (map number zs)) d) x y h k e

-- the namings of which an id has one
abbrev namings : List Naming
namings = map (λ (r : known.Row). r.naming) known.rows

abbrev once_namings : List Naming
once_namings = filter (λ (n : Naming). is_once n.how) namings

once-distinct : is_distinct (map (λ (n : Naming). n.oid) once_namings) ≡ true
once-distinct = refl

listed : (n : Naming) → Has n → is_once n.how ≡ true → In n once_namings
listed n h e = in-filter (λ (m : Naming). is_once m.how) n namings (subst (λ m. In m namings) h.same (in-map (λ (r : known.Row). r.naming) known.rows h.row h.one)) e

pub all-once : (spec : Spec) (image : List ℕ) → IsValid spec → IsFresh spec image → (m n : Naming) → IsLive image (seen image) m → IsLive image (seen image) n → is_once m.how ≡ true → m.how ≡ n.how → m.oid ≡ n.oid → m ≡ n
all-once spec image v f m n l k o how oid =
    distinct-by (λ (x : Naming). x.oid) once_namings once-distinct m n
    (listed m (live-has spec image v f m l) o) (listed n (live-has spec image v f n k) (subst (λ h. is_once h ≡ true) how o)) oid

-- ---- each record is used
-- what a live naming finds is what its row says
pub found-is : (spec : Spec) (image : List ℕ) → IsValid spec → IsFresh spec image → (n : Naming) (o : Found) → IsLive image (seen image) n → resolved image (seen image) n ≡ Some o → (h : Has n) → o ≡ known.found image h.row
found-is spec image v f n o l e h =
    let named = (row-of spec image v f h.row h.one).named in
    let q : ◌≡◌ {A = Option Found} (Some o) (Some (known.found image h.row)) = sym e ∙ subst (λ x. resolved image (seen image) x ≡ Some (known.found image h.row)) h.same named in
    cc

used-by : (spec : Spec) (image : List ℕ) → IsValid spec → IsFresh spec image → (row : known.Row) → In row known.rows → (map : ℕ) (rec : OmapRecord) → row.object ≡ OfRecord map rec → map_records image (site spec) map ≡ rec ∷ [] → AreUsed image (seen image) map
used-by spec image v f row one map rec o records r h kept =
    let same : map_records image (site_of (seen image)) map ≡ rec ∷ [] = ap (λ s. map_records image s map) (site-is spec image f) ∙ records in
    let listed : In r (rec ∷ []) = subst (λ rs. In r rs) same h in
    let e : r ≡ rec = elim listed as (λ _. r ≡ rec) [ inl e ↦ e | inr k ↦ absurd k ] in
    record {
      naming = row.naming;
      object = known.found image row;
      names = (row-sound spec image v f row one).names;
      record_is = o ∙ ap (λ x. OfRecord map x) (sym e);
    }

-- a row that expects a volume is the volume's
abbrev IsVolumeRow : known.Row → Type 0
IsVolumeRow row = (slot : ℕ) → row.naming.expected ≡ VolumeIn slot → row.block ≡ 51

volume-rows : Each IsVolumeRow known.rows
volume-rows = (λ slot e. absurd (let q : ⊥ = cc in q), (λ slot e. absurd (let q : ⊥ = cc in q), (λ slot e. absurd (let q : ⊥ = cc in q), (λ slot e. refl, (λ slot e. absurd (let q : ⊥ = cc in q), (λ slot e. absurd (let q : ⊥ = cc in q), (λ slot e. absurd (let q : ⊥ = cc in q), (λ slot e. absurd (let q : ⊥ = cc in q), (λ slot e. absurd (let q : ⊥ = cc in q), (λ slot e. absurd (let q : ⊥ = cc in q), (λ slot e. absurd (let q : ⊥ = cc in q), (λ slot e. absurd (let q : ⊥ = cc in q), (λ slot e. absurd (let q : ⊥ = cc in q), tt)))))))))))))

volume-gives : (spec : Spec) (image : List ℕ) → IsValid spec → IsFresh spec image → (slot map : ℕ) → GivesMap image (seen image) slot map → map ≡ 52
volume-gives spec image v f slot map g =
    let n = g.names.names in
    let h = live-has spec image v f g.naming n.live in
    let o = found-is spec image v f g.naming g.object n.live n.found h in
    let expected : h.row.naming.expected ≡ VolumeIn slot = ap (λ (x : Naming). x.expected) h.same ∙ g.volume in
    let block : h.row.block ≡ 51 = each-in IsVolumeRow known.rows h.row volume-rows h.one slot expected in
    g.gives ∙ ap (λ (x : Found). volumes.omap_oid_of x.bytes) o ∙ ap (λ k. volumes.omap_oid_of (block_at image k)) block ∙ f.volume.omap

pub all-used : (spec : Spec) (image : List ℕ) → IsValid spec → IsFresh spec image → (within : Within) (map : ℕ) → IsMapOf image (seen image) within map → AreUsed image (seen image) map
all-used spec image v f Physical map h = absurd h
all-used spec image v f Ephemeral map h = absurd h
all-used spec image v f Container map h =
    let e : map ≡ 25 = h ∙ f.newest.omap in
    subst (λ m. AreUsed image (seen image) m) (sym e) (used-by spec image v f known.volume_row at-volume 25 known.volume_record refl (container-map spec image v f).records)
all-used spec image v f (Volume slot) map h =
    subst (λ m. AreUsed image (seen image) m) (sym (volume-gives spec image v f slot map h)) (used-by spec image v f known.files_row at-files 52 known.files_record refl (volume-map spec image v f).records)

-- the first part of the account
pub are-named : (spec : Spec) (image : List ℕ) → IsValid spec → IsFresh spec image → AreNamed image (seen image)
are-named spec image v f = record { named = all-named spec image v f; once = all-once spec image v f; used = all-used spec image v f }
