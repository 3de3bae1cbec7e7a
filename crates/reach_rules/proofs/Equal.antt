-- Equalities that decide.
use Rattle.std.proofs.Common.{◌≡◌, ℕ, Bool, true, false, inl, inr, refl, ap}
use Rattle.std.proofs.lemmas.Bool.{cases_eq}
use Rattle.omap_map.specs.declared.records.OmapRecord.{OmapRecord}
use Rattle.space_pool.specs.declared.entry.Queue.{Queue}
use Rattle.space_pool.specs.declared.entry.Queue.TheVariants.{Pool, Main}
use Rattle.apfs_model.proofs.Finite.{Either}
use Rattle.reach_rules.specs.Naming.{ViewAt, LookUp, ByBlock, ByMapping, InContainer, InView, Object, Newest, InBlock, OfId, OfRecord, Namer, Whole, Kept, TreeKind, MapRecords, MapSnapshots, ExtentRefs, SnapMetadata, FreeQueue, Files, Expected, SpaceManager, ContainerMap, ReaperObject, ReapList, Jumpstart, VolumeIn, VolumeMap, ExtendedMetadata, SnapshotSuper, AddressBlock, InfoBlock, TreeRoot, TreeNode, Naming}
use Rattle.reach_rules.specs.Owners.{Who, BlockZero, Descriptors, Checkpoints, KeyLocker, MediaLocker, InternalPool, PoolRing, Named, Recorded, Told, Bitmap, Owner}

pub both : {A B : Type 0} → Either A → Either B → Either (A × B)
both {A} {B} a b = elim a as (λ _. Either (A × B)) [
  | inl x ↦ elim b as (λ _. Either (A × B)) [ inl y ↦ inl (x, y) | inr n ↦ inr (λ t. n t.1) ]
  | inr n ↦ inr (λ t. n t.0)
]

-- an equality that decides through another
pub through-eq : {A B : Type 0} → Either A → (A → B) → (B → A) → Either B
through-eq {A} {B} a f g = elim a as (λ _. Either B) [ inl x ↦ inl (f x) | inr n ↦ inr (λ y. n (g y)) ]

bool_eq : (a b : Bool) → Either (a ≡ b)
bool_eq true true = inl refl
bool_eq false false = inl refl
bool_eq true false = inr (λ e. cc)
bool_eq false true = inr (λ e. cc)

queue_eq : (a b : Queue) → Either (a ≡ b)
queue_eq Pool Pool = inl refl
queue_eq Main Main = inl refl
queue_eq Pool Main = inr (λ e. cc)
queue_eq Main Pool = inr (λ e. cc)

record_by : ℕ → ℕ → ℕ → ℕ → ℕ → OmapRecord
record_by oid xid flags size paddr = record { oid = oid; xid = xid; flags = flags; size = size; paddr = paddr }

pub record-is : (r s : OmapRecord) → r.oid ≡ s.oid → r.xid ≡ s.xid → r.flags ≡ s.flags → r.size ≡ s.size → r.paddr ≡ s.paddr → r ≡ s
unfolding record_by
record-is r s a b c d e = let k : record_by r.oid r.xid r.flags r.size r.paddr ≡ record_by s.oid s.xid s.flags s.size s.paddr = cc in k

pub record_eq : (r s : OmapRecord) → Either (r ≡ s)
record_eq r s = through-eq (both (cases_eq r.oid s.oid) (both (cases_eq r.xid s.xid) (both (cases_eq r.flags s.flags) (both (cases_eq r.size s.size) (cases_eq r.paddr s.paddr)))))
    (λ t. record-is r s t.0 t.1.0 t.1.1.0 t.1.1.1.0 t.1.1.1.1)
    (λ e. (ap (λ (x : OmapRecord). x.oid) e, (ap (λ (x : OmapRecord). x.xid) e, (ap (λ (x : OmapRecord). x.flags) e, (ap (λ (x : OmapRecord). x.size) e, ap (λ (x : OmapRecord). x.paddr) e)))))

view_by : ℕ → ℕ → ℕ → ℕ → Bool → ViewAt
view_by slot place xid map hashed = record { slot = slot; place = place; xid = xid; map = map; hashed = hashed }

pub view-is : (v w : ViewAt) → v.slot ≡ w.slot → v.place ≡ w.place → v.xid ≡ w.xid → v.map ≡ w.map → v.hashed ≡ w.hashed → v ≡ w
unfolding view_by
view-is v w a b c d e = let k : view_by v.slot v.place v.xid v.map v.hashed ≡ view_by w.slot w.place w.xid w.map w.hashed = cc in k

view_eq : (v w : ViewAt) → Either (v ≡ w)
view_eq v w = through-eq (both (cases_eq v.slot w.slot) (both (cases_eq v.place w.place) (both (cases_eq v.xid w.xid) (both (cases_eq v.map w.map) (bool_eq v.hashed w.hashed)))))
    (λ t. view-is v w t.0 t.1.0 t.1.1.0 t.1.1.1.0 t.1.1.1.1)
    (λ e. (ap (λ (x : ViewAt). x.slot) e, (ap (λ (x : ViewAt). x.place) e, (ap (λ (x : ViewAt). x.xid) e, (ap (λ (x : ViewAt). x.map) e, ap (λ (x : ViewAt). x.hashed) e)))))

pub lookup_eq : (a b : LookUp) → Either (a ≡ b)
lookup_eq ByBlock ByBlock = inl refl
lookup_eq ByMapping ByMapping = inl refl
lookup_eq InContainer InContainer = inl refl
lookup_eq (InView v) (InView w) = through-eq (view_eq v w) (λ e. ap InView e) (λ e. cc)
lookup_eq a b = inr (λ e. cc)

pub object_eq : (a b : Object) → Either (a ≡ b)
object_eq Newest Newest = inl refl
object_eq (InBlock x) (InBlock y) = through-eq (cases_eq x y) (λ e. ap InBlock e) (λ e. cc)
object_eq (OfId x) (OfId y) = through-eq (cases_eq x y) (λ e. ap OfId e) (λ e. cc)
object_eq (OfRecord x r) (OfRecord y s) = through-eq (both (cases_eq x y) (record_eq r s)) (λ t. let p : x ≡ y = t.0 in let q : r ≡ s = t.1 in cc) (λ e. ((let p : x ≡ y = cc in p), (let q : r ≡ s = cc in q)))
object_eq a b = inr (λ e. cc)

namer_eq : (a b : Namer) → Either (a ≡ b)
namer_eq (Whole a) (Whole b) = through-eq (object_eq a b) (λ e. ap Whole e) (λ e. cc)
namer_eq (Kept v) (Kept w) = through-eq (view_eq v w) (λ e. ap Kept e) (λ e. cc)
namer_eq a b = inr (λ e. cc)

kind_eq : (a b : TreeKind) → Either (a ≡ b)
kind_eq MapRecords MapRecords = inl refl
kind_eq MapSnapshots MapSnapshots = inl refl
kind_eq ExtentRefs ExtentRefs = inl refl
kind_eq SnapMetadata SnapMetadata = inl refl
kind_eq (FreeQueue x) (FreeQueue y) = through-eq (queue_eq x y) (λ e. ap FreeQueue e) (λ e. cc)
kind_eq (Files x) (Files y) = through-eq (bool_eq x y) (λ e. ap Files e) (λ e. cc)
kind_eq a b = inr (λ e. cc)

expected_eq : (a b : Expected) → Either (a ≡ b)
expected_eq SpaceManager SpaceManager = inl refl
expected_eq ContainerMap ContainerMap = inl refl
expected_eq ReaperObject ReaperObject = inl refl
expected_eq ReapList ReapList = inl refl
expected_eq Jumpstart Jumpstart = inl refl
expected_eq (VolumeIn x) (VolumeIn y) = through-eq (cases_eq x y) (λ e. ap VolumeIn e) (λ e. cc)
expected_eq VolumeMap VolumeMap = inl refl
expected_eq ExtendedMetadata ExtendedMetadata = inl refl
expected_eq (SnapshotSuper x) (SnapshotSuper y) = through-eq (view_eq x y) (λ e. ap SnapshotSuper e) (λ e. cc)
expected_eq (AddressBlock x) (AddressBlock y) = through-eq (cases_eq x y) (λ e. ap AddressBlock e) (λ e. cc)
expected_eq (InfoBlock x) (InfoBlock y) = through-eq (cases_eq x y) (λ e. ap InfoBlock e) (λ e. cc)
expected_eq (TreeRoot x) (TreeRoot y) = through-eq (kind_eq x y) (λ e. ap TreeRoot e) (λ e. cc)
expected_eq (TreeNode x l) (TreeNode y m) = through-eq (both (kind_eq x y) (cases_eq l m)) (λ t. let p : x ≡ y = t.0 in let q : l ≡ m = t.1 in cc) (λ e. ((let p : x ≡ y = cc in p), (let q : l ≡ m = cc in q)))
expected_eq a b = inr (λ e. cc)

naming_by : Namer → ℕ → Expected → LookUp → ℕ → Naming
naming_by namer at expected how oid = record { namer = namer; at = at; expected = expected; how = how; oid = oid }

pub naming-is : (m n : Naming) → m.namer ≡ n.namer → m.at ≡ n.at → m.expected ≡ n.expected → m.how ≡ n.how → m.oid ≡ n.oid → m ≡ n
unfolding naming_by
naming-is m n a b c d e = let k : naming_by m.namer m.at m.expected m.how m.oid ≡ naming_by n.namer n.at n.expected n.how n.oid = cc in k

pub naming_eq : (m n : Naming) → Either (m ≡ n)
naming_eq m n = through-eq (both (namer_eq m.namer n.namer) (both (cases_eq m.at n.at) (both (expected_eq m.expected n.expected) (both (lookup_eq m.how n.how) (cases_eq m.oid n.oid)))))
    (λ t. naming-is m n t.0 t.1.0 t.1.1.0 t.1.1.1.0 t.1.1.1.1)
    (λ e. (ap (λ (x : Naming). x.namer) e, (ap (λ (x : Naming). x.at) e, (ap (λ (x : Naming). x.expected) e, (ap (λ (x : Naming). x.how) e, ap (λ (x : Naming). x.oid) e)))))

who_eq : (a b : Who) → Either (a ≡ b)
who_eq BlockZero BlockZero = inl refl
who_eq Descriptors Descriptors = inl refl
who_eq Checkpoints Checkpoints = inl refl
who_eq KeyLocker KeyLocker = inl refl
who_eq MediaLocker MediaLocker = inl refl
who_eq InternalPool InternalPool = inl refl
who_eq PoolRing PoolRing = inl refl
who_eq (Named m) (Named n) = through-eq (naming_eq m n) (λ e. ap Named e) (λ e. cc)
who_eq (Recorded x r) (Recorded y s) = through-eq (both (cases_eq x y) (record_eq r s)) (λ t. let p : x ≡ y = t.0 in let q : r ≡ s = t.1 in cc) (λ e. ((let p : x ≡ y = cc in p), (let q : r ≡ s = cc in q)))
who_eq (Told m i) (Told n j) = through-eq (both (naming_eq m n) (cases_eq i j)) (λ t. let p : m ≡ n = t.0 in let q : i ≡ j = t.1 in cc) (λ e. ((let p : m ≡ n = cc in p), (let q : i ≡ j = cc in q)))
who_eq (Bitmap x) (Bitmap y) = through-eq (cases_eq x y) (λ e. ap Bitmap e) (λ e. cc)
who_eq a b = inr (λ e. cc)

owner_by : Who → ℕ → ℕ → Owner
owner_by who first blocks = record { who = who; first = first; blocks = blocks }

pub owner-is : (a b : Owner) → a.who ≡ b.who → a.first ≡ b.first → a.blocks ≡ b.blocks → a ≡ b
unfolding owner_by
owner-is a b x y z = let k : owner_by a.who a.first a.blocks ≡ owner_by b.who b.first b.blocks = cc in k

pub owner_eq : (a b : Owner) → Either (a ≡ b)
owner_eq a b = through-eq (both (who_eq a.who b.who) (both (cases_eq a.first b.first) (cases_eq a.blocks b.blocks)))
    (λ t. owner-is a b t.0 t.1.0 t.1.1)
    (λ e. (ap (λ (x : Owner). x.who) e, (ap (λ (x : Owner). x.first) e, ap (λ (x : Owner). x.blocks) e)))
