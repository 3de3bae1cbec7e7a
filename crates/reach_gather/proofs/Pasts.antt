-- What the snapshots of a volume add.
use Rattle.std.proofs.Common.{◌≡◌, ℕ, zero, suc, ◌+◌, ◌<◌, Bool, List, [], ◌∷◌, ◌++◌, length, take, get_or, refl, ap, sym, ◌∙◌, subst, arith}
use Rattle.std.proofs.lemmas.List.{take_more, append-nil, append_assoc, length-take-le}
use Rattle.apfs_model.specs.Lists.{In}
use Rattle.apfs_model.proofs.Searches.{in-left, in-right}
use Rattle.nx_ring.specs.Checkpoint.{Seen}
use Rattle.vol_view.specs.declared.volume.Snapshot.{Snapshot}
use Rattle.reach_rules.specs.declared.naming.ViewAt.{ViewAt}
use Rattle.reach_rules.specs.declared.naming.LookUp.TheVariants.{ByBlock}
use Rattle.reach_rules.specs.declared.naming.Namer.TheVariants.{Kept}
use Rattle.reach_rules.specs.declared.naming.TreeKind.TheVariants.{ExtentRefs}
use Rattle.reach_rules.specs.declared.naming.Expected.TheVariants.{SnapshotSuper, TreeRoot}
use Rattle.reach_rules.specs.declared.naming.Naming.{Naming}
use Rattle.reach_rules.specs.Next.{next, unless_zero}
use Rattle.reach_gather.specs.Volumes.Told.{past_at, super_in_view, told_snapshot, told_snapshots}
use Rattle.reach_gather.specs.Held.{Held}
use Rattle.reach_gather.specs.Adds.{Adds}
use Rattle.reach_gather.specs.Steps.{block_owner}
use Rattle.reach_gather.specs.Views.{past_view_namings, pasts_namings, IsSuperPart}
use Rattle.reach_gather.proofs.Growing.{adds-left, adds-join, adds-step, adds-as, IsRightRoot}
use Rattle.reach_gather.proofs.Owning.{own-block, pool-block}
use Rattle.reach_gather.proofs.Fields.{block-grew, one-owns}

super-root : (image : List ℕ) (seen : Seen) (view : ViewAt) (snapshot : Snapshot) → IsRightRoot image seen (super_in_view view snapshot)
super-root image seen view snapshot = λ kind is. absurd (let z : SnapshotSuper view ≡ TreeRoot kind = is in let q : ⊥ = cc in q)

-- a snapshot, its superblock's own namings being left to the rest
pub snapshot-adds : (image : List ℕ) (seen : Seen) (view : ViewAt) (snapshot : Snapshot) (a b c : Held) → IsSuperPart image seen view snapshot
    → b.namings ≡ a.namings ++ super_in_view view snapshot ∷ [] → b.owners ≡ a.owners ++ block_owner (super_in_view view snapshot) ∷ [] → b.pool_owners ≡ a.pool_owners
    → Adds image seen (unless_zero (Kept view) 0 (TreeRoot ExtentRefs) ByBlock snapshot.extents_root) [] b c
    → Adds image seen (told_snapshot view snapshot) (past_view_namings view snapshot) a c
snapshot-adds image seen view snapshot a b c part p q r kept =
    let n : Naming = super_in_view view snapshot in
    let rest : List Naming = past_view_namings view snapshot in
    let own = one-owns image seen n (own-block image seen n (SnapshotSuper view) part.plain refl refl refl, pool-block image seen n (SnapshotSuper view) part.plain refl refl refl) in
    let first : Adds image seen (n ∷ []) rest a b =
    adds-step image seen n rest a b b part.plain refl (super-root image seen view snapshot) (block-grew image seen n a b own p q r)
    (adds-as image seen rest (next image seen n) rest b b part.leads (adds-left image seen rest b)) in
    subst (λ rs. Adds image seen (told_snapshot view snapshot) rs a c) (append-nil rest)
    (adds-join image seen (n ∷ []) (unless_zero (Kept view) 0 (TreeRoot ExtentRefs) ByBlock snapshot.extents_root) rest [] a b c first kept)

-- one more snapshot
told-more : (slot map : ℕ) (hashed : Bool) (k : ℕ) (xs : List Snapshot) (x : Snapshot) → told_snapshots slot map hashed k (xs ++ x ∷ []) ≡ told_snapshots slot map hashed k xs ++ told_snapshot (past_at slot map hashed (k + length xs) x) x
told-more slot map hashed k [] x = append-nil (told_snapshot (past_at slot map hashed k x) x) ∙ ap (λ i. told_snapshot (past_at slot map hashed i x) x) (let e : k ≡ k + 0 = omega arith in e)
told-more slot map hashed k (y ∷ ys) x =
    ap (λ ns. told_snapshot (past_at slot map hashed k y) y ++ ns) (told-more slot map hashed (suc k) ys x)
    ∙ (sym (append_assoc (told_snapshot (past_at slot map hashed k y) y) (told_snapshots slot map hashed (suc k) ys) (told_snapshot (past_at slot map hashed (suc k + length ys) x) x))
    ∙ ap (λ i. (told_snapshot (past_at slot map hashed k y) y ++ told_snapshots slot map hashed (suc k) ys) ++ told_snapshot (past_at slot map hashed i x) x) (let e : suc k + length ys ≡ k + suc (length ys) = omega arith in e))

pasts-more : (slot map : ℕ) (hashed : Bool) (k : ℕ) (xs : List Snapshot) (x : Snapshot) → pasts_namings slot map hashed k (xs ++ x ∷ []) ≡ pasts_namings slot map hashed k xs ++ past_view_namings (past_at slot map hashed (k + length xs) x) x
pasts-more slot map hashed k [] x = append-nil (past_view_namings (past_at slot map hashed k x) x) ∙ ap (λ i. past_view_namings (past_at slot map hashed i x) x) (let e : k ≡ k + 0 = omega arith in e)
pasts-more slot map hashed k (y ∷ ys) x =
    ap (λ ns. past_view_namings (past_at slot map hashed k y) y ++ ns) (pasts-more slot map hashed (suc k) ys x)
    ∙ (sym (append_assoc (past_view_namings (past_at slot map hashed k y) y) (pasts_namings slot map hashed (suc k) ys) (past_view_namings (past_at slot map hashed (suc k + length ys) x) x))
    ∙ ap (λ i. (past_view_namings (past_at slot map hashed k y) y ++ pasts_namings slot map hashed (suc k) ys) ++ past_view_namings (past_at slot map hashed i x) x) (let e : suc k + length ys ≡ k + suc (length ys) = omega arith in e))

-- the snapshots before a place, and the one at it
pub pasts-next : (image : List ℕ) (seen : Seen) (slot map : ℕ) (hashed : Bool) (xs : List Snapshot) (i : ℕ) (x : Snapshot) (view : ViewAt) (a b c : Held) → i < length xs → get_or xs i x ≡ x → view ≡ past_at slot map hashed i x
    → Adds image seen (told_snapshots slot map hashed 0 (take i xs)) (pasts_namings slot map hashed 0 (take i xs)) a b
    → Adds image seen (told_snapshot view x) (past_view_namings view x) b c
    → Adds image seen (told_snapshots slot map hashed 0 (take (i + 1) xs)) (pasts_namings slot map hashed 0 (take (i + 1) xs)) a c
pasts-next image seen slot map hashed xs i x view a b c low is same before one =
    let more : take (i + 1) xs ≡ take i xs ++ x ∷ [] = take_more xs i x low ∙ ap (λ y. take i xs ++ y ∷ []) is in
    let long : length (take i xs) ≡ i = length-take-le i xs (omega arith) in
    let place : 0 + length (take i xs) ≡ i = omega (arith, long) in
    let told : told_snapshots slot map hashed 0 (take (i + 1) xs) ≡ told_snapshots slot map hashed 0 (take i xs) ++ told_snapshot view x =
    ap (told_snapshots slot map hashed 0) more ∙ (told-more slot map hashed 0 (take i xs) x ∙ (ap (λ k. told_snapshots slot map hashed 0 (take i xs) ++ told_snapshot (past_at slot map hashed k x) x) place
    ∙ ap (λ v. told_snapshots slot map hashed 0 (take i xs) ++ told_snapshot v x) (sym same))) in
    let rests : pasts_namings slot map hashed 0 (take (i + 1) xs) ≡ pasts_namings slot map hashed 0 (take i xs) ++ past_view_namings view x =
    ap (pasts_namings slot map hashed 0) more ∙ (pasts-more slot map hashed 0 (take i xs) x ∙ (ap (λ k. pasts_namings slot map hashed 0 (take i xs) ++ past_view_namings (past_at slot map hashed k x) x) place
    ∙ ap (λ v. pasts_namings slot map hashed 0 (take i xs) ++ past_view_namings v x) (sym same))) in
    subst (λ rs. Adds image seen (told_snapshots slot map hashed 0 (take (i + 1) xs)) rs a c) (sym rests)
    (adds-as image seen (told_snapshots slot map hashed 0 (take i xs) ++ told_snapshot view x) (told_snapshots slot map hashed 0 (take (i + 1) xs)) (pasts_namings slot map hashed 0 (take i xs) ++ past_view_namings view x) a c told
    (adds-join image seen (told_snapshots slot map hashed 0 (take i xs)) (told_snapshot view x) (pasts_namings slot map hashed 0 (take i xs)) (past_view_namings view x) a b c before one))

-- the namings of the snapshot at a place are among those of all
pub told-at : (slot map : ℕ) (hashed : Bool) (k : ℕ) (xs : List Snapshot) (i : ℕ) (x : Snapshot) (n : Naming) → i < length xs → get_or xs i x ≡ x → In n (told_snapshot (past_at slot map hashed (k + i) x) x) → In n (told_snapshots slot map hashed k xs)
told-at slot map hashed k [] i x n low is h = absurd (omega arith)
told-at slot map hashed k (y ∷ ys) zero x n low is h =
    in-left n (told_snapshot (past_at slot map hashed k y) y) (told_snapshots slot map hashed (suc k) ys)
    (subst (λ z. In n (told_snapshot (past_at slot map hashed k z) z)) (sym is) (subst (λ j. In n (told_snapshot (past_at slot map hashed j x) x)) (let e : k + 0 ≡ k = omega arith in e) h))
told-at slot map hashed k (y ∷ ys) (suc i) x n low is h =
    in-right n (told_snapshot (past_at slot map hashed k y) y) (told_snapshots slot map hashed (suc k) ys)
    (told-at slot map hashed (suc k) ys i x n (omega arith) is (subst (λ j. In n (told_snapshot (past_at slot map hashed j x) x)) (let e : k + suc i ≡ suc k + i = omega arith in e) h))
