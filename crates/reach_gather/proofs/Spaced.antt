-- What a space adds: its manager, its free queues, and the blocks that tell of chunks.
use Rattle.std.proofs.Common.{◌≡◌, ℕ, Bool, true, false, cond, List, [], ◌∷◌, ◌++◌, map, Some, inl, inr, refl, ap, sym, ◌∙◌, subst}
use Rattle.std.proofs.lemmas.List.{append-nil, append_assoc}
use Rattle.std.specs.Prelude.{not, ◌==◌, if◌then◌else◌}
use Rattle.std.specs.List.{list_all}
use Rattle.apfs_model.specs.Lists.{In}
use Rattle.apfs_model.proofs.BoolTests.{all-in}
use Rattle.apfs_model.proofs.Searches.{in-right}
use Rattle.nx_block.specs.Super.{space_oid_of}
use Rattle.nx_ring.specs.Checkpoint.{Seen}
use Rattle.space_map.specs.Fields.{pool_base_of, pool_blocks_of, ring_base_of, ring_blocks_of, pool_queue_of}
use Rattle.space_map.specs.Stops.{HasManager, Known, IsSpaceOf}
use Rattle.space_pool.specs.Queues.{queue_of, is_queued_in_pool}
use Rattle.space_pool.specs.declared.entry.Queue.TheVariants.{Pool}
use Rattle.space_pool.specs.declared.entry.QueueEntry.{QueueEntry}
use Rattle.space_pool.proofs.Gathered.{none_queued}
use Rattle.reach_rules.specs.declared.naming.Expected.TheVariants.{TreeRoot, SpaceManager}
use Rattle.reach_rules.specs.declared.naming.Naming.{Naming}
use Rattle.reach_rules.specs.Resolved.{Found}
use Rattle.reach_rules.specs.declared.owner.Who.TheVariants.{InternalPool, PoolRing}
use Rattle.reach_rules.specs.declared.owner.Owner.{Owner}
use Rattle.reach_rules.specs.Owners.{owner, owners_through}
use Rattle.reach_rules.proofs.SpaceLifted.{there, manager-sound}
use Rattle.reach_gather.specs.Namings.{IsPlainNaming}
use Rattle.reach_gather.specs.Joined.{ArePart}
use Rattle.reach_gather.specs.ViewParts.{is_in_view}
use Rattle.reach_gather.specs.Account.{AreRightTrees}
use Rattle.reach_gather.specs.Container.{pool_queue_naming, main_queue_naming, manager_naming}
use Rattle.reach_gather.specs.Space.{manager_namer, blocks_namings}
use Rattle.reach_gather.proofs.SpacePart.{space-part}
use Rattle.reach_gather.proofs.ViewParts.{outside-views}
use Rattle.reach_gather.specs.Held.{Held, GrewBy, some_owners}
use Rattle.reach_gather.specs.Adds.{Adds}
use Rattle.reach_gather.specs.Infos.{known_cabs, known_cibs, bitmaps_from}
use Rattle.reach_gather.specs.Pooled.{ArePooled}
use Rattle.reach_gather.specs.Steps.{block_owner}
use Rattle.reach_gather.proofs.Growing.{grewby-one, grewby-join, outside-both, trees-both}
use Rattle.reach_gather.proofs.Owning.{own-id, pool-id}
use Rattle.reach_gather.proofs.Chunked.{blocks-grew, blocks-expect}

-- of two owners those with a block
two-some : (o p : Owner) → some_owners (o ∷ p ∷ []) ≡ (if o.blocks == 0 then [] else o ∷ []) ++ (if p.blocks == 0 then [] else p ∷ [])
two-some o p = go (o.blocks == 0) (p.blocks == 0)
  where
    go : (b c : Bool) → cond (not b) (o ∷ cond (not c) (p ∷ []) []) (cond (not c) (p ∷ []) []) ≡ (if b then [] else o ∷ []) ++ (if c then [] else p ∷ [])
    go true true = refl
    go true false = refl
    go false true = refl
    go false false = refl

-- the manager to which a plain naming of it resolves
manager-bytes : (image : List ℕ) (seen : Seen) (manager : List ℕ) (block : ℕ) → HasManager seen manager block → (p : IsPlainNaming image seen (manager_naming seen.nx)) → p.object.bytes ≡ manager
unfolding there
manager-bytes image seen manager block has p =
    let s = manager-sound image seen manager block has in
    let e : Some p.object ≡ Some (there seen manager block) = sym p.found ∙ s.names.found in
    let f : p.object ≡ there seen manager block = cc in
    ap (λ (x : Found). x.bytes) f

abbrev pool_of : List ℕ → Owner
pool_of manager = owner InternalPool (pool_base_of manager) (pool_blocks_of manager)

abbrev ring_of : List ℕ → Owner
ring_of manager = owner PoolRing (ring_base_of manager) (ring_blocks_of manager)

manager-grew : (image : List ℕ) (seen : Seen) (manager : List ℕ) (block : ℕ) (a b : Held) → HasManager seen manager block → IsPlainNaming image seen (manager_naming seen.nx)
    → b.namings ≡ a.namings ++ manager_naming seen.nx ∷ []
    → b.owners ≡ (a.owners ++ (if pool_blocks_of manager == 0 then [] else pool_of manager ∷ [])) ++ (if ring_blocks_of manager == 0 then [] else ring_of manager ∷ [])
    → b.pool_owners ≡ a.pool_owners → GrewBy image seen (manager_naming seen.nx ∷ []) a b
manager-grew image seen manager block a b has p q r s =
    let n : Naming = manager_naming seen.nx in
    let o : Owner = pool_of manager in
    let t : Owner = ring_of manager in
    let own : owners_through image seen n ≡ o ∷ t ∷ [] = own-id image seen n SpaceManager p refl refl ∙ ap (λ m. pool_of m ∷ ring_of m ∷ []) (manager-bytes image seen manager block has p) in
    grewby-one image seen n a b q
    (r ∙ (append_assoc a.owners (if pool_blocks_of manager == 0 then [] else o ∷ []) (if ring_blocks_of manager == 0 then [] else t ∷ []) ∙ ap (λ xs. a.owners ++ xs) (sym (two-some o t) ∙ ap some_owners (sym own))))
    (s ∙ (sym (append-nil a.pool_owners) ∙ ap (λ xs. a.pool_owners ++ some_owners xs) (sym (pool-id image seen n SpaceManager p refl refl))))

-- ---- all of it
manager-outside : (image : List ℕ) (seen : Seen) (n : Naming) → In n (manager_naming seen.nx ∷ []) → is_in_view n.how ≡ false
manager-outside image seen n (inl e) = ap (λ (m : Naming). is_in_view m.how) e
manager-outside image seen n (inr h) = absurd h

manager-root : (image : List ℕ) (seen : Seen) → AreRightTrees image seen (manager_naming seen.nx ∷ [])
manager-root image seen n kind (inl e) is = absurd (let z : SpaceManager ≡ TreeRoot kind = ap (λ (m : Naming). m.expected) (sym e) ∙ is in let q : ⊥ = cc in q)
manager-root image seen n kind (inr h) is = absurd h

pub space-adds : (image : List ℕ) (seen : Seen) (space : Known) (a b c d e : Held) → IsSpaceOf image seen space
    → b.namings ≡ a.namings ++ manager_naming seen.nx ∷ []
    → b.owners ≡ (a.owners ++ (if pool_blocks_of space.manager == 0 then [] else pool_of space.manager ∷ [])) ++ (if ring_blocks_of space.manager == 0 then [] else ring_of space.manager ∷ [])
    → b.pool_owners ≡ a.pool_owners
    → Adds image seen (pool_queue_naming (manager_namer seen.nx) space.manager) [] b c
    → Adds image seen (main_queue_naming (manager_namer seen.nx) space.manager) [] c d
    → e.namings ≡ (d.namings ++ known_cabs (space_oid_of seen.nx) space) ++ known_cibs (space_oid_of seen.nx) space
    → e.owners ≡ d.owners
    → e.pool_owners ≡ ((d.pool_owners ++ map block_owner (known_cabs (space_oid_of seen.nx) space)) ++ map block_owner (known_cibs (space_oid_of seen.nx) space)) ++ bitmaps_from 0 space.chunks
    → Adds image seen (manager_naming seen.nx ∷ []) [] a e
space-adds image seen space a b c d e is p q r pool main s t u =
    let n : Naming = manager_naming seen.nx in
    let blocks : List Naming = blocks_namings image seen space.manager in
    let rest : List Naming = main.these ++ blocks in
    let part : ArePart image seen (n ∷ []) (n ∷ pool.these ++ rest) [] = space-part image seen space.manager is.block pool.these main.these is.manager is.right pool.part main.part in
    let plain : (m : Naming) → In m blocks → IsPlainNaming image seen m = λ m h. part.plain m (inr (in-right m pool.these rest (in-right m main.these blocks h))) in
    record {
      these = n ∷ pool.these ++ rest;
      part = part;
      outside = outside-both (n ∷ []) (pool.these ++ rest) (manager-outside image seen) (outside-both pool.these rest pool.outside (outside-both main.these blocks main.outside ((outside-views image seen).blocks (manager_namer seen.nx) space.manager)));
      trees = trees-both image seen (n ∷ []) (pool.these ++ rest) (manager-root image seen) (trees-both image seen pool.these rest pool.trees (trees-both image seen main.these blocks main.trees (λ m kind h k. blocks-expect image seen space m kind is plain h k)));
      grew = grewby-join image seen (n ∷ []) (pool.these ++ rest) a b e (manager-grew image seen space.manager is.block a b is.manager (part.plain n (inl refl)) p q r)
          (grewby-join image seen pool.these rest b c e pool.grew (grewby-join image seen main.these blocks c d e main.grew (blocks-grew image seen space d e is plain s t u)));
    }

-- all entries lie in the pool
pub all-pooled : (image : List ℕ) (seen : Seen) (manager : List ℕ) (entries : List QueueEntry) → entries ≡ queue_of image seen manager Pool → list_all (is_queued_in_pool manager) entries ≡ true → ArePooled image seen manager
all-pooled image seen manager entries same all = λ e h. all-in (is_queued_in_pool manager) entries all e (subst (λ (es : List QueueEntry). In e es) (sym same) h)

pub none-pooled : (image : List ℕ) (seen : Seen) (manager : List ℕ) (root : ℕ) → root ≡ pool_queue_of manager → root ≡ 0 → ArePooled image seen manager
none-pooled image seen manager root same zero = λ e h. absurd (subst (λ (es : List QueueEntry). In e es) (sym (none_queued image seen manager Pool root [] same zero refl).same) h)
