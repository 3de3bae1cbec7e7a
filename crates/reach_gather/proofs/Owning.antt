-- The owners through a naming that is plain.
use Rattle.std.proofs.Common.{◌≡◌, ℕ, true, false, List, [], ◌∷◌, ◌++◌, map, Ok, Err, is_ok, inl, inr, refl, ap, sym, ◌∙◌, subst}
use Rattle.std.specs.Prelude.{◌==◌}
use Rattle.apfs_model.specs.Lists.{In, through}
use Rattle.apfs_model.proofs.Searches.{in-map, from-map}
use Rattle.nx_ring.specs.Checkpoint.{Seen, site_of}
use Rattle.reach_rules.specs.declared.naming.LookUp.TheVariants.{ByBlock, ByMapping}
use Rattle.reach_rules.specs.declared.naming.Object.{Object}
use Rattle.reach_rules.specs.declared.naming.Object.TheVariants.{InBlock}
use Rattle.reach_rules.specs.declared.naming.Expected.{Expected}
use Rattle.reach_rules.specs.declared.naming.Naming.{Naming}
use Rattle.reach_rules.specs.Resolved.{Found}
use Rattle.reach_rules.specs.Tested.{Answer, tested}
use Rattle.reach_rules.specs.declared.owner.Owner.{Owner}
use Rattle.reach_rules.specs.Owners.{tells_of_chunks, object_owners, told_owners, told_if, owners_through}
use Rattle.reach_rules.specs.PoolOwners.{pool_object_owners, pool_told_owners, pool_told_if, pool_owners_through}
use Rattle.reach_gather.specs.Namings.{IsPlainNaming}
use Rattle.reach_gather.proofs.Container.{plain-block, plain-facts}
use Rattle.reach_gather.specs.Held.{Held, Grew, IsOwnerThrough, GrewBy}
use Rattle.reach_gather.specs.Steps.{block_owner}
use Rattle.reach_gather.proofs.Growing.{grew-none, grew-put, fits-more}

-- of a sound object all is told
ok-told : (image : List ℕ) (seen : Seen) (n : Naming) (f : Found) (a : Answer) → is_ok a ≡ true → told_if image seen n f a ≡ told_owners image seen n n.expected f.bytes
ok-told image seen n f (Ok bytes) e = refl
ok-told image seen n f (Err bad) e = absurd (let z : false ≡ true = e in let q : ⊥ = cc in q)

ok-pool : (image : List ℕ) (seen : Seen) (n : Naming) (f : Found) (a : Answer) → is_ok a ≡ true → pool_told_if image seen n f a ≡ pool_told_owners image seen n n.expected f.bytes
ok-pool image seen n f (Ok bytes) e = refl
ok-pool image seen n f (Err bad) e = absurd (let z : false ≡ true = e in let q : ⊥ = cc in q)

-- the owners through a plain naming
pub own-plain : (image : List ℕ) (seen : Seen) (n : Naming) (p : IsPlainNaming image seen n) → owners_through image seen n ≡ object_owners n p.object.object ++ told_owners image seen n n.expected p.object.bytes
unfolding owners_through
own-plain image seen n p =
    ap (λ o. through o (λ (f : Found). object_owners n f.object ++ told_if image seen n f (tested (site_of seen) n.expected n.oid f.bytes))) p.found
    ∙ ap (λ xs. object_owners n p.object.object ++ xs) (ok-told image seen n p.object (tested (site_of seen) n.expected n.oid p.object.bytes) p.sound)

pub pool-plain : (image : List ℕ) (seen : Seen) (n : Naming) (p : IsPlainNaming image seen n) → pool_owners_through image seen n ≡ pool_object_owners n p.object.object ++ pool_told_owners image seen n n.expected p.object.bytes
unfolding pool_owners_through
pool-plain image seen n p =
    ap (λ o. through o (λ (f : Found). pool_object_owners n f.object ++ pool_told_if image seen n f (tested (site_of seen) n.expected n.oid f.bytes))) p.found
    ∙ ap (λ xs. pool_object_owners n p.object.object ++ xs) (ok-pool image seen n p.object (tested (site_of seen) n.expected n.oid p.object.bytes) p.sound)

-- a physical object that doesn't tell of chunks owns its block
block-objects : (n : Naming) (b : Naming → Owner) → tells_of_chunks n.expected ≡ false → object_owners n (InBlock n.oid) ≡ block_owner n ∷ []
block-objects n b e = rw e refl

block-pool : (n : Naming) → tells_of_chunks n.expected ≡ false → pool_object_owners n (InBlock n.oid) ≡ []
block-pool n e = rw e refl

pub own-block : (image : List ℕ) (seen : Seen) (n : Naming) (e : Expected) (p : IsPlainNaming image seen n) → n.how ≡ ByBlock → n.expected ≡ e → tells_of_chunks e ≡ false → owners_through image seen n ≡ block_owner n ∷ told_owners image seen n e p.object.bytes
own-block image seen n e p how is tells =
    own-plain image seen n p
    ∙ (ap (λ (o : Found). object_owners n o.object ++ told_owners image seen n n.expected p.object.bytes) (plain-block image seen n p how)
    ∙ (ap (λ xs. xs ++ told_owners image seen n n.expected p.object.bytes) (block-objects n block_owner (ap tells_of_chunks is ∙ tells))
    ∙ ap (λ x. block_owner n ∷ told_owners image seen n x p.object.bytes) is))

pub pool-block : (image : List ℕ) (seen : Seen) (n : Naming) (e : Expected) (p : IsPlainNaming image seen n) → n.how ≡ ByBlock → n.expected ≡ e → tells_of_chunks e ≡ false → pool_owners_through image seen n ≡ pool_told_owners image seen n e p.object.bytes
pool-block image seen n e p how is tells =
    pool-plain image seen n p
    ∙ (ap (λ (o : Found). pool_object_owners n o.object ++ pool_told_owners image seen n n.expected p.object.bytes) (plain-block image seen n p how)
    ∙ (ap (λ xs. xs ++ pool_told_owners image seen n n.expected p.object.bytes) (block-pool n (ap tells_of_chunks is ∙ tells))
    ∙ ap (λ x. pool_told_owners image seen n x p.object.bytes) is))

-- an ephemeral object owns no block, and what it tells
pub own-id : (image : List ℕ) (seen : Seen) (n : Naming) (e : Expected) (p : IsPlainNaming image seen n) → n.how ≡ ByMapping → n.expected ≡ e → owners_through image seen n ≡ told_owners image seen n e p.object.bytes
own-id image seen n e p how is =
    own-plain image seen n p
    ∙ (ap (λ (o : Object). object_owners n o ++ told_owners image seen n n.expected p.object.bytes) ((plain-facts image seen).id n p how)
    ∙ ap (λ x. told_owners image seen n x p.object.bytes) is)

pub pool-id : (image : List ℕ) (seen : Seen) (n : Naming) (e : Expected) (p : IsPlainNaming image seen n) → n.how ≡ ByMapping → n.expected ≡ e → pool_owners_through image seen n ≡ pool_told_owners image seen n e p.object.bytes
pool-id image seen n e p how is =
    pool-plain image seen n p
    ∙ (ap (λ (o : Object). pool_object_owners n o ++ pool_told_owners image seen n n.expected p.object.bytes) ((plain-facts image seen).id n p how)
    ∙ ap (λ x. pool_told_owners image seen n x p.object.bytes) is)

-- namings that own their blocks and nothing else
pub record OwnBlocks (image : List ℕ) (seen : Seen) (ns : List Naming) : Type 0 where
  pub owners : (n : Naming) → In n ns → owners_through image seen n ≡ block_owner n ∷ []
  pub pool_owners : (n : Naming) → In n ns → pool_owners_through image seen n ≡ []

blocks-to : (image : List ℕ) (seen : Seen) (ns : List Naming) → OwnBlocks image seen ns → (o : Owner) → In o (map block_owner ns) → IsOwnerThrough (owners_through image seen) ns o
blocks-to image seen ns own o h =
    let t = from-map block_owner ns o h in
    record {
      naming = t.0;
      one = t.1.0;
      owner = subst (λ xs. In o xs) (sym (own.owners t.0 t.1.0)) (inl t.1.1);
      some = ap (λ (x : Owner). x.blocks == 0) t.1.1;
    }

blocks-back : (image : List ℕ) (seen : Seen) (ns : List Naming) → OwnBlocks image seen ns → (o : Owner) → IsOwnerThrough (owners_through image seen) ns o → In o (map block_owner ns)
blocks-back image seen ns own o w =
    let h : In o (block_owner w.naming ∷ []) = subst (λ xs. In o xs) (own.owners w.naming w.one) w.owner in
    elim h as (λ _. In o (map block_owner ns)) [ inl e ↦ subst (λ x. In x (map block_owner ns)) (sym e) (in-map block_owner ns w.naming w.one) | inr k ↦ absurd k ]

no-pool : (image : List ℕ) (seen : Seen) (ns : List Naming) → OwnBlocks image seen ns → (o : Owner) → IsOwnerThrough (pool_owners_through image seen) ns o → ⊥
no-pool image seen ns own o w = subst (λ xs. In o xs) (own.pool_owners w.naming w.one) w.owner

same-naming : (ns : List Naming) (n : Naming) → In n ns → In n ns
same-naming ns n h = h

-- they are added with their blocks
pub grewby-blocks : (image : List ℕ) (seen : Seen) (ns : List Naming) (a b : Held) → OwnBlocks image seen ns → b.namings ≡ a.namings ++ ns → b.owners ≡ a.owners ++ map block_owner ns → b.pool_owners ≡ a.pool_owners → GrewBy image seen ns a b
grewby-blocks image seen ns a b own p q r = record {
  namings = grew-put a.namings b.namings ns (λ n. In n ns) p (same-naming ns) (same-naming ns);
  fits = fits-more a.namings b.namings ns p;
  owners = grew-put a.owners b.owners (map block_owner ns) (IsOwnerThrough (owners_through image seen) ns) q (blocks-to image seen ns own) (blocks-back image seen ns own);
  pool_owners = subst (λ xs. Grew a.pool_owners xs (IsOwnerThrough (pool_owners_through image seen) ns)) (sym r) (grew-none a.pool_owners (IsOwnerThrough (pool_owners_through image seen) ns) (no-pool image seen ns own));
}
