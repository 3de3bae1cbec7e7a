-- What the EFI jumpstart adds.
use Rattle.std.proofs.Common.{◌≡◌, ℕ, Bool, true, false, List, [], ◌∷◌, ◌++◌, inl, inr, refl, ap, sym, ◌∙◌, subst, if◌then◌else◌}
use Rattle.std.proofs.lemmas.List.{append-nil}
use Rattle.std.specs.Prelude.{◌==◌}
use Rattle.apfs_model.specs.Blocks.{block_of}
use Rattle.apfs_model.specs.Lists.{In, Lists}
use Rattle.apfs_model.proofs.BoolTests.{never-true, equal-from}
use Rattle.nx_block.specs.Super.{jumpstart_of}
use Rattle.nx_block.specs.Jump.{jump_extents_of}
use Rattle.nx_ring.specs.Checkpoint.{Seen, site_of}
use Rattle.reach_rules.specs.declared.naming.LookUp.TheVariants.{ByBlock}
use Rattle.reach_rules.specs.declared.naming.Object.TheVariants.{Newest}
use Rattle.reach_rules.specs.declared.naming.Namer.TheVariants.{Whole}
use Rattle.reach_rules.specs.declared.naming.Expected.TheVariants.{Jumpstart, TreeRoot}
use Rattle.reach_rules.specs.declared.naming.Naming.{Naming}
use Rattle.reach_rules.specs.Naming.{naming}
use Rattle.reach_rules.specs.Resolved.{Found}
use Rattle.reach_rules.specs.Next.{next}
use Rattle.reach_rules.specs.Live.{Live}
use Rattle.reach_rules.specs.Owners.{told_from, owners_through}
use Rattle.reach_gather.specs.Namings.{IsPlainNaming}
use Rattle.reach_gather.specs.Container.{jumpstart_naming}
use Rattle.reach_gather.specs.ViewParts.{is_in_view}
use Rattle.reach_gather.proofs.Container.{plain-block}
use Rattle.reach_gather.proofs.Joined.{part-apart}
use Rattle.reach_gather.specs.Jumped.{IsJumped}
use Rattle.reach_gather.specs.Held.{Held, some_owners}
use Rattle.reach_gather.specs.Adds.{Adds}
use Rattle.reach_gather.specs.Steps.{block_owner}
use Rattle.reach_gather.proofs.Growing.{grewby-one}
use Rattle.reach_gather.proofs.Owning.{own-block, pool-block}
use Rattle.reach_gather.proofs.Told.{told-after}
use Rattle.reach_gather.proofs.Fields.{unless-some}

if-not : {A : Type 0} (b : Bool) (x y : A) → b ≡ false → (if b then x else y) ≡ y
if-not true x y e = absurd (cc)
if-not false x y e = refl

-- the naming of a jumpstart
abbrev pub jump_by : ℕ → Naming
jump_by block = naming (Whole Newest) 1272 Jumpstart ByBlock block

jump-one : (n m : Naming) → In m (n ∷ []) → m ≡ n
jump-one n m (inl e) = e
jump-one n m (inr h) = absurd h

pub jump-adds : (image : List ℕ) (seen : Seen) (extents : List (ℕ × ℕ)) (a b c : Held) → IsJumped image seen extents → (jumpstart_of seen.nx ≡ 0 → ⊥)
    → b.namings ≡ a.namings ++ jump_by (jumpstart_of seen.nx) ∷ [] → b.owners ≡ a.owners ++ block_owner (jump_by (jumpstart_of seen.nx)) ∷ [] → b.pool_owners ≡ a.pool_owners
    → c.namings ≡ b.namings → c.owners ≡ b.owners ++ some_owners (told_from (jump_by (jumpstart_of seen.nx)) 0 extents) → c.pool_owners ≡ b.pool_owners
    → Adds image seen (jumpstart_naming seen.nx) [] a c
jump-adds image seen extents a b c is not p q r s t u =
    let block : ℕ = jumpstart_of seen.nx in
    let n : Naming = jump_by block in
    let some : jumpstart_naming seen.nx ≡ n ∷ [] = unless-some (Whole Newest) 1272 Jumpstart ByBlock block not in
    let plain : IsPlainNaming image seen n = is.plain n (subst (λ ns. In n ns) (sym some) (inl refl)) in
    let lists : Lists (n ∷ []) (Live (jumpstart_naming seen.nx) (next image seen)) = subst (λ ns. Lists ns (Live (jumpstart_naming seen.nx) (next image seen))) some is.live in
    let bytes : plain.object.bytes ≡ block_of (site_of seen).block_size image block = ap (λ (f : Found). f.bytes) (plain-block image seen n plain refl) in
    let told : extents ≡ jump_extents_of plain.object.bytes =
    is.told ∙ (if-not (block == 0) [] (jump_extents_of (block_of (site_of seen).block_size image block)) (never-true (block == 0) (λ z. not (equal-from block 0 z))) ∙ ap jump_extents_of (sym bytes)) in
    let own : owners_through image seen n ≡ block_owner n ∷ told_from n 0 (jump_extents_of plain.object.bytes) = own-block image seen n Jumpstart plain refl refl refl in
    record {
      these = n ∷ [];
      part = part-apart image seen (jumpstart_naming seen.nx) (n ∷ []) ((λ h. h), tt) lists (λ m h. subst (IsPlainNaming image seen) (sym (jump-one n m h)) plain);
      outside = λ m h. ap (λ (x : Naming). is_in_view x.how) (jump-one n m h);
      trees = λ m kind h e. absurd (let z : Jumpstart ≡ TreeRoot kind = ap (λ (x : Naming). x.expected) (sym (jump-one n m h)) ∙ e in let k : ⊥ = cc in k);
      grew = grewby-one image seen n a c (s ∙ p)
          (told-after a.owners b.owners c.owners (block_owner n) (told_from n 0 extents) (told_from n 0 (jump_extents_of plain.object.bytes)) q t (ap (told_from n 0) told)
          ∙ ap (λ xs. a.owners ++ some_owners xs) (sym own))
          (u ∙ (r ∙ (sym (append-nil a.pool_owners) ∙ ap (λ xs. a.pool_owners ++ some_owners xs) (sym (pool-block image seen n Jumpstart plain refl refl refl)))));
    }
