-- The rules on facts that are more than a test of each item: each is clear, or something breaks it.
use Rattle.std.proofs.Common.{◌≡◌, ℕ, Bool, true, false, map, Option, Some, None, ◌⊎◌, inl, inr, refl, sym, ◌∙◌, subst}
use Rattle.std.specs.Prelude.{is_some, option_map, ◌&&◌, ◌==◌}
use Rattle.std.specs.List.{find}
use Rattle.std.proofs.lemmas.Bool.{false≢true}
use Rattle.std.proofs.lemmas.Bool.Decides.{Decides-eqb}
use Rattle.apfs_model.specs.Lists.{In}
use Rattle.fs_record.specs.Inodes.{Inode}
use Rattle.fs_record.specs.Entries.{Entry}
use Rattle.fs_record.specs.Facts.{Fact, root_id}
use Rattle.view_rules.specs.Words.{IsBroken}
use Rattle.view_rules.specs.Facts.{Facts, inode_at}
use Rattle.view_rules.specs.Entries.{has_root, IsNoRoot}
use Rattle.view_rules.specs.Directories.{is_user_directory, is_root_named, parent_at, Leads, HasWays, IsUnreached}
use Rattle.view_rules.specs.Siblings.{is_twin, is_entry_lost, sibling_place, HasEntryFellows}
use Rattle.apfs_model.proofs.BoolTests.{test_or}
use Rattle.apfs_model.proofs.Searches.{every_or, found-in, in-map}
use Rattle.view_rules.proofs.Searches.{clear_or}
use Rattle.view_rules.proofs.Ways.{leads_or}

-- the root is a directory, or the fault is there
pub root_or : (facts : Facts) → (has_root facts ≡ true) ⊎ IsNoRoot facts root_id
root_or facts = elim (test_or (has_root facts)) as (λ _. (has_root facts ≡ true) ⊎ IsNoRoot facts root_id) [ inl y ↦ inl y | inr n ↦ inr (refl, n) ]

-- the root has no entry, or it has one
pub root_name_or : (facts : Facts) → (is_root_named facts ≡ false) ⊎ (is_root_named facts ≡ true)
root_name_or facts = elim (test_or (is_root_named facts)) as (λ _. (is_root_named facts ≡ false) ⊎ (is_root_named facts ≡ true)) [ inl y ↦ inr y | inr n ↦ inl n ]

mapped : {X Y : Type 0} (f : X → Y) (o : Option X) (y : Y) → option_map f o ≡ Some y → (x : X) × (o ≡ Some x)
mapped f None y e = absurd cc
mapped f (Some x) y e = (x, refl)

-- an id that has a parent is that of an inode
known : (facts : Facts) (id parent : ℕ) → parent_at facts id ≡ Some parent → In id (map (λ (f : Fact Inode). f.id) facts.inodes)
known facts id parent e =
    let at = mapped (λ (inode : Inode). inode.parent) (inode_at facts id) parent e in
    let fact = mapped (λ (f : Fact Inode). f.what) (find (λ (f : Fact Inode). f.id == id) facts.inodes) at.0 at.1 in
    let found = found-in (λ (f : Fact Inode). f.id == id) facts.inodes fact.0 fact.1 in
    let same : fact.0.id ≡ id = (Decides-eqb fact.0.id id).0 found.1 in
    subst (λ i. In i (map (λ (f : Fact Inode). f.id) facts.inodes)) same (in-map (λ (f : Fact Inode). f.id) facts.inodes fact.0 found.0)

-- each directory has a way below 16, or one has none
pub ways_or : (facts : Facts) → HasWays facts ⊎ ((id : ℕ) × IsUnreached facts id)
ways_or facts =
    let Good : Fact Inode → Type 0 = λ f. is_user_directory f ≡ true → Leads (parent_at facts) f.id in
    let Bad : Fact Inode → Type 0 = λ f. (is_user_directory f ≡ true) × (Leads (parent_at facts) f.id → ⊥) in
    let test : (f : Fact Inode) → Good f ⊎ Bad f = λ f. elim (test_or (is_user_directory f)) as (λ _. Good f ⊎ Bad f) [
      | inr n ↦ inl (λ y. absurd (false≢true (sym n ∙ y)))
      | inl y ↦ elim (leads_or (parent_at facts) (map (λ (f : Fact Inode). f.id) facts.inodes) (known facts) f.id) as (λ _. Good f ⊎ Bad f) [ inl l ↦ inl (λ _. l) | inr n ↦ inr (y, n) ]
    ] in
    elim (every_or Good Bad test facts.inodes) as (λ _. HasWays facts ⊎ ((id : ℕ) × IsUnreached facts id)) [
      | inl all ↦ inl all
      | inr t ↦ inr (t.0.id, record { item = t.0; listed = t.1.0; same = refl; directory = t.1.1.0; lost = t.1.1.1 })
    ]

-- what is unreached has no way
pub unreached-ways : (facts : Facts) (id : ℕ) → IsUnreached facts id → HasWays facts → ⊥
unreached-ways facts id u ways = u.lost (ways u.item u.listed u.directory)

some-value : {X : Type 0} (o : Option X) → is_some o ≡ true → (x : X) × (o ≡ Some x)
some-value None e = absurd cc
some-value (Some x) e = (x, refl)

and-left : (a b : Bool) → (a && b) ≡ true → a ≡ true
and-left true b e = refl
and-left false b e = absurd cc

-- an entry that lacks its fellows has a sibling's id
lost-sibling : (facts : Facts) (e : Fact Entry) → is_entry_lost facts e ≡ true → (s : ℕ) × (e.what.sibling ≡ Some s)
unfolding is_entry_lost
lost-sibling facts e lost =
    let twin : is_twin e ≡ true = and-left (is_twin e) _ lost in
    some-value e.what.sibling (and-left (is_some e.what.sibling) _ twin)

-- each entry has its fellows, or one of a sibling lacks them
pub entry_fellows_or : (facts : Facts) → HasEntryFellows facts ⊎ ((id : ℕ) × IsBroken (is_entry_lost facts) sibling_place facts.entries (Some id))
entry_fellows_or facts =
    elim (clear_or (is_entry_lost facts) sibling_place facts.entries) as (λ _. HasEntryFellows facts ⊎ ((id : ℕ) × IsBroken (is_entry_lost facts) sibling_place facts.entries (Some id))) [
      | inl all ↦ inl all
      | inr t ↦ let b = t.1 in let s = lost-sibling facts b.item b.breach in
          inr (s.0, record { item = b.item; listed = b.listed; same = s.1; breach = b.breach })
    ]
