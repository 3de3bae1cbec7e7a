-- A plain change of a small view: a file is moved into a directory and written anew, one is deleted, a directory is made, and a file with two names stays.
use Rattle.std.proofs.Common.{◌≡◌, ℕ, ◌*◌, Bool, true, false, List, [], ◌∷◌, Option, Some, None, ◌⊎◌, inl, inr, refl, sym, subst, arith}
use Rattle.std.specs.Prelude.{pos, ◌&&◌, codes}
use Rattle.std.specs.List.{list_any}
use Rattle.apfs_model.specs.Lists.{In}
use Rattle.apfs_model.proofs.BoolTests.{clash, both-true}
use Rattle.obj_base.specs.declared.site.Site.{Site}
use Rattle.ext_ref.specs.Cover.{is_owned, is_covered}
use Rattle.ext_ref.specs.declared.range.NewRange.{NewRange}
use Rattle.fs_name.specs.declared.naming.Names.TheVariants.{Exact}
use Rattle.fs_name.specs.Text.{is_ascii_name}
use Rattle.fs_record.specs.Inodes.{Inode}
use Rattle.fs_record.specs.Entries.{Entry}
use Rattle.fs_record.specs.Siblings.{Link}
use Rattle.fs_record.specs.Facts.{Fact}
use Rattle.fs_record.specs.StreamExtents.{is_extent_even, are_extents_ordered, is_extent_placed}
use Rattle.fs_record.specs.declared.extents.FileExt.{FileExt}
use Rattle.view_rules.specs.Facts.{Facts}
use Rattle.view_rules.specs.Names.{is_entry_repeated, is_attribute_repeated, has_other_hash, has_other_ascii_hash, has_other_name_hash}
use Rattle.view_rules.specs.Entries.{lacks_parent, lacks_inode, has_root, has_other_kind}
use Rattle.view_rules.specs.Directories.{is_user_directory, is_misnamed, is_root_named, parent_at, Leads, low, up}
use Rattle.view_rules.specs.Counts.{has_other_children, has_other_links}
use Rattle.view_rules.specs.Siblings.{is_entry_lost, is_link_lost, is_map_lost, is_unmarked}
use Rattle.view_rules.specs.Extents.{is_disordered, is_misplaced, is_uncovered}
use Rattle.view_rules.specs.Inodes.{lacks_target, has_large_stream, has_large_body, lacks_owner}
use Rattle.view_rules.specs.Rules.{HasFactRules}
use Rattle.view_rules.specs.declared.profile.Profile.TheVariants.{Strict}
use Rattle.rule_changes.specs.Changes.{ended, stays, differs, IsChange, IsClearWhere, has_double, IsUnused, stands_as_in, IsPlainChange}
use Rattle.rule_changes.proofs.Weaving.{none-in}
use Rattle.rule_changes.proofs.Known.{distinct-ids}
use Rattle.rule_changes.proofs.Fellows.{fellows-alone}
use Rattle.rule_changes.proofs.Law.{change-keeps}

abbrev inode : ℕ → ℕ → ℕ → ℕ → Fact Inode
inode id kind parent links = record { id = id; what = record { parent = parent; private_id = id; links = pos links; bsd_flags = 0; mode = 4096 * kind; stream = None } }

abbrev entry : ℕ → List ℕ → ℕ → ℕ → Option ℕ → Fact Entry
entry id name file kind sibling = record { id = id; what = record { name = name; hash = 0; file_id = file; kind = kind; sibling = sibling } }

abbrev link : ℕ → ℕ → ℕ → List ℕ → Fact Link
link file sibling parent name = record { id = file; what = record { file = file; sibling = sibling; parent = parent; name = name } }

abbrev sibling_map : ℕ → ℕ → Fact ℕ
sibling_map sibling file = record { id = sibling; what = file }

abbrev extent : ℕ → ℕ → Fact FileExt
extent id block = record { id = id; what = record { logical = 0; length = 4096; block = block } }

abbrev facts : List (Fact Inode) → List (Fact Entry) → List (Fact Link) → List (Fact ℕ) → List (Fact FileExt) → Facts
facts inodes entries links siblings extents = record { names = Exact; inodes = inodes; entries = entries; attributes = []; links = links; siblings = siblings; extents = extents }

abbrev site : Site
site = record { block_size = 4096; blocks = 100; max_xid = 9 }

abbrev ranges : List NewRange
ranges = record { first = 10; length = 20; count = pos 1 } ∷ []

abbrev twin_links : List (Fact Link)
twin_links = link 20 30 2 (codes "s") ∷ link 20 31 2 (codes "t") ∷ []

abbrev twin_maps : List (Fact ℕ)
twin_maps = sibling_map 30 20 ∷ sibling_map 31 20 ∷ []

abbrev before : Facts
before = facts
    (inode 2 4 1 5 ∷ inode 16 8 2 1 ∷ inode 17 4 2 0 ∷ inode 18 8 2 1 ∷ inode 20 8 2 2 ∷ [])
    (entry 2 (codes "a") 16 8 None ∷ entry 2 (codes "d") 17 4 None ∷ entry 2 (codes "s") 20 8 (Some 30) ∷ entry 2 (codes "t") 20 8 (Some 31) ∷ entry 2 (codes "x") 18 8 None ∷ [])
    twin_links twin_maps
    (extent 16 10 ∷ extent 20 11 ∷ [])

abbrev after : Facts
after = facts
    (inode 2 4 1 4 ∷ inode 16 8 17 1 ∷ inode 17 4 2 1 ∷ inode 19 4 2 0 ∷ inode 20 8 2 2 ∷ [])
    (entry 2 (codes "d") 17 4 None ∷ entry 2 (codes "e") 19 4 None ∷ entry 2 (codes "s") 20 8 (Some 30) ∷ entry 2 (codes "t") 20 8 (Some 31) ∷ entry 17 (codes "b") 16 8 None ∷ [])
    twin_links twin_maps
    (extent 16 12 ∷ extent 20 11 ∷ [])

abbrev gone : Facts
gone = facts (inode 2 4 1 5 ∷ inode 16 8 2 1 ∷ inode 17 4 2 0 ∷ inode 18 8 2 1 ∷ []) (entry 2 (codes "a") 16 8 None ∷ entry 2 (codes "x") 18 8 None ∷ []) [] [] (extent 16 10 ∷ [])

abbrev come : Facts
come = facts (inode 2 4 1 4 ∷ inode 16 8 17 1 ∷ inode 17 4 2 1 ∷ inode 19 4 2 0 ∷ []) (entry 2 (codes "e") 19 4 None ∷ entry 17 (codes "b") 16 8 None ∷ []) [] [] (extent 16 12 ∷ [])

abbrev same : Facts
same = facts (inode 20 8 2 2 ∷ []) (entry 2 (codes "d") 17 4 None ∷ entry 2 (codes "s") 20 8 (Some 30) ∷ entry 2 (codes "t") 20 8 (Some 31) ∷ []) twin_links twin_maps (extent 20 11 ∷ [])

changed : IsChange before after gone come same
changed = record {
  names = refl;
  left = record {
    inodes = differs _ _ _ _ (differs _ _ _ _ (differs _ _ _ _ (differs _ _ _ _ (stays _ _ _ _ ended))));
    entries = differs _ _ _ _ (stays _ _ _ _ (stays _ _ _ _ (stays _ _ _ _ (differs _ _ _ _ ended))));
    attributes = ended;
    links = stays _ _ _ _ (stays _ _ _ _ ended);
    siblings = stays _ _ _ _ (stays _ _ _ _ ended);
    extents = differs _ _ _ _ (stays _ _ _ _ ended);
  };
  made = record {
    inodes = differs _ _ _ _ (differs _ _ _ _ (differs _ _ _ _ (differs _ _ _ _ (stays _ _ _ _ ended))));
    entries = stays _ _ _ _ (differs _ _ _ _ (stays _ _ _ _ (stays _ _ _ _ (differs _ _ _ _ ended))));
    attributes = ended;
    links = stays _ _ _ _ (stays _ _ _ _ ended);
    siblings = stays _ _ _ _ (stays _ _ _ _ ended);
    extents = differs _ _ _ _ (stays _ _ _ _ ended);
  };
  distinct_before = distinct-ids before refl;
  distinct_after = distinct-ids after refl;
}

-- a list is clear where none of it breaks the rule; so it is of those whose ids pass a test
where-none : {X : Type 0} (test : ℕ → Bool) (breaks : Fact X → Bool) (xs : List (Fact X)) → list_any (λ (x : Fact X). test x.id && breaks x) xs ≡ false → IsClearWhere test breaks xs
where-none {X} test breaks xs none x h t = never (breaks x) (λ b. clash (test x.id && breaks x) (both-true (test x.id) (breaks x) t b) (none-in (λ (x : Fact X). test x.id && breaks x) xs none x h))
  where
    never : (b : Bool) → (b ≡ true → ⊥) → b ≡ false
    never true f = absurd (f refl)
    never false f = refl

-- each of a list, one by one
abbrev Each : {X : Type 0} → (X → Type 0) → List X → Type 0
Each P [] = Unit {0}
Each P (x ∷ xs) = P x × Each P xs

each-in : {X : Type 0} (P : X → Type 0) (xs : List X) → Each P xs → (x : X) → In x xs → P x
each-in P [] all x h = absurd h
each-in P (y ∷ ys) all x (inl e) = subst P (sym e) all.0
each-in P (y ∷ ys) all x (inr h) = each-in P ys all.1 x h

-- what isn't so
untrue : {A : Type 0} → false ≡ true → A
untrue e = clash false e refl

before_right : HasFactRules Strict site ranges before
unfolding is_entry_repeated is_attribute_repeated has_other_hash has_other_ascii_hash has_other_name_hash is_ascii_name lacks_parent lacks_inode has_root has_other_kind is_misnamed is_root_named has_other_children has_other_links is_entry_lost is_link_lost is_map_lost is_unmarked is_disordered are_extents_ordered is_extent_even is_misplaced is_extent_placed is_uncovered is_covered is_owned lacks_target has_large_stream has_large_body lacks_owner
before_right =
    let Way : Fact Inode → Type 0 = λ f. is_user_directory f ≡ true → Leads (parent_at before) f.id in
    record {
      entry_names = none-in _ before.entries refl;
      attribute_names = λ x h. absurd h;
      ascii_hashes = none-in _ before.entries refl;
      parents = none-in _ before.entries refl;
      files = none-in _ before.entries refl;
      root = refl;
      kinds = none-in _ before.entries refl;
      directory_names = none-in _ before.inodes refl;
      root_name = refl;
      ways = each-in Way before.inodes (λ t. untrue t, (λ t. untrue t, (λ t. up 17 2 refl (low 2 (omega arith)), (λ t. untrue t, (λ t. untrue t, tt)))));
      children = none-in _ before.inodes refl;
      links = none-in _ before.inodes refl;
      entry_fellows = none-in _ before.entries refl;
      link_fellows = none-in _ before.links refl;
      map_fellows = none-in _ before.siblings refl;
      marks = none-in _ before.entries refl;
      extent_order = none-in _ before.extents refl;
      extent_places = none-in _ before.extents refl;
      cover = none-in _ before.extents refl;
      targets = none-in _ before.inodes refl;
      stream_sizes = none-in _ before.inodes refl;
      body_sizes = λ x h. absurd h;
      owners = λ x h. absurd h;
      name_hashes = λ strict. none-in _ before.entries refl;
    }

plain : IsPlainChange Strict site ranges before after gone come
unfolding is_entry_repeated is_attribute_repeated has_other_hash has_other_ascii_hash has_other_name_hash is_ascii_name lacks_parent lacks_inode has_root has_other_kind is_misnamed is_root_named has_other_children has_other_links is_unmarked is_disordered are_extents_ordered is_extent_even is_misplaced is_extent_placed is_uncovered is_covered is_owned lacks_target has_large_stream has_large_body lacks_owner
plain =
    let Kept : Fact Inode → Type 0 = λ f. (has_double come f ≡ true) ⊎ IsUnused after f in
    let Way : Fact Inode → Type 0 = λ f. is_user_directory f ≡ true → (stands_as_in gone f ≡ true) ⊎ Leads (parent_at after) f.id in
    record {
      inodes = each-in Kept gone.inodes (inl refl, (inl refl, (inl refl, (inr (record { entries = refl; attributes = refl; children = λ t. untrue t }), tt))));
      root = refl;
      root_name = refl;
      entry_names = none-in _ come.entries refl;
      ascii_hashes = none-in _ come.entries refl;
      name_hashes = λ strict. none-in _ come.entries refl;
      parents = none-in _ come.entries refl;
      files = none-in _ come.entries refl;
      kinds = none-in _ come.entries refl;
      directory_names = where-none _ _ after.inodes refl;
      links = where-none _ _ after.inodes refl;
      children = where-none _ _ after.inodes refl;
      ways = each-in Way come.inodes (λ t. untrue t, (λ t. untrue t, (λ t. inl refl, (λ t. inr (up 19 2 refl (low 2 (omega arith))), tt))));
      fellows = fellows-alone after gone come (record { links = refl; siblings = refl; entries = none-in _ gone.entries refl }) (record { links = refl; siblings = refl; entries = none-in _ come.entries refl });
      marks = none-in _ come.entries refl;
      shared = none-in _ come.entries refl;
      attribute_names = λ x h. absurd h;
      owners = λ x h. absurd h;
      targets = where-none _ _ after.inodes refl;
      stream_sizes = none-in _ come.inodes refl;
      body_sizes = λ x h. absurd h;
      extent_order = where-none _ _ after.extents refl;
      extent_places = none-in _ come.extents refl;
      cover = none-in _ come.extents refl;
    }

after_right : HasFactRules Strict site ranges after
after_right = change-keeps Strict site ranges before after gone come same before_right changed plain
