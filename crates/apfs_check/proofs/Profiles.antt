-- Under Strict three kinds of note are faults, and all else is as under Plain.
use Rattle.std.proofs.Common.{◌≡◌, ℕ, List, map, refl, ap}
use Rattle.std.specs.Prelude.{◌↔◌}
use Rattle.apfs_model.specs.Lists.{In}
use Rattle.obj_base.specs.declared.site.Site.{Site}
use Rattle.nx_ring.specs.Checkpoint.{site_of}
use Rattle.vol_view.specs.Heads.{heads_of}
use Rattle.vol_view.specs.Views.{views_of}
use Rattle.vol_view.specs.Volumes.{Loaded}
use Rattle.vol_view.specs.declared.head.VolHead.{VolHead}
use Rattle.vol_view.specs.declared.volume.View.{View}
use Rattle.ext_ref.specs.declared.range.NewRange.{NewRange}
use Rattle.apfs_check.specs.Laws.{HasNoStrictNotes}
use Rattle.view_rules.specs.Names.{HasNameHashes}
use Rattle.view_rules.specs.Rules.{view_facts, HasTreeRules}
use Rattle.view_rules.specs.declared.profile.Profile.{Profile}
use Rattle.view_rules.specs.declared.profile.Profile.TheVariants.{Plain, Strict}
use Rattle.apfs_check.specs.Volumes.{volume_of, volume_ranges}
use Rattle.apfs_check.specs.Data.{unreached_in, miscounted_in, HasRightData}
use Rattle.apfs_check.specs.Notes.{of_views, view_hash_notes, unreached_note, unreached_notes, count_note, count_notes}
use Rattle.apfs_check.specs.WellFormed.{IsWellFormed}
use Rattle.apfs_model.proofs.Empty.{map-none, flat-none, none-flat}
use Rattle.tree_rules.proofs.Nexts.{hashes-clear, clear-hashes}

-- the rules of a view under another profile, where the hashes are right if it is Strict
rules-under : (a b : Profile) (image : List ℕ) (site : Site) (volume : Loaded) (view : View) (ranges : List NewRange) → (b ≡ Strict → HasNameHashes (view_facts image site volume view)) → HasTreeRules a image site volume view ranges → HasTreeRules b image site volume view ranges
rules-under a b image site volume view ranges hashes r = record {
  walkable = r.walkable;
  ordered = r.ordered;
  counted = r.counted;
  records = r.records;
  facts = record {
    entry_names = r.facts.entry_names;
    attribute_names = r.facts.attribute_names;
    ascii_hashes = r.facts.ascii_hashes;
    parents = r.facts.parents;
    files = r.facts.files;
    root = r.facts.root;
    kinds = r.facts.kinds;
    directory_names = r.facts.directory_names;
    root_name = r.facts.root_name;
    ways = r.facts.ways;
    children = r.facts.children;
    links = r.facts.links;
    entry_fellows = r.facts.entry_fellows;
    link_fellows = r.facts.link_fellows;
    map_fellows = r.facts.map_fellows;
    marks = r.facts.marks;
    extent_order = r.facts.extent_order;
    extent_places = r.facts.extent_places;
    cover = r.facts.cover;
    targets = r.facts.targets;
    stream_sizes = r.facts.stream_sizes;
    body_sizes = r.facts.body_sizes;
    owners = r.facts.owners;
    name_hashes = hashes;
  };
}

-- ---- a container
-- what is well-formed under a profile is so under another, where hashes and data are right if that is Strict
abbrev under : (a b : Profile) (image : List ℕ) (w : IsWellFormed a image) →
    ((head : VolHead) → In head (heads_of image w.seen) → (view : View) → In view (views_of (volume_of image w.seen head) w.seen) → b ≡ Strict → HasNameHashes (view_facts image (site_of w.seen) (volume_of image w.seen head) view)) →
    ((head : VolHead) → In head (heads_of image w.seen) → b ≡ Strict → HasRightData image w.seen head) → IsWellFormed b image
under a b image w hashes reached = record {
  seen = w.seen;
  newest = w.newest;
  right = record {
    accounted = w.right.accounted;
    volumes = λ head one. let v = w.right.volumes head one in record {
      agreed = v.agreed;
      views = λ view h. rules-under a b image (site_of w.seen) (volume_of image w.seen head) view (volume_ranges image (site_of w.seen) head) (hashes head one view h) (v.views view h);
      ranges = reached head one;
    };
  };
}

-- what is well-formed under Strict is so under Plain
pub strict-plain : (image : List ℕ) → IsWellFormed Strict image → IsWellFormed Plain image
strict-plain image w = under Strict Plain image w (λ head one view h e. absurd (cc)) (λ head one e. absurd (cc))

-- what is well-formed under Strict has none of the three kinds of note
pub strict-noteless : (image : List ℕ) (w : IsWellFormed Strict image) → HasNoStrictNotes image w.seen
strict-noteless image w = record {
  hashes = none-flat (of_views view_hash_notes image w.seen) (heads_of image w.seen) (λ head one.
      none-flat (view_hash_notes image w.seen head) (views_of (volume_of image w.seen head) w.seen) (λ view h.
      clear-hashes view (view_facts image (site_of w.seen) (volume_of image w.seen head) view) (((w.right.volumes head one).views view h).facts.name_hashes refl)));
  unreached = none-flat (unreached_notes image w.seen) (heads_of image w.seen) (λ head one. ap (map (unreached_note head)) ((w.right.volumes head one).ranges refl).reached);
  counts = none-flat (count_notes image w.seen) (heads_of image w.seen) (λ head one. ap (map (count_note image w.seen head)) ((w.right.volumes head one).ranges refl).counted);
}

-- what is well-formed under Plain and has none of them is so under Strict
pub noteless-strict : (image : List ℕ) (w : IsWellFormed Plain image) → HasNoStrictNotes image w.seen → IsWellFormed Strict image
noteless-strict image w n = under Plain Strict image w
    (λ head one view h _. hashes-clear view (view_facts image (site_of w.seen) (volume_of image w.seen head) view)
    (flat-none (view_hash_notes image w.seen head) (views_of (volume_of image w.seen head) w.seen) (flat-none (of_views view_hash_notes image w.seen) (heads_of image w.seen) n.hashes head one) view h))
    (λ head one _. record {
      reached = map-none (unreached_note head) (unreached_in image w.seen head) (flat-none (unreached_notes image w.seen) (heads_of image w.seen) n.unreached head one);
      counted = map-none (count_note image w.seen head) (miscounted_in image w.seen head) (flat-none (count_notes image w.seen) (heads_of image w.seen) n.counts head one);
    })

-- well-formed under Strict is well-formed under Plain without such notes
pub strict_plain : (image : List ℕ) → IsWellFormed Strict image ↔ ((w : IsWellFormed Plain image) × HasNoStrictNotes image w.seen)
unfolding strict-plain
strict_plain image = ((λ w. (strict-plain image w, strict-noteless image w)), (λ t. noteless-strict image t.0 t.1))
