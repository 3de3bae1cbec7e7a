-- Levels fall, and the level at which an object is wanted stands in its bytes.
use Rattle.std.proofs.Common.{◌≡◌, ℕ, zero, suc, ◌<◌, ◌≤◌, Bool, true, false, ◌==◌, List, [], ◌∷◌, Option, Some, None, Result, Ok, Err, is_ok, ◌⊎◌, inl, inr, refl, ap, sym, ◌∙◌, arith, if◌then◌else◌}
use Rattle.std.proofs.lemmas.Grind.{common_steps}
use Rattle.apfs_model.specs.Lists.{In}
use Rattle.apfs_model.specs.Object.{kind_of, root_kind, node_kind, extended_metadata_kind}
use Rattle.obj_base.specs.declared.header.Header.{Header}
use Rattle.obj_base.specs.declared.header.HeadFault.{HeadFault}
use Rattle.obj_base.specs.declared.stop.Bad.{Bad}
use Rattle.obj_base.specs.declared.stop.Bad.TheVariants as bads
use Rattle.obj_base.specs.declared.site.Site.{Site}
use Rattle.obj_base.specs.Sound.{sound_of, expecting}
use Rattle.obj_base.proofs.SoundLemmas.{sound_means}
use Rattle.bt_node.specs.Shape.{Shape}
use Rattle.bt_node.specs.Node as nodes
use Rattle.bt_node.specs.Soundness.{node_of, node_expect, with_header, after_head}
use Rattle.bt_node.specs.SoundNode.{IsNode}
use Rattle.bt_node.specs.declared.fault.NodeFault.{NodeFault}
use Rattle.bt_node.specs.declared.node.NodeAt.{NodeAt}
use Rattle.bt_node.proofs.Laws.{node_means}
use Rattle.bt_keys.specs.Shapes.{fs_shape, fs_plain_shape}
use Rattle.omap_map.specs.declared.records.OmapRecord.{OmapRecord}
use Rattle.reach_rules.specs.declared.naming.TreeKind.TheVariants.{Files}
use Rattle.reach_rules.specs.Tested.{Answer, node_answer, of_node, tested}
use Rattle.reach_rules.proofs.Sounds.{header-ok}
use Rattle.view_sweep.specs.declared.wanted.SweptView.{SweptView}
use Rattle.view_sweep.specs.declared.wanted.Want.{Want}
use Rattle.view_sweep.specs.declared.wanted.Want.TheVariants.{Root, Metadata, Node}
use Rattle.view_sweep.specs.declared.wanted.Wanted.{Wanted}
use Rattle.view_sweep.specs.Wanted.{wanted}
use Rattle.view_sweep.specs.Found.{World, kids_from, kids_by, wants_by, wants_if, next_by, next_of, tested_as, is_sound}
use Rattle.view_sweep.specs.Swept.{level_by, level_of}
use Rattle.view_sweep.proofs.Sounds.{node-level}

-- a node that passes the tests is the one that was tested
after-same : {K : Type 0} (shape : Shape K) (at : NodeAt) (site : Site) (node other : List ℕ) → after_head shape at site node ≡ Ok other → other ≡ node
unfolding after_head
after-same shape at site node other e = grind (arith, common_steps)

with-same : {K : Type 0} (shape : Shape K) (at : NodeAt) (site : Site) (node other : List ℕ) (r : Result Header (Bad HeadFault)) → with_header shape at site node r ≡ Ok other → other ≡ node
with-same shape at site node other (Ok h) e = after-same shape at site node other e
with-same shape at site node other (Err bad) e = absurd (cc)

node-same : {K : Type 0} (shape : Shape K) (at : NodeAt) (site : Site) (node other : List ℕ) → node_of shape at site node ≡ Ok other → other ≡ node
unfolding node_of
node-same shape at site node other e = with-same shape at site node other (sound_of node (node_expect shape at site)) e

is-node : {K : Type 0} (shape : Shape K) (at : NodeAt) (site : Site) (node : List ℕ) (r : Result (List ℕ) (Bad NodeFault)) → node_of shape at site node ≡ r → is_ok (of_node r) ≡ true → IsNode shape at site node
is-node shape at site node (Ok other) e h = e ∙ ap (λ (b : List ℕ). Ok b) (node-same shape at site node other e)
is-node shape at site node (Err (bads.Found why)) e h = absurd (let z : false ≡ true = h in let q : ⊥ = cc in q)
is-node shape at site node (Err (bads.Unsupported feature)) e h = absurd (let z : false ≡ true = h in let q : ⊥ = cc in q)

-- what is known of a node of a view's files
pub record IsFileNode (at : NodeAt) (bytes : List ℕ) : Type 0 where
  pub kind : kind_of bytes ≡ (if at.root then root_kind else node_kind)
  pub shallow : at.root ≡ true → nodes.level_of bytes ≤ 15
  pub level : (level : ℕ) → at.level ≡ Some level → nodes.level_of bytes ≡ level

file-node-of : {K : Type 0} (shape : Shape K) (at : NodeAt) (site : Site) (bytes : List ℕ) → IsNode shape at site bytes → IsFileNode at bytes
file-node-of shape at site bytes sound = let m = node_means shape at site bytes sound in
    record { kind = m.header.kind_right; shallow = m.shallow; level = λ level e. node-level shape at site bytes level sound e }

file-node : (hashed : Bool) (at : NodeAt) (site : Site) (bytes : List ℕ) → is_ok (of_node (node_answer (Files hashed) at site bytes)) ≡ true → IsFileNode at bytes
file-node true at site bytes h = file-node-of fs_shape at site bytes (is-node fs_shape at site bytes (node_of fs_shape at site bytes) refl h)
file-node false at site bytes h = file-node-of fs_plain_shape at site bytes (is-node fs_plain_shape at site bytes (node_of fs_plain_shape at site bytes) refl h)

-- the places of a root and of a node below one
abbrev root_at : ℕ → NodeAt
root_at oid = record { oid = oid; root = true; level = None }

abbrev below_at : ℕ → ℕ → NodeAt
below_at oid level = record { oid = oid; root = false; level = Some level }

root-node : (v : SweptView) (oid : ℕ) (site : Site) (bytes : List ℕ) → is_sound site (wanted v oid Root) bytes ≡ true → IsFileNode (root_at oid) bytes
unfolding tested
root-node v oid site bytes h = file-node v.hashed (root_at oid) site bytes h

below-node : (v : SweptView) (oid level : ℕ) (r : OmapRecord) (entry : ℕ) (site : Site) (bytes : List ℕ) → is_sound site (wanted v oid (Node level r entry)) bytes ≡ true → IsFileNode (below_at oid level) bytes
unfolding tested
below-node v oid level r entry site bytes h = file-node v.hashed (below_at oid level) site bytes h

metadata-kind : (v : SweptView) (oid : ℕ) (site : Site) (bytes : List ℕ) → is_sound site (wanted v oid Metadata) bytes ≡ true → kind_of bytes ≡ extended_metadata_kind
unfolding tested
metadata-kind v oid site bytes h =
    (sound_means bytes (expecting extended_metadata_kind (Some oid) site.max_xid) (header-ok bytes (sound_of bytes (expecting extended_metadata_kind (Some oid) site.max_xid)) h)).kind_right

-- the level that bytes tell: that of a node below a root, and 16 of what a superblock names
abbrev level_in : ℕ → ℕ → ℕ
level_in kind level = if kind == 3 then level else 16

told-by : (v : SweptView) (oid : ℕ) (want : Want) (site : Site) (bytes : List ℕ) → is_sound site (wanted v oid want) bytes ≡ true → level_by want ≡ level_in (kind_of bytes) (nodes.level_of bytes)
told-by v oid Root site bytes h = ap (λ (k : ℕ). level_in k (nodes.level_of bytes)) (sym (root-node v oid site bytes h).kind)
told-by v oid Metadata site bytes h = ap (λ (k : ℕ). level_in k (nodes.level_of bytes)) (sym (metadata-kind v oid site bytes h))
told-by v oid (Node level r entry) site bytes h =
    let n = below-node v oid level r entry site bytes h in
    sym (n.level level refl) ∙ ap (λ (k : ℕ). level_in k (nodes.level_of bytes)) (sym n.kind)

-- one object is sound at one level alone
pub one-level : (site : Site) (a b : Wanted) (bytes : List ℕ) → is_sound site a bytes ≡ true → is_sound site b bytes ≡ true → level_of a ≡ level_of b
one-level site a b bytes h k = told-by a.view a.oid a.want site bytes h ∙ sym (told-by b.view b.oid b.want site bytes k)

-- ---- levels fall
kids-from-level : (v : SweptView) (r : OmapRecord) (level i : ℕ) (oids : List ℕ) (w : Wanted) → In w (kids_from v r level i oids) → level_of w ≡ level
kids-from-level v r level i [] w h = absurd h
kids-from-level v r level i (o ∷ os) w (inl e) = ap level_of e
kids-from-level v r level i (o ∷ os) w (inr h) = kids-from-level v r level (suc i) os w h

kids-level : (v : SweptView) (r : OmapRecord) (level : ℕ) (oids : List ℕ) (w : Wanted) → In w (kids_by v r level oids) → level ≡ suc (level_of w)
kids-level v r zero oids w h = absurd h
kids-level v r (suc level) oids w h = ap suc (sym (kids-from-level v r level 0 oids w h))

-- from above all levels to some level, or from a level to the next one
abbrev pub Falls : ℕ → ℕ → Type 0
Falls high low = ((high ≡ 16) × (low < 16)) ⊎ (high ≡ suc low)

wants-falls : (site : Site) (v : SweptView) (oid : ℕ) (want : Want) (r : OmapRecord) (bytes : List ℕ) (w : Wanted) → is_sound site (wanted v oid want) bytes ≡ true → In w (wants_by v want r bytes) → Falls (level_by want) (level_of w)
wants-falls site v oid Root r bytes w s h =
    let low : nodes.level_of bytes ≤ 15 = (root-node v oid site bytes s).shallow refl in
    let e : nodes.level_of bytes ≡ suc (level_of w) = kids-level v r (nodes.level_of bytes) _ w h in
    inl (refl, omega arith)
wants-falls site v oid Metadata r bytes w s h = absurd h
wants-falls site v oid (Node level namer entry) r bytes w s h = inr (kids-level v r level _ w h)

answer-falls : (site : Site) (m w : Wanted) (r : OmapRecord) (bytes : List ℕ) (a : Answer) → tested_as site m bytes ≡ a → In w (wants_if m r bytes a) → Falls (level_of m) (level_of w)
answer-falls site m w r bytes (Ok b) e h = wants-falls site m.view m.oid m.want r bytes w (ap (λ (x : Answer). is_ok x) e) h
answer-falls site m w r bytes (Err bad) e h = absurd h

by-falls : (k : World) (m w : Wanted) (o : Option OmapRecord) → In w (next_by k m o) → Falls (level_of m) (level_of w)
by-falls k m w None h = absurd h
by-falls k m w (Some r) h = answer-falls k.site m w r (k.bytes r) (tested_as k.site m (k.bytes r)) refl h

pub next-falls : (k : World) (m w : Wanted) → In w (next_of k m) → Falls (level_of m) (level_of w)
unfolding next_of
next-falls k m w h = by-falls k m w (k.look m) h
