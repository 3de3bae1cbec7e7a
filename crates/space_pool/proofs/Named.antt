-- What the look-up of ephemeral ids names.
use Rattle.std.specs.Prelude.{◌≡◌, ℕ, ◌==◌, List, length, Option, None, Some, option_map, option_and_then, refl, if◌then◌else◌}
use Rattle.std.proofs.Common.{ap, sym, ◌∙◌}
use Rattle.apfs_model.specs.Blocks.{in_container}
use Rattle.obj_base.specs.declared.site.Site.{Site}
use Rattle.obj_base.specs.declared.stop.Stop.TheVariants.{Found}
use Rattle.bt_keys.specs.Shapes.{queue_shape}
use Rattle.bt_cursor.specs.Tree.{root_place, node_named}
use Rattle.bt_cursor.specs.Met.{first}
use Rattle.bt_cursor.specs.Faults.{HasGap}
use Rattle.bt_cursor.specs.declared.fault.WalkFault.TheVariants.{Unnamed}
use Rattle.nx_ring.specs.Objects.{Place}
use Rattle.nx_ring.specs.Checkpoint.{Seen, eph, object_of, object_block_of, site_of}
use Rattle.space_pool.specs.Queues.{one_block, ephemeral_named, queue_tree}

none-of : (site : Site) (o : Option Place) → None ≡ option_map (λ (p : Place). p.bytes) o → None ≡ option_and_then (one_block site) o
none-of site None e = refl
none-of site (Some p) e = absurd (cc)

one-of : (site : Site) (o : Option Place) (bytes : List ℕ) (block : ℕ) → Some bytes ≡ option_map (λ (p : Place). p.bytes) o → Some block ≡ option_map (λ (p : Place). p.block) o
    → (if length bytes == site.block_size then in_container site.blocks block else None) ≡ option_and_then (one_block site) o
one-of site None bytes block e f = absurd (cc)
one-of site (Some p) bytes block e f =
    let same : bytes ≡ p.bytes = cc in
    let at : block ≡ p.block = cc in
    ap (λ (b : List ℕ). if length b == site.block_size then in_container site.blocks block else None) same ∙ ap (λ (n : ℕ). if length p.bytes == site.block_size then in_container site.blocks n else None) at

-- an id without an object names no block
pub named-none : (seen : Seen) (oid : ℕ) → None ≡ object_of seen oid → None ≡ ephemeral_named seen oid
unfolding ephemeral_named
named-none seen oid e = none-of (site_of seen) (eph seen oid) e

-- and one with an object its block, by the object's length
pub named-one : (seen : Seen) (site : Site) (oid : ℕ) (bytes : List ℕ) (block : ℕ) → site ≡ site_of seen → Some bytes ≡ object_of seen oid → Some block ≡ object_block_of seen oid
    → (if length bytes == site.block_size then in_container site.blocks block else None) ≡ ephemeral_named seen oid
unfolding ephemeral_named
named-one seen site oid bytes block same e f =
    ap (λ (s : Site). if length bytes == s.block_size then in_container s.blocks block else None) same ∙ one-of (site_of seen) (eph seen oid) bytes block e f

-- a root that names no block isn't there
pub unnamed-root : (image : List ℕ) (seen : Seen) (root : ℕ) → None ≡ ephemeral_named seen root → HasGap (queue_tree image seen) root (Found (Unnamed root))
unnamed-root image seen root e = record {
  at = root_place root;
  met = first;
  gap = ap (λ (o : Option ℕ). node_named queue_shape (site_of seen) image (root_place root) (option_and_then (in_container (site_of seen).blocks) o)) (sym e);
}
