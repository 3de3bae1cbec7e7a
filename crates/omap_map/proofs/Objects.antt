-- The object of a map, by its sound object.
use Rattle.std.specs.Prelude.{◌≡◌, ℕ, Bool, true, false, List, Option, Some, Result, Ok, Err, refl, if◌then◌else◌}
use Rattle.std.proofs.Common.{ap, sym, ◌∙◌}
use Rattle.apfs_model.specs.Object.{map_kind}
use Rattle.obj_base.specs.declared.header.Header.{Header}
use Rattle.obj_base.specs.declared.header.HeadFault.{HeadFault}
use Rattle.obj_base.specs.declared.stop.Bad.{Bad}
use Rattle.obj_base.specs.declared.stop.Bad.TheVariants as bads
use Rattle.obj_base.specs.declared.stop.Feature.{Feature}
use Rattle.obj_base.specs.declared.stop.Feature.TheVariants.{Revert}
use Rattle.obj_base.specs.declared.stop.Stop.{Stop}
use Rattle.obj_base.specs.declared.stop.Stop.TheVariants.{Found, Unsupported, ReadFault, NoMemory}
use Rattle.obj_base.specs.declared.stop.Unsound.{Unsound}
use Rattle.obj_base.specs.declared.site.Site.{Site}
use Rattle.obj_base.specs.Sound.{expecting}
use Rattle.obj_base.specs.Stops.{Tells, raised}
use Rattle.blk_read.specs.Object.{judged, sound_object}
use Rattle.omap_map.specs.Features.{is_reverting}
use Rattle.omap_map.specs.Maps.{map_in, head_of}
use Rattle.omap_map.specs.Loading.{head_fault, unless_reverting, after_header, object_of}
use Rattle.omap_map.specs.declared.fault.OmapFault.{OmapFault}

-- the sound object of a map in a block
abbrev pub map_object : List ℕ → Site → ℕ → Result (List ℕ) (Stop (Unsound HeadFault))
map_object image site block = sound_object image site block (expecting map_kind (Some block) site.max_xid)

judged-found : (block : ℕ) (bytes : List ℕ) (r : Result Header (Bad HeadFault)) (f : Unsound HeadFault) → judged block bytes r ≡ Err (Found f) → after_header block bytes r ≡ Err (Found (head_fault f))
judged-found block bytes (Ok h) f e = absurd (cc)
judged-found block bytes (Err (bads.Found why)) f e =
    let this : Unsound HeadFault = record { block = block; why = why } in
    let same : this ≡ f = cc in
    ap (λ (u : Unsound HeadFault). Err (Found (head_fault u))) same
judged-found block bytes (Err (bads.Unsupported feature)) f e = absurd (cc)

judged-feature : (block : ℕ) (bytes : List ℕ) (r : Result Header (Bad HeadFault)) (name : Feature) (at : ℕ) → judged block bytes r ≡ Err (Unsupported name at) → after_header block bytes r ≡ Err (Unsupported name at)
judged-feature block bytes (Ok h) name at e = absurd (cc)
judged-feature block bytes (Err (bads.Found why)) name at e = absurd (cc)
judged-feature block bytes (Err (bads.Unsupported feature)) name at e = cc

judged-ok : (block : ℕ) (bytes got : List ℕ) (r : Result Header (Bad HeadFault)) → judged block bytes r ≡ Ok got → (got ≡ bytes) × (after_header block bytes r ≡ unless_reverting block bytes)
judged-ok block bytes got (Ok h) e = (cc, refl)
judged-ok block bytes got (Err (bads.Found why)) e = absurd (cc)
judged-ok block bytes got (Err (bads.Unsupported feature)) e = absurd (cc)

-- a test of the object that fails is one of the map
pub object-raised : (image : List ℕ) (site : Site) (block : ℕ) (stop : Stop (Unsound HeadFault)) → Tells (λ f. map_object image site block ≡ Err (Found f)) (λ name at. map_object image site block ≡ Err (Unsupported name at)) stop
    → Tells (λ f. object_of image site block ≡ Err (Found f)) (λ name at. object_of image site block ≡ Err (Unsupported name at)) (raised head_fault stop)
unfolding sound_object object_of
object-raised image site block (Found f) e = judged-found block (map_in image site block) (head_of image site block) f e
object-raised image site block (Unsupported name at) e = judged-feature block (map_in image site block) (head_of image site block) name at e
object-raised image site block ReadFault e = tt
object-raised image site block NoMemory e = tt

-- a sound object of which a revert is pending
pub object-pending : (image : List ℕ) (site : Site) (block : ℕ) (got : List ℕ) → map_object image site block ≡ Ok got → is_reverting got ≡ true → object_of image site block ≡ Err (Unsupported Revert block)
unfolding sound_object object_of
object-pending image site block got e pending =
    let both = judged-ok block (map_in image site block) got (head_of image site block) e in
    both.1 ∙ ap (λ (b : Bool). if b then Err (Unsupported Revert block) else Ok (map_in image site block)) (ap is_reverting (sym both.0) ∙ pending)

-- and one of which none is
pub object-settled : (image : List ℕ) (site : Site) (block : ℕ) (got : List ℕ) → map_object image site block ≡ Ok got → is_reverting got ≡ false → object_of image site block ≡ Ok got
unfolding sound_object object_of
object-settled image site block got e settled =
    let both = judged-ok block (map_in image site block) got (head_of image site block) e in
    both.1 ∙ (ap (λ (b : Bool). if b then Err (Unsupported Revert block) else Ok (map_in image site block)) (ap is_reverting (sym both.0) ∙ settled) ∙ ap Ok (sym both.0))
