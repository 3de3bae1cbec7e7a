-- The jumpstart, as it is told.
use Rattle.std.proofs.Common.{◌≡◌, ℕ, Bool, true, false, ◌&&◌, ◌==◌, nat_lt, List, [], ◌∷◌, length, Option, Some, None, Result, Ok, Err, inr, refl, ap, sym, ◌∙◌, subst, if◌then◌else◌}
use Rattle.std.specs.Prelude.{option_map}
use Rattle.apfs_model.specs.Blocks.{block_of}
use Rattle.apfs_model.specs.Lists.{In, Lists}
use Rattle.apfs_model.specs.Object.{jumpstart_kind}
use Rattle.obj_base.specs.Sound.{sound_of, expecting}
use Rattle.obj_base.specs.Stops.{Tells, IsFree, raised}
use Rattle.obj_base.specs.declared.header.Header.{Header}
use Rattle.obj_base.specs.declared.header.HeadFault.{HeadFault}
use Rattle.obj_base.specs.declared.stop.Bad.{Bad}
use Rattle.obj_base.specs.declared.stop.Bad.TheVariants.{Found as Fails, Unsupported}
use Rattle.obj_base.specs.declared.stop.Stop.{Stop}
use Rattle.obj_base.specs.declared.stop.Stop.TheVariants as stops
use Rattle.obj_base.specs.declared.stop.Unsound.{Unsound as HeadUnsound}
use Rattle.obj_base.specs.declared.stop.Within.TheVariants.{Physical}
use Rattle.obj_base.specs.declared.site.Site.{Site}
use Rattle.blk_read.specs.Object.{judged as judged_block, sound_object}
use Rattle.nx_block.specs.Super.{jumpstart_of, reaper_oid_of}
use Rattle.nx_block.specs.Jump.{is_jump, jump_extents_of}
use Rattle.nx_block.specs.OtherFields.{jump_of}
use Rattle.nx_ring.specs.Checkpoint.{Seen, site_of}
use Rattle.reach_rules.specs.declared.fault.Why.TheVariants.{Magic}
use Rattle.reach_rules.specs.declared.fault.ReachFault.{ReachFault}
use Rattle.reach_rules.specs.declared.fault.ReachFault.TheVariants.{Unsound, Unnamed}
use Rattle.reach_rules.specs.declared.naming.LookUp.TheVariants.{ByBlock, ByMapping}
use Rattle.reach_rules.specs.declared.naming.Object.TheVariants.{Newest, InBlock}
use Rattle.reach_rules.specs.declared.naming.Namer.TheVariants.{Whole}
use Rattle.reach_rules.specs.declared.naming.Expected.TheVariants.{ReaperObject, Jumpstart}
use Rattle.reach_rules.specs.declared.naming.Naming.{Naming}
use Rattle.reach_rules.specs.Naming.{naming}
use Rattle.reach_rules.specs.Resolved.{Found, resolved, found_physical, standing}
use Rattle.reach_rules.specs.Tested.{of_header, head_tested, with_magic, tested}
use Rattle.reach_rules.specs.Next.{roots, next, unless_zero}
use Rattle.reach_rules.specs.Live.{Live, rooted, led, IsLive}
use Rattle.reach_rules.specs.Features.{HasFeature}
use Rattle.reach_rules.specs.Reached.{IsReachedFault}
use Rattle.reach_rules.proofs.Nexts.{in-unless}
use Rattle.reach_rules.proofs.Sounds.{cab-bytes}
use Rattle.reach_rules.proofs.Lives.{lists-none}
use Rattle.reach_gather.specs.Namings.{IsPlainNaming}
use Rattle.apfs_model.proofs.Searches.{in-left, in-right}
use Rattle.reach_gather.specs.Told.{judged, told, unsound, told_through}
use Rattle.reach_gather.specs.Jumped.{jump_root, told_jump, jump_extents_in, IsRightJump, IsJumped}
use Rattle.reach_gather.proofs.Tolds.{told-ok, told-present, told-free, told-plain, told-next}
use Rattle.reach_gather.proofs.Ways.{from-unless}

-- an object in a block
abbrev pub block_in : ℕ → List ℕ → Found
block_in block bytes = record { object = InBlock block; block = block; bytes = bytes }

-- ---- the header
pub jump-lost : (image : List ℕ) (seen : Seen) (site : Site) (block xid : ℕ) → site ≡ site_of seen → xid ≡ seen.line.xid → (nat_lt 0 block && nat_lt block site.blocks) ≡ false → told_jump image seen block ≡ Err (stops.Found (Unnamed Physical block xid))
unfolding told_jump
jump-lost image seen site block xid s x e =
    let out : (nat_lt 0 block && nat_lt block (site_of seen).blocks) ≡ false = ap (λ (z : Site). nat_lt 0 block && nat_lt block z.blocks) (sym s) ∙ e in
    ap (λ (b : Bool). told seen ByBlock block (head_tested (site_of seen) jumpstart_kind (Some block)) (option_map (λ k. standing image (site_of seen) (InBlock k) k) (if b then Some block else None))) out
    ∙ ap (λ y. Err (stops.Found (Unnamed Physical block y))) (sym x)

-- what was found of a block of the container
jump-in : (image : List ℕ) (seen : Seen) (block : ℕ) → (nat_lt 0 block && nat_lt block (site_of seen).blocks) ≡ true → told_jump image seen block
    ≡ judged (standing image (site_of seen) (InBlock block) block) (head_tested (site_of seen) jumpstart_kind (Some block) (block_of (site_of seen).block_size image block))
unfolding told_jump
jump-in image seen block e = ap (λ (b : Bool). told seen ByBlock block (head_tested (site_of seen) jumpstart_kind (Some block)) (option_map (λ k. standing image (site_of seen) (InBlock k) k) (if b then Some block else None))) e

got-of : (block : ℕ) (bytes got : List ℕ) (r : Result Header (Bad HeadFault)) → judged_block block bytes r ≡ Ok got → judged (block_in block bytes) (of_header bytes r) ≡ Ok (block_in block got)
got-of block bytes got (Ok h) e = let s : bytes ≡ got = cc in ap (λ b. Ok (block_in block b)) s
got-of block bytes got (Err (Fails why)) e = absurd cc
got-of block bytes got (Err (Unsupported feature)) e = absurd cc

pub jump-got : (image : List ℕ) (seen : Seen) (site : Site) (block : ℕ) (got : List ℕ) → site ≡ site_of seen → (nat_lt 0 block && nat_lt block site.blocks) ≡ true → sound_object image site block (expecting jumpstart_kind (Some block) site.max_xid) ≡ Ok got → told_jump image seen block ≡ Ok (block_in block got)
unfolding sound_object
jump-got image seen site block got s inside e =
    let B = (site_of seen).block_size in
    let here : (nat_lt 0 block && nat_lt block (site_of seen).blocks) ≡ true = ap (λ (z : Site). nat_lt 0 block && nat_lt block z.blocks) (sym s) ∙ inside in
    let same : judged_block block (block_of B image block) (sound_of (block_of B image block) (expecting jumpstart_kind (Some block) (site_of seen).max_xid)) ≡ Ok got =
    ap (λ (z : Site). judged_block block (block_of z.block_size image block) (sound_of (block_of z.block_size image block) (expecting jumpstart_kind (Some block) z.max_xid))) (sym s) ∙ e in
    jump-in image seen block here ∙ got-of block (block_of B image block) got (sound_of (block_of B image block) (expecting jumpstart_kind (Some block) (site_of seen).max_xid)) same

bad-of : (block : ℕ) (bytes : List ℕ) (r : Result Header (Bad HeadFault)) (stop : Stop (HeadUnsound HeadFault)) → Tells (λ f. judged_block block bytes r ≡ Err (stops.Found f)) (λ name at. judged_block block bytes r ≡ Err (stops.Unsupported name at)) stop →
    Tells (λ f. judged (block_in block bytes) (of_header bytes r) ≡ Err (stops.Found f)) (λ name at. judged (block_in block bytes) (of_header bytes r) ≡ Err (stops.Unsupported name at)) (raised unsound stop)
bad-of block bytes (Ok h) (stops.Found f) e = absurd cc
bad-of block bytes (Err (Fails why)) (stops.Found f) e =
    let this : HeadUnsound HeadFault = record { block = block; why = why } in
    let s : this ≡ f = cc in ap (λ u. Err (stops.Found (unsound u))) s
bad-of block bytes (Err (Unsupported feature)) (stops.Found f) e = absurd cc
bad-of block bytes (Ok h) (stops.Unsupported name at) e = absurd cc
bad-of block bytes (Err (Fails why)) (stops.Unsupported name at) e = absurd cc
bad-of block bytes (Err (Unsupported feature)) (stops.Unsupported name at) e = let a : feature ≡ name = cc in let b : block ≡ at = cc in cc
bad-of block bytes r stops.ReadFault e = tt
bad-of block bytes r stops.NoMemory e = tt

pub jump-bad : (image : List ℕ) (seen : Seen) (site : Site) (block : ℕ) (stop : Stop (HeadUnsound HeadFault)) → site ≡ site_of seen → (nat_lt 0 block && nat_lt block site.blocks) ≡ true →
    Tells (λ f. sound_object image site block (expecting jumpstart_kind (Some block) site.max_xid) ≡ Err (stops.Found f)) (λ name at. sound_object image site block (expecting jumpstart_kind (Some block) site.max_xid) ≡ Err (stops.Unsupported name at)) stop →
    Tells (λ f. told_jump image seen block ≡ Err (stops.Found f)) (λ name at. told_jump image seen block ≡ Err (stops.Unsupported name at)) (raised unsound stop)
unfolding sound_object
jump-bad image seen site block stop s inside e =
    let B = (site_of seen).block_size in
    let here : (nat_lt 0 block && nat_lt block (site_of seen).blocks) ≡ true = ap (λ (z : Site). nat_lt 0 block && nat_lt block z.blocks) (sym s) ∙ inside in
    let R : Site → Result (List ℕ) (Stop (HeadUnsound HeadFault)) = λ z. judged_block block (block_of z.block_size image block) (sound_of (block_of z.block_size image block) (expecting jumpstart_kind (Some block) z.max_xid)) in
    let same = subst (λ (z : Site). Tells (λ f. R z ≡ Err (stops.Found f)) (λ name at. R z ≡ Err (stops.Unsupported name at)) stop) s e in
    subst (λ (r : Result Found (Stop ReachFault)). Tells (λ f. r ≡ Err (stops.Found f)) (λ name at. r ≡ Err (stops.Unsupported name at)) (raised unsound stop)) (sym (jump-in image seen block here))
    (bad-of block (block_of B image block) (sound_of (block_of B image block) (expecting jumpstart_kind (Some block) (site_of seen).max_xid)) stop same)

-- ---- the magic
magic-of : (f g : Found) (r : Result Header (Bad HeadFault)) → judged f (of_header f.bytes r) ≡ Ok g → judged f (with_magic is_jump (of_header f.bytes r)) ≡ (if is_jump g.bytes then Ok g else Err (stops.Found (Unsound g.block Magic)))
magic-of f g (Ok h) e =
    let go : (b : Bool) → judged f (if b then Ok f.bytes else Err (Fails Magic)) ≡ (if b then Ok f else Err (stops.Found (Unsound f.block Magic))) = λ b. elim b as (λ b. judged f (if b then Ok f.bytes else Err (Fails Magic)) ≡ (if b then Ok f else Err (stops.Found (Unsound f.block Magic)))) [ true ↦ refl | false ↦ refl ] in
    let s : f ≡ g = cc in
    go (is_jump f.bytes) ∙ ap (λ (x : Found). if is_jump x.bytes then Ok x else Err (stops.Found (Unsound x.block Magic))) s
magic-of f g (Err (Fails why)) e = absurd cc
magic-of f g (Err (Unsupported feature)) e = absurd cc

magic-bad : (f : Found) (stop : Stop ReachFault) (r : Result Header (Bad HeadFault)) → judged f (of_header f.bytes r) ≡ Err stop → judged f (with_magic is_jump (of_header f.bytes r)) ≡ Err stop
magic-bad f stop (Ok h) e = absurd cc
magic-bad f stop (Err (Fails why)) e = e
magic-bad f stop (Err (Unsupported feature)) e = e

-- the naming of the jumpstart
abbrev pub jump_naming : ℕ → Naming
jump_naming oid = naming (Whole Newest) 1272 Jumpstart ByBlock oid

jump-through : (image : List ℕ) (seen : Seen) (oid : ℕ) (g : Found) → told_jump image seen oid ≡ Ok g → told_through image seen (jump_naming oid) ≡ (if is_jump g.bytes then Ok g else Err (stops.Found (Unsound g.block Magic)))
unfolding told_jump told_through resolved tested
jump-through image seen oid g h =
    let X = λ (f : Found). sound_of f.bytes (expecting jumpstart_kind (Some oid) (site_of seen).max_xid) in
    let End : Result Found (Stop ReachFault) = if is_jump g.bytes then Ok g else Err (stops.Found (Unsound g.block Magic)) in
    let go : (o : Option Found) → told seen ByBlock oid (head_tested (site_of seen) jumpstart_kind (Some oid)) o ≡ Ok g → told seen ByBlock oid (λ bytes. with_magic is_jump (head_tested (site_of seen) jumpstart_kind (Some oid) bytes)) o ≡ End =
    λ o. elim o as (λ o. told seen ByBlock oid (head_tested (site_of seen) jumpstart_kind (Some oid)) o ≡ Ok g → told seen ByBlock oid (λ bytes. with_magic is_jump (head_tested (site_of seen) jumpstart_kind (Some oid) bytes)) o ≡ End) [
      | None ↦ λ s. absurd (let q : ⊥ = cc in q)
      | Some f ↦ λ s. magic-of f g (X f) s
    ] in
    go (found_physical image (site_of seen) oid) h

jump-stopped : (image : List ℕ) (seen : Seen) (oid : ℕ) (stop : Stop ReachFault) → told_jump image seen oid ≡ Err stop → told_through image seen (jump_naming oid) ≡ Err stop
unfolding told_jump told_through resolved tested
jump-stopped image seen oid stop h =
    let X = λ (f : Found). sound_of f.bytes (expecting jumpstart_kind (Some oid) (site_of seen).max_xid) in
    let go : (o : Option Found) → told seen ByBlock oid (head_tested (site_of seen) jumpstart_kind (Some oid)) o ≡ Err stop → told seen ByBlock oid (λ bytes. with_magic is_jump (head_tested (site_of seen) jumpstart_kind (Some oid) bytes)) o ≡ Err stop =
    λ o. elim o as (λ o. told seen ByBlock oid (head_tested (site_of seen) jumpstart_kind (Some oid)) o ≡ Err stop → told seen ByBlock oid (λ bytes. with_magic is_jump (head_tested (site_of seen) jumpstart_kind (Some oid) bytes)) o ≡ Err stop) [
      | None ↦ λ s. s
      | Some f ↦ λ s. magic-bad f stop (X f) s
    ] in
    go (found_physical image (site_of seen) oid) h

-- ---- the naming is live
pub jump-listed : (nx : List ℕ) (oid : ℕ) → oid ≡ jumpstart_of nx → (oid == 0) ≡ false → In (jump_naming oid) (jump_root nx)
jump-listed nx oid e some = subst (λ o. In (jump_naming oid) (unless_zero (Whole Newest) 1272 Jumpstart ByBlock o)) e (in-unless (Whole Newest) 1272 Jumpstart ByBlock oid some)

jump-live : (image : List ℕ) (seen : Seen) (oid : ℕ) → oid ≡ jumpstart_of seen.nx → (oid == 0) ≡ false → IsLive image seen (jump_naming oid)
unfolding roots
jump-live image seen oid e some =
    rooted (jump_naming oid) (inr (inr (in-right (jump_naming oid) (unless_zero (Whole Newest) 168 ReaperObject ByMapping (reaper_oid_of seen.nx)) _
    (in-left (jump_naming oid) (jump_root seen.nx) _ (jump-listed seen.nx oid e some)))))

-- ---- what stops
through-tells : (image : List ℕ) (seen : Seen) (oid : ℕ) (stop : Stop ReachFault) → Tells (λ f. told_jump image seen oid ≡ Err (stops.Found f)) (λ name at. told_jump image seen oid ≡ Err (stops.Unsupported name at)) stop →
    Tells (λ f. told_through image seen (jump_naming oid) ≡ Err (stops.Found f)) (λ name at. told_through image seen (jump_naming oid) ≡ Err (stops.Unsupported name at)) stop
through-tells image seen oid (stops.Found f) e = jump-stopped image seen oid (stops.Found f) e
through-tells image seen oid (stops.Unsupported name at) e = jump-stopped image seen oid (stops.Unsupported name at) e
through-tells image seen oid stops.ReadFault e = tt
through-tells image seen oid stops.NoMemory e = tt

pub jump-present : (image : List ℕ) (seen : Seen) (oid : ℕ) (stop : Stop ReachFault) → oid ≡ jumpstart_of seen.nx → (oid == 0) ≡ false → Tells (λ f. told_jump image seen oid ≡ Err (stops.Found f)) (λ name at. told_jump image seen oid ≡ Err (stops.Unsupported name at)) stop → Tells (IsReachedFault image seen) (HasFeature image seen) stop
jump-present image seen oid stop e some t = told-present image seen (jump_naming oid) stop (jump-live image seen oid e some) (through-tells image seen oid stop t)

pub jump-free : (image : List ℕ) (seen : Seen) (oid : ℕ) (stop : Stop ReachFault) → oid ≡ jumpstart_of seen.nx → (oid == 0) ≡ false → Tells (λ f. told_jump image seen oid ≡ Err (stops.Found f)) (λ name at. told_jump image seen oid ≡ Err (stops.Unsupported name at)) stop → IsRightJump image seen → IsFree stop
jump-free image seen oid stop e some t right = told-free image seen (jump_naming oid) stop (right (jump_naming oid) (jump-listed seen.nx oid e some)) (through-tells image seen oid stop t)

-- ---- what is read is no jumpstart
magic-lacks : (bytes : List ℕ) → None ≡ jump_of bytes → is_jump bytes ≡ false
magic-lacks bytes e =
    let go : (b : Bool) → None ≡ (if b then Some bytes else None) → b ≡ false = λ b. elim b as (λ b. None ≡ (if b then Some bytes else None) → b ≡ false) [
      | true ↦ λ s. absurd (let z : ◌≡◌ {A = Option (List ℕ)} None (Some bytes) = s in let q : ⊥ = cc in q)
      | false ↦ λ s. refl
    ] in
    go (is_jump bytes) e

magic-there : (bytes jump : List ℕ) → Some jump ≡ jump_of bytes → (is_jump bytes ≡ true) × (jump ≡ bytes)
magic-there bytes jump e =
    let go : (b : Bool) → Some jump ≡ (if b then Some bytes else None) → (b ≡ true) × (jump ≡ bytes) = λ b. elim b as (λ b. Some jump ≡ (if b then Some bytes else None) → (b ≡ true) × (jump ≡ bytes)) [
      | true ↦ λ s. let z : ◌≡◌ {A = Option (List ℕ)} (Some jump) (Some bytes) = s in (refl, (let p : jump ≡ bytes = cc in p))
      | false ↦ λ s. absurd (let z : ◌≡◌ {A = Option (List ℕ)} (Some jump) None = s in let q : ⊥ = cc in q)
    ] in
    go (is_jump bytes) e

lacks-through : (image : List ℕ) (seen : Seen) (oid : ℕ) (bytes got : List ℕ) → told_jump image seen oid ≡ Ok (block_in oid bytes) → got ≡ bytes → None ≡ jump_of got → told_through image seen (jump_naming oid) ≡ Err (stops.Found (Unsound oid Magic))
lacks-through image seen oid bytes got t g e =
    jump-through image seen oid (block_in oid bytes) t
    ∙ ap (λ (b : Bool). if b then Ok (block_in oid bytes) else Err (stops.Found (Unsound oid Magic))) (magic-lacks bytes (subst (λ x. None ≡ jump_of x) g e))

pub lacks-present : (image : List ℕ) (seen : Seen) (oid : ℕ) (bytes got : List ℕ) → oid ≡ jumpstart_of seen.nx → (oid == 0) ≡ false → told_jump image seen oid ≡ Ok (block_in oid bytes) → got ≡ bytes → None ≡ jump_of got → Tells (IsReachedFault image seen) (HasFeature image seen) (stops.Found (Unsound oid Magic))
lacks-present image seen oid bytes got e some t g n = told-present image seen (jump_naming oid) (stops.Found (Unsound oid Magic)) (jump-live image seen oid e some) (lacks-through image seen oid bytes got t g n)

pub lacks-free : (image : List ℕ) (seen : Seen) (oid : ℕ) (bytes got : List ℕ) → oid ≡ jumpstart_of seen.nx → (oid == 0) ≡ false → told_jump image seen oid ≡ Ok (block_in oid bytes) → got ≡ bytes → None ≡ jump_of got → IsRightJump image seen → ⊥
lacks-free image seen oid bytes got e some t g n right = told-free image seen (jump_naming oid) (stops.Found (Unsound oid Magic)) (right (jump_naming oid) (jump-listed seen.nx oid e some)) (lacks-through image seen oid bytes got t g n)

-- ---- a jumpstart
-- what names nothing leads to nothing further
jump-only : (image : List ℕ) (seen : Seen) → ((n : Naming) → In n (jump_root seen.nx) → next image seen n ≡ []) → (n : Naming) → Live (jump_root seen.nx) (next image seen) n → In n (jump_root seen.nx)
jump-only image seen none n (rooted _ h) = h
jump-only image seen none n (led m _ live h) = absurd (subst (λ xs. In n xs) (none m (jump-only image seen none m live)) h)

jump-told : (image : List ℕ) (seen : Seen) (oid : ℕ) → oid ≡ jumpstart_of seen.nx → (oid == 0) ≡ false → jump_extents_of (block_of (site_of seen).block_size image oid) ≡ jump_extents_in image seen
jump-told image seen oid e some =
    sym (ap (λ (b : Bool). if b then [] else jump_extents_of (block_of (site_of seen).block_size image oid)) some)
    ∙ ap (λ o. if o == 0 then [] else jump_extents_of (block_of (site_of seen).block_size image o)) e

-- no jumpstart
pub unjumped : (image : List ℕ) (seen : Seen) (oid : ℕ) (extents : List (ℕ × ℕ)) → oid ≡ jumpstart_of seen.nx → oid ≡ 0 → extents ≡ [] → IsJumped image seen extents
unjumped image seen oid extents e z x =
    let zero : jumpstart_of seen.nx ≡ 0 = sym e ∙ z in
    let none : jump_root seen.nx ≡ [] = ap (λ o. unless_zero (Whole Newest) 1272 Jumpstart ByBlock o) zero in
    record {
      live = subst (λ xs. Lists xs (Live xs (next image seen))) (sym none) (lists-none (next image seen));
      plain = λ n h. absurd (subst (λ xs. In n xs) none h);
      told = x ∙ sym (ap (λ o. if o == 0 then [] else jump_extents_of (block_of (site_of seen).block_size image o)) zero);
    }

pub one-root : (nx : List ℕ) (oid : ℕ) → oid ≡ jumpstart_of nx → (oid == 0) ≡ false → length (jump_root nx) ≡ 1
one-root nx oid e some =
    ap (λ o. length (unless_zero (Whole Newest) 1272 Jumpstart ByBlock o)) (sym e)
    ∙ ap (λ (b : Bool). length (if b then [] else jump_naming oid ∷ [])) some

pub jumped : (image : List ℕ) (seen : Seen) (oid : ℕ) (bytes got jump : List ℕ) (extents : List (ℕ × ℕ)) → oid ≡ jumpstart_of seen.nx → (oid == 0) ≡ false → told_jump image seen oid ≡ Ok (block_in oid bytes) → got ≡ bytes → Some jump ≡ jump_of got → extents ≡ jump_extents_of jump → IsJumped image seen extents
jumped image seen oid bytes got jump extents e some t g s x =
    let m = magic-there got jump s in
    let here : told_through image seen (jump_naming oid) ≡ Ok (block_in oid bytes) =
    jump-through image seen oid (block_in oid bytes) t ∙ ap (λ (b : Bool). if b then Ok (block_in oid bytes) else Err (stops.Found (Unsound oid Magic))) (ap is_jump (sym g) ∙ m.0) in
    let root : (n : Naming) → In n (jump_root seen.nx) → n ≡ jump_naming oid = λ n h. from-unless (Whole Newest) 1272 Jumpstart ByBlock (jumpstart_of seen.nx) n h ∙ ap jump_naming (sym e) in
    let none : next image seen (jump_naming oid) ≡ [] = told-next image seen (jump_naming oid) (block_in oid bytes) here in
    let plain : IsPlainNaming image seen (jump_naming oid) = told-plain image seen (jump_naming oid) (block_in oid bytes) here refl in
    let same : bytes ≡ block_of (site_of seen).block_size image oid = cab-bytes image seen (Whole Newest) 1272 Jumpstart oid (block_in oid bytes) (told-ok image seen (jump_naming oid) (block_in oid bytes) here).found in
    record {
      live = ((λ n h. rooted n h), jump-only image seen (λ n h. ap (next image seen) (root n h) ∙ none));
      plain = λ n h. subst (λ y. IsPlainNaming image seen y) (sym (root n h)) plain;
      told = x ∙ (ap jump_extents_of (m.1 ∙ (g ∙ same)) ∙ jump-told image seen oid e some);
    }
