-- Objects that are expected alike, whoever names them, and of views that look them up alike.
use Rattle.std.proofs.Common.{◌≡◌, ℕ, zero, suc, Bool, List, [], ◌∷◌, map, Option, Some, None, Ok, Err, refl, ap, sym, ◌∙◌, arith}
use Rattle.obj_base.specs.declared.site.Site.{Site}
use Rattle.bt_node.specs.Node.{level_of}
use Rattle.omap_map.specs.declared.records.OmapRecord.{OmapRecord}
use Rattle.reach_rules.specs.declared.naming.TreeKind.TheVariants.{Files}
use Rattle.reach_rules.specs.declared.naming.Expected.{Expected}
use Rattle.reach_rules.specs.declared.naming.Expected.TheVariants.{TreeRoot, TreeNode}
use Rattle.reach_rules.specs.Tested.{Answer, tested}
use Rattle.reach_rules.specs.Next.{children_in}
use Rattle.view_sweep.specs.declared.wanted.SweptView.{SweptView}
use Rattle.view_sweep.specs.declared.wanted.Want.{Want}
use Rattle.view_sweep.specs.declared.wanted.Want.TheVariants.{Root, Metadata, Node}
use Rattle.view_sweep.specs.declared.wanted.Wanted.{Wanted}
use Rattle.view_sweep.specs.Wanted.{number_by, expected_by, expected_of}
use Rattle.view_sweep.specs.Found.{World, tested_as, kid, kids_from, kids_by, wants_by, wants_of, wants_if, next_by, next_of}
use Rattle.view_sweep.specs.Sets.{of_view}
use Rattle.view_sweep.specs.Next.{AreAsOne}
use Rattle.view_sweep.proofs.Wholes.{IsByName}

-- two are wanted of one view under one id, and expected alike
pub record IsLike (a b : Wanted) : Type 0 where
  pub view : a.view ≡ b.view
  pub oid : a.oid ≡ b.oid
  pub number : number_by a.want ≡ number_by b.want

pub expected-alike : (v : SweptView) (a b : Want) → number_by a ≡ number_by b → expected_by v a ≡ expected_by v b
expected-alike v Root Root e = refl
expected-alike v Root Metadata e = absurd (omega arith)
expected-alike v Root (Node level namer entry) e = absurd (omega arith)
expected-alike v Metadata Root e = absurd (omega arith)
expected-alike v Metadata Metadata e = refl
expected-alike v Metadata (Node level namer entry) e = absurd (omega arith)
expected-alike v (Node level namer entry) Root e = absurd (omega arith)
expected-alike v (Node level namer entry) Metadata e = absurd (omega arith)
expected-alike v (Node level namer entry) (Node low other number) e = let same : level ≡ low = omega arith in ap (TreeNode (Files v.hashed)) same

wants-alike : (v : SweptView) (a b : Want) (r : OmapRecord) (bytes : List ℕ) → number_by a ≡ number_by b → wants_by v a r bytes ≡ wants_by v b r bytes
wants-alike v Root Root r bytes e = refl
wants-alike v Root Metadata r bytes e = absurd (omega arith)
wants-alike v Root (Node level namer entry) r bytes e = absurd (omega arith)
wants-alike v Metadata Root r bytes e = absurd (omega arith)
wants-alike v Metadata Metadata r bytes e = refl
wants-alike v Metadata (Node level namer entry) r bytes e = absurd (omega arith)
wants-alike v (Node level namer entry) Root r bytes e = absurd (omega arith)
wants-alike v (Node level namer entry) Metadata r bytes e = absurd (omega arith)
wants-alike v (Node level namer entry) (Node low other number) r bytes e = let same : level ≡ low = omega arith in ap (λ (l : ℕ). kids_by v r l (children_in (Files v.hashed) bytes)) same

pub tested-like : (site : Site) (a b : Wanted) (bytes : List ℕ) → IsLike a b → tested_as site a bytes ≡ tested_as site b bytes
tested-like site a b bytes l =
    ap (λ (v : SweptView). tested site (expected_by v a.want) a.oid bytes) l.view
    ∙ (ap (λ (x : Expected). tested site x a.oid bytes) (expected-alike b.view a.want b.want l.number)
    ∙ ap (λ (o : ℕ). tested site (expected_of b) o bytes) l.oid)

wants-like : (a b : Wanted) (r : OmapRecord) (bytes : List ℕ) → IsLike a b → wants_of a r bytes ≡ wants_of b r bytes
wants-like a b r bytes l = ap (λ (v : SweptView). wants_by v a.want r bytes) l.view ∙ wants-alike b.view a.want b.want r bytes l.number

answer-like : (a b : Wanted) (r : OmapRecord) (bytes : List ℕ) (x : Answer) → IsLike a b → wants_if a r bytes x ≡ wants_if b r bytes x
answer-like a b r bytes (Ok y) l = wants-like a b r bytes l
answer-like a b r bytes (Err bad) l = refl

by-like : (k : World) (a b : Wanted) (o : Option OmapRecord) → IsLike a b → next_by k a o ≡ next_by k b o
by-like k a b None l = refl
by-like k a b (Some r) l =
    ap (λ (x : Answer). wants_if a r (k.bytes r) x) (tested-like k.site a b (k.bytes r) l) ∙ answer-like a b r (k.bytes r) (tested_as k.site b (k.bytes r)) l

pub look-like : (k : World) → IsByName k → (a b : Wanted) → IsLike a b → k.look a ≡ k.look b
look-like k named a b l = named.alike a b l.view l.oid

pub next-like : (k : World) → IsByName k → (a b : Wanted) → IsLike a b → next_of k a ≡ next_of k b
unfolding next_of
next-like k named a b l = ap (next_by k a) (look-like k named a b l) ∙ by-like k a b (k.look b) l

-- ---- of views that look up alike
pub expected-one : (u v : SweptView) (want : Want) → AreAsOne u v → expected_by v want ≡ expected_by u want
expected-one u v Root one = ap (λ (h : Bool). TreeRoot (Files h)) (sym one.hashed)
expected-one u v Metadata one = refl
expected-one u v (Node level namer entry) one = ap (λ (h : Bool). TreeNode (Files h) level) (sym one.hashed)

pub tested-one : (site : Site) (w : Wanted) (v : SweptView) (bytes : List ℕ) → AreAsOne w.view v → tested_as site (of_view w v) bytes ≡ tested_as site w bytes
tested-one site w v bytes one = ap (λ (x : Expected). tested site x w.oid bytes) (expected-one w.view v w.want one)

kids-from-moved : (u v : SweptView) (r : OmapRecord) (level i : ℕ) (oids : List ℕ) → kids_from v r level i oids ≡ map (λ (x : Wanted). of_view x v) (kids_from u r level i oids)
kids-from-moved u v r level i [] = refl
kids-from-moved u v r level i (oid ∷ oids) = ap (λ (ws : List Wanted). kid v r level i oid ∷ ws) (kids-from-moved u v r level (suc i) oids)

kids-moved : (u v : SweptView) (r : OmapRecord) (level : ℕ) (oids : List ℕ) → kids_by v r level oids ≡ map (λ (x : Wanted). of_view x v) (kids_by u r level oids)
kids-moved u v r zero oids = refl
kids-moved u v r (suc level) oids = kids-from-moved u v r level 0 oids

wants-by-moved : (u v : SweptView) (want : Want) (r : OmapRecord) (bytes : List ℕ) → AreAsOne u v → wants_by v want r bytes ≡ map (λ (x : Wanted). of_view x v) (wants_by u want r bytes)
wants-by-moved u v Root r bytes one =
    ap (λ (h : Bool). kids_by v r (level_of bytes) (children_in (Files h) bytes)) (sym one.hashed) ∙ kids-moved u v r (level_of bytes) (children_in (Files u.hashed) bytes)
wants-by-moved u v Metadata r bytes one = refl
wants-by-moved u v (Node level namer entry) r bytes one =
    ap (λ (h : Bool). kids_by v r level (children_in (Files h) bytes)) (sym one.hashed) ∙ kids-moved u v r level (children_in (Files u.hashed) bytes)

-- what one view wants in turn is what another wants, of that view
pub wants-moved : (w : Wanted) (v : SweptView) (r : OmapRecord) (bytes : List ℕ) → AreAsOne w.view v → wants_of (of_view w v) r bytes ≡ map (λ (x : Wanted). of_view x v) (wants_of w r bytes)
wants-moved w v r bytes one = wants-by-moved w.view v w.want r bytes one
