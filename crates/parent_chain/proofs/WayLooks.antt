-- The parent of each inode, and the climb that met it.
use Rattle.std.proofs.Common.{◌≡◌, ℕ, ◌+◌, Bool, true, false, cond, List, [], ◌∷◌, get_or, Option, Some, None, refl, ap, sym, ◌∙◌, arith}
use Rattle.std.specs.Prelude.{option_map, option_and_then, is_none, is_some, map, count_by, slice_get, ◌==◌}
use Rattle.std.specs.List.{find, position, position_or_len}
use Rattle.std.specs.Ordering.{nat_cmp}
use Rattle.std.specs.List.Sorted.{IsStableByKey}
use Rattle.std.proofs.Math.ListN.{set}
use Rattle.std.proofs.lemmas.List.Sums.{sum_by-set}
use Rattle.std.proofs.lemmas.List.Folds.{find-set, find_past}
use Rattle.std.proofs.lemmas.List.Quantifiers.{position-Some}
use Rattle.apfs_model.proofs.BoolTests.{equal-from}
use Rattle.fs_record.specs.Inodes.{Inode}
use Rattle.fs_record.specs.Facts.{Fact}
use Rattle.view_rules.specs.Facts.{Facts}
use Rattle.view_rules.specs.Directories.{parent_at}
use Rattle.id_lists.proofs.InOrder.{stable-first, get-at, place-is, found-there, found-nowhere}
use Rattle.parent_chain.specs.declared.ways.Way.{Way}
use Rattle.parent_chain.specs.Ways.{way_of, is_of, way_at, met_at, left_of, left_at, left_count, HasWaysOf}

found-way : (id : ℕ) (inodes : List (Fact Inode)) → find (is_of id) (map way_of inodes) ≡ option_map way_of (find (λ (f : Fact Inode). f.id == id) inodes)
found-way id [] = refl
found-way id (f ∷ fs) =
    let go : (b : Bool) → cond b (Some (way_of f)) (find (is_of id) (map way_of fs)) ≡ option_map way_of (cond b (Some f) (find (λ (f : Fact Inode). f.id == id) fs)) =
    λ b. elim b as (λ b. cond b (Some (way_of f)) (find (is_of id) (map way_of fs)) ≡ option_map way_of (cond b (Some f) (find (λ (f : Fact Inode). f.id == id) fs))) [ true ↦ refl | false ↦ found-way id fs ] in
    go (f.id == id)

-- the ways of all inodes
pub ways-given : (inodes : List (Fact Inode)) (given : List Way) → given ≡ map way_of inodes → HasWaysOf inodes given
unfolding way_at
ways-given inodes given all id = ap (find (is_of id)) all ∙ found-way id inodes

-- sorted with those of an id in their order
pub ways-sorted : (given sorted : List Way) → IsStableByKey (λ (w : Way). w.id) nat_cmp given sorted → (id : ℕ) → way_at sorted id ≡ way_at given id
unfolding way_at
ways-sorted given sorted stable id = stable-first (λ (w : Way). w.id) given sorted id (record { id = id; parent = 0; climb = None }) refl stable

-- before the first climb each parent is left
pub all-left : (facts : Facts) (ways : List Way) → HasWaysOf facts.inodes ways → (id : ℕ) → left_at ways id ≡ parent_at facts id
unfolding left_at
all-left facts ways has id = ap (λ (o : Option Way). option_and_then left_of o) (has id) ∙ still (find (λ (f : Fact Inode). f.id == id) facts.inodes)
  where
    still : (o : Option (Fact Inode)) → option_and_then left_of (option_map way_of o) ≡ option_map (λ (inode : Inode). inode.parent) (option_map (λ (f : Fact Inode). f.what) o)
    still None = refl
    still (Some f) = refl

-- and no id was met
pub none-met : (inodes : List (Fact Inode)) (ways : List Way) → HasWaysOf inodes ways → (id : ℕ) → met_at ways id ≡ None
unfolding met_at
none-met inodes ways has id = ap (λ (o : Option Way). option_and_then (λ (w : Way). w.climb) o) (has id) ∙ still (find (λ (f : Fact Inode). f.id == id) inodes)
  where
    still : (o : Option (Fact Inode)) → option_and_then (λ (w : Way). w.climb) (option_map way_of o) ≡ None
    still None = refl
    still (Some f) = refl

-- the way of an id stands at its place
pub way-here : (ways : List Way) (id i : ℕ) (d : Way) → Some i ≡ position (is_of id) ways → way_at ways id ≡ Some (get_or ways i d)
unfolding way_at
way-here ways id i d e = found-there (is_of id) ways i d e

-- and has the id
pub id-here : (ways : List Way) (id i : ℕ) (d : Way) → Some i ≡ position (is_of id) ways → option_map (λ (w : Way). w.id) (slice_get ways i) ≡ Some (get_or ways i d).id
id-here ways id i d e = let t = position-Some (is_of id) ways i d (sym e) in ap (option_map (λ (w : Way). w.id)) (get-at ways i d t.0)

-- there is none without a place
pub no-way : (ways : List Way) (id : ℕ) → None ≡ position (is_of id) ways → way_at ways id ≡ None
unfolding way_at
no-way ways id e = found-nowhere (is_of id) ways e

pub none-left : (ways : List Way) (id : ℕ) → None ≡ position (is_of id) ways → None ≡ left_at ways id
unfolding left_at
none-left ways id e = sym (ap (λ (o : Option Way). option_and_then left_of o) (no-way ways id e))

pub none-met-there : (ways : List Way) (id : ℕ) → None ≡ position (is_of id) ways → None ≡ met_at ways id
unfolding met_at
none-met-there ways id e = sym (ap (λ (o : Option Way). option_and_then (λ (w : Way). w.climb) o) (no-way ways id e))

-- what a way says of its id
pub met-here : (ways : List Way) (id i : ℕ) (d : Way) → Some i ≡ position (is_of id) ways → (get_or ways i d).climb ≡ met_at ways id
unfolding met_at
met-here ways id i d e = sym (ap (λ (o : Option Way). option_and_then (λ (w : Way). w.climb) o) (way-here ways id i d e))

pub left-here : (ways : List Way) (id i : ℕ) (d : Way) → Some i ≡ position (is_of id) ways → left_of (get_or ways i d) ≡ left_at ways id
unfolding left_at
left-here ways id i d e = sym (ap (λ (o : Option Way). option_and_then left_of o) (way-here ways id i d e))

-- a parent is left where no climb met its id
pub gone-here : (ways : List Way) (id i : ℕ) (d : Way) → Some i ≡ position (is_of id) ways → is_some (get_or ways i d).climb ≡ true → None ≡ left_at ways id
gone-here ways id i d e met = gone (get_or ways i d).climb (get_or ways i d).parent met ∙ left-here ways id i d e
  where
    gone : (o : Option ℕ) (parent : ℕ) → is_some o ≡ true → None ≡ cond (is_none o) (Some parent) None
    gone None parent f = absurd (let r : ⊥ = cc in r)
    gone (Some n) parent f = refl

pub parent-here : (ways : List Way) (id i : ℕ) (d : Way) → Some i ≡ position (is_of id) ways → is_some (get_or ways i d).climb ≡ false → Some (get_or ways i d).parent ≡ left_at ways id
parent-here ways id i d e left = kept (get_or ways i d).climb (get_or ways i d).parent left ∙ left-here ways id i d e
  where
    kept : (o : Option ℕ) (parent : ℕ) → is_some o ≡ false → Some parent ≡ cond (is_none o) (Some parent) None
    kept None parent f = refl
    kept (Some n) parent f = absurd (let r : ⊥ = cc in r)

pub no-climb : (o : Option ℕ) → is_some o ≡ false → o ≡ None
no-climb None f = refl
no-climb (Some n) f = absurd (let r : ⊥ = cc in r)

-- a way that a climb meets now
abbrev pub met_now : Way → ℕ → Way
met_now w climb = record { id = w.id; parent = w.parent; climb = Some climb }

way-set : (ways : List Way) (id i climb : ℕ) (d : Way) → Some i ≡ position (is_of id) ways → (q : ℕ) → way_at (set ways i (met_now (get_or ways i d) climb)) q ≡ cond (id == q) (Some (met_now (get_or ways i d) climb)) (way_at ways q)
unfolding way_at
way-set ways id i climb d e q =
    let t = position-Some (is_of id) ways i d (sym e) in
    let w = get_or ways i d in
    let same : w.id ≡ id = equal-from w.id id t.1 in
    let at : i ≡ position_or_len (is_of id) ways = place-is (is_of id) ways i e in
    let go : (b : Bool) → (id == q) ≡ b → find (is_of q) (set ways i (met_now w climb)) ≡ cond b (Some (met_now w climb)) (find (is_of q) ways) =
    λ b. elim b as (λ b. (id == q) ≡ b → find (is_of q) (set ways i (met_now w climb)) ≡ cond b (Some (met_now w climb)) (find (is_of q) ways)) [
      | true ↦ λ f. ap (λ (n : ℕ). find (is_of n) (set ways i (met_now w climb))) (sym (equal-from id q f)) ∙ find-set (is_of id) ways i (met_now w climb) at t.0 t.1
      | false ↦ λ f. let other : (w.id == q) ≡ false = ap (λ (n : ℕ). n == q) same ∙ f in find_past (is_of q) ways i (met_now w climb) d other other
    ] in
    go (id == q) refl

-- after it is met
pub left-set : (ways : List Way) (id i climb : ℕ) (d : Way) → Some i ≡ position (is_of id) ways → (q : ℕ) → left_at (set ways i (met_now (get_or ways i d) climb)) q ≡ cond (id == q) None (left_at ways q)
unfolding left_at
left-set ways id i climb d e q =
    ap (λ (o : Option Way). option_and_then left_of o) (way-set ways id i climb d e q) ∙ still (id == q)
  where
    still : (b : Bool) → option_and_then left_of (cond b (Some (met_now (get_or ways i d) climb)) (way_at ways q)) ≡ cond b None (option_and_then left_of (way_at ways q))
    still true = refl
    still false = refl

pub met-set : (ways : List Way) (id i climb : ℕ) (d : Way) → Some i ≡ position (is_of id) ways → (q : ℕ) → met_at (set ways i (met_now (get_or ways i d) climb)) q ≡ cond (id == q) (Some climb) (met_at ways q)
unfolding met_at
met-set ways id i climb d e q =
    ap (λ (o : Option Way). option_and_then (λ (w : Way). w.climb) o) (way-set ways id i climb d e q) ∙ still (id == q)
  where
    still : (b : Bool) → option_and_then (λ (w : Way). w.climb) (cond b (Some (met_now (get_or ways i d) climb)) (way_at ways q)) ≡ cond b (Some climb) (option_and_then (λ (w : Way). w.climb) (way_at ways q))
    still true = refl
    still false = refl

pub count-set : (ways : List Way) (id i climb : ℕ) (d : Way) → Some i ≡ position (is_of id) ways → (get_or ways i d).climb ≡ None → left_count (set ways i (met_now (get_or ways i d) climb)) + 1 ≡ left_count ways
unfolding left_count
count-set ways id i climb d e none =
    let t = position-Some (is_of id) ways i d (sym e) in
    let one : cond {A = ℕ} (is_none (get_or ways i d).climb) 1 0 ≡ 1 = ap (λ (o : Option ℕ). cond (is_none o) 1 0) none in
    let sums : count_by (λ (w : Way). is_none w.climb) (set ways i (met_now (get_or ways i d) climb)) + cond {A = ℕ} (is_none (get_or ways i d).climb) 1 0 ≡ count_by (λ (w : Way). is_none w.climb) ways + 0 = sum_by-set (λ (w : Way). cond (is_none w.climb) 1 0) ways i (met_now (get_or ways i d) climb) d t.0 in
    omega (arith, one, sums)
