-- Pieces to which what views share is added, and what is their own.
use Rattle.std.proofs.Common.{◌≡◌, ℕ, ◌+◌, ◌<◌, ◌≤◌, true, false, ◌==◌, List, [], length, take, get_or, Some, None, ◌⊎◌, inl, inr, refl, ap, sym, ◌∙◌, subst, arith}
use Rattle.std.specs.Prelude.{slice_get}
use Rattle.std.proofs.lemmas.List.{take_all}
use Rattle.std.proofs.lemmas.Option.{slice_get-get_or}
use Rattle.apfs_model.specs.Lists.{In}
use Rattle.apfs_model.proofs.BoolTests.{clash, equal-from, unequal-from, test_or}
use Rattle.obj_base.specs.declared.site.Site.{Site}
use Rattle.bt_node.specs.Shape.{Shape}
use Rattle.bt_node.specs.Node.{count_of}
use Rattle.bt_node.specs.Entries.{Pair, pair_of, pairs_of}
use Rattle.bt_node.proofs.Places.{pairs_counted}
use Rattle.bt_node.proofs.Ranges.{item_listed}
use Rattle.ext_ref.specs.Ranges.{node_blocks_of}
use Rattle.piece_count.specs.Covered.{is_from, covered_by, is_covered}
use Rattle.piece_count.specs.declared.piece.Piece.{Piece}
use Rattle.piece_count.specs.declared.piece.Holdings.{Holdings}
use Rattle.piece_count.proofs.Numbers.{from-low, from-high, from-is}
use Rattle.view_sweep.specs.declared.sets.ViewSet.{ViewSet}
use Rattle.view_sweep.specs.declared.used.Share.{Share}
use Rattle.view_sweep.specs.declared.used.SharedAs.TheVariants.{Root}
use Rattle.view_sweep.specs.Shared.{is_shared}
use Rattle.use_report.specs.Counted.{has_turn, Grows}
use Rattle.use_report.specs.Holding.{AddsReferences}
use Rattle.use_report.specs.Leaves.{IsPlacedRecord, ArePlacedRecords}
use Rattle.use_report.specs.Runs.{head_place, AreOwnSets, AreViewSets}
use Rattle.use_report.specs.Sharing.{IsOfShare, IsPlacedShare, AddsShare, IsOfShares, AreShared, IsOwn, IsOwnAt, AddsOwns}
use Rattle.use_report.specs.declared.kept.KeptView.{KeptView}
use Rattle.use_report.specs.declared.pieces.Pieces.{Pieces}
use Rattle.use_report.proofs.Lists.{one-some, below-length, none-taken, taken-more}
use Rattle.use_report.proofs.Sets.{grows-then}
use Rattle.use_report.proofs.Told.{turned-view}

-- ---- a record of a leaf

-- what stands for a record where a list has none in a place
abbrev pub no_pair : Pair
no_pair = record { key = []; value = None }

pub pair-got : {K : Type 0} (shape : Shape K) (node : List ℕ) (i : ℕ) → i < length (pairs_of shape node) → get_or (pairs_of shape node) i no_pair ≡ pair_of shape node i
pair-got shape node i low =
    let pairs : List Pair = pairs_of shape node in
    let below : i < count_of node = subst (λ n. i < n) (pairs_counted shape node) low in
    one-some (get_or pairs i no_pair) (pair_of shape node i) (sym (slice_get-get_or pairs i no_pair low) ∙ item_listed (pair_of shape node) (count_of node) i below)

-- one record more of some lies in the container
pub placed-next : (site : Site) (pairs : List Pair) (i : ℕ) (d : Pair) → i < length pairs → ArePlacedRecords site (take i pairs) → IsPlacedRecord site (get_or pairs i d) → ArePlacedRecords site (take (i + 1) pairs)
placed-next site pairs i d low had one = λ pair h. elim ((taken-more pairs i d pair low).0 h) as (λ _. IsPlacedRecord site pair) [ inl k ↦ had pair k | inr e ↦ subst (IsPlacedRecord site) (sym e) one ]

-- ---- a record that views share

-- what stands for a record where a list has none in a place
abbrev pub no_share : Share
no_share = record { used = record { map = 0; mapping = record { oid = 0; xid = 0; flags = 0; size = 0; paddr = 0 } }; expected = Root; hashed = false; set = 0 }

-- nothing is shared yet
pub shares-none : (image : List ℕ) (site : Site) (sets : List ViewSet) (many : ℕ) (shares : List Share) (pieces : Holdings) → pieces.pieces.items ≡ [] → AreShared image site sets many (take 0 shares) pieces
unfolding covered_by
shares-none image site sets many shares pieces e = record {
  held = λ view block low few. (
    (λ c. clash (is_covered pieces view block) c (ap (λ (ps : List Piece). covered_by pieces.sets.items ps view block) e)),
    (λ o. absurd (none-taken shares o.0 o.1)),
  );
  placed = λ s h. absurd (none-taken shares s h);
}

pub shares-next : (image : List ℕ) (site : Site) (sets : List ViewSet) (many : ℕ) (shares : List Share) (i : ℕ) (before turned after : Pieces) → i < length shares → (get_or shares i no_share).set < length sets → AreShared image site sets many (take i shares) before.all →
    AreViewSets sets many before.all.sets.items → turned ≡ record before { set = many + (get_or shares i no_share).set } → AddsShare image site (get_or shares i no_share) turned after → AreShared image site sets many (take (i + 1) shares) after.all
shares-next image site sets many shares i before turned after low inside had are turns adds =
    let one : Share = get_or shares i no_share in
    record {
      held = λ view block in_view few.
          let g = adds.grows.held view block few in
          let h = had.held view block in_view few in
          let covered : is_covered turned.all view block ≡ is_covered before.all view block = ap (λ (p : Pieces). is_covered p.all view block) turns in
          let has : has_turn turned view ≡ is_shared sets one (head_place many view) = ap (λ (p : Pieces). has_turn p view) turns ∙ are.shares one.set view inside in_view in
          let All : Type 0 = IsOfShares image site sets many (take (i + 1) shares) view block in (
            (λ e. elim (g.0 e) as (λ _. All) [
              | inl o ↦ let t = h.0 (sym covered ∙ o) in (t.0, (taken-more shares i no_share t.0 low).1 (inl t.1), t.2, t.3)
              | inr n ↦ (one, (taken-more shares i no_share one low).1 (inr refl), sym has ∙ n.0, n.1)
            ]),
            (λ o. elim ((taken-more shares i no_share o.0 low).0 o.1) as (λ _. is_covered after.all view block ≡ true) [
              | inl k ↦ g.1 (inl (covered ∙ h.1 (o.0, k, o.2, o.3)))
              | inr e ↦
                  let there : is_shared sets one (head_place many view) ≡ true = subst (λ (s : Share). is_shared sets s (head_place many view) ≡ true) e o.2 in
                  g.1 (inr (has ∙ there, subst (λ (s : Share). IsOfShare image site s block) e o.3))
            ]),
          );
      placed = λ s h. elim ((taken-more shares i no_share s low).0 h) as (λ _. IsPlacedShare image site s) [ inl k ↦ had.placed s k | inr e ↦ subst (IsPlacedShare image site) (sym e) adds.placed ];
    }

pub shares-all : (image : List ℕ) (site : Site) (sets : List ViewSet) (many : ℕ) (shares : List Share) (i : ℕ) (pieces : Holdings) → length shares ≤ i → AreShared image site sets many (take i shares) pieces → AreShared image site sets many shares pieces
shares-all image site sets many shares i pieces all a = subst (λ (xs : List Share). AreShared image site sets many xs pieces) (take_all i shares all) a

-- ---- what is a view's own
pub own-added : (image : List ℕ) (site : Site) (kept : KeptView) (old mid new : Pieces) → AddsReferences image site kept old mid → Grows mid new (λ block. kept.super_block ≡ Some block) → Grows old new (IsOwn image site kept)
own-added image site kept old mid new r s = grows-then old mid new (λ block. In block (node_blocks_of image site kept.extents_root)) (λ block. kept.super_block ≡ Some block) r.1 s

pub owns-next : (image : List ℕ) (site : Site) (views : List KeptView) (i : ℕ) (kept : KeptView) (old : Holdings) (before turned after : Pieces) → slice_get views i ≡ Some kept → AreOwnSets (length views) before.all.sets.items → AddsOwns image site views i old before.all → turned ≡ record before { set = i } →
    Grows turned after (IsOwn image site kept) → AddsOwns image site views (i + 1) old after.all
owns-next image site views i kept old before turned after at own had turns g = λ view block few.
    let x = g.held view block few in
    let h = had view block few in
    let covered : is_covered turned.all view block ≡ is_covered before.all view block = ap (λ (p : Pieces). is_covered p.all view block) turns in
    let turn : has_turn turned view ≡ is_from i (i + 1) view = turned-view before.all.sets.items before turned (length views) i view refl own (below-length views i kept at) turns in
    let Now : Type 0 = (is_covered old view block ≡ true) ⊎ IsOwnAt image site views (i + 1) view block in (
      (λ e. elim (x.0 e) as (λ _. Now) [
        | inl o ↦ elim (h.0 (sym covered ∙ o)) as (λ _. Now) [ inl k ↦ inl k | inr w ↦ let low = w.low in inr (record { low = omega (arith, low); kept = w.kept; found = w.found; own = w.own }) ]
        | inr n ↦
            let here : is_from i (i + 1) view ≡ true = sym turn ∙ n.0 in
            let above = from-low i (i + 1) view here in
            let below = from-high i (i + 1) view here in
            let is : view ≡ i = omega (arith, above, below) in
            inr (record { low = below; kept = kept; found = ap (slice_get views) is ∙ at; own = n.1 })
      ]),
      (λ t. elim t as (λ _. is_covered after.all view block ≡ true) [
        | inl o ↦ x.1 (inl (covered ∙ h.1 (inl o)))
        | inr w ↦ elim (test_or (view == i)) as (λ _. is_covered after.all view block ≡ true) [
          | inl e ↦
              let is : view ≡ i = equal-from view i e in
              let same_view : w.kept ≡ kept = one-some w.kept kept (sym w.found ∙ (ap (slice_get views) is ∙ at)) in
              x.1 (inr (turn ∙ from-is i (i + 1) view (omega (arith, is)) (omega (arith, is)), subst (λ (k : KeptView). IsOwn image site k block) same_view w.own))
          | inr n ↦
              let apart = unequal-from view i n in
              let low = w.low in
              x.1 (inl (covered ∙ h.1 (inr (record { low = omega (arith, low, apart); kept = w.kept; found = w.found; own = w.own }))))
        ]
      ]),
    )

-- the sets stay while blocks are added
pub own-sets : (many : ℕ) (before turned after : Pieces) (P : ℕ → Type 0) (i : ℕ) → turned ≡ record before { set = i } → Grows turned after P → AreOwnSets many before.all.sets.items → AreOwnSets many after.all.sets.items
own-sets many before turned after P i turns g own = subst (λ (p : Pieces). AreOwnSets many p.all.sets.items) (sym (g.same ∙ ap (λ (p : Pieces). record p { all = record p.all { pieces = after.all.pieces } }) turns)) own

pub view-sets : (shared : List ViewSet) (many : ℕ) (before turned after : Pieces) (P : ℕ → Type 0) (i : ℕ) → turned ≡ record before { set = i } → Grows turned after P → AreViewSets shared many before.all.sets.items → AreViewSets shared many after.all.sets.items
view-sets shared many before turned after P i turns g are = subst (λ (p : Pieces). AreViewSets shared many p.all.sets.items) (sym (g.same ∙ ap (λ (p : Pieces). record p { all = record p.all { pieces = after.all.pieces } }) turns)) are
