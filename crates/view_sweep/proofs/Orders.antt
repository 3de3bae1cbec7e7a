-- The orders in which objects are sorted are total, and things that tie are alike.
use Rattle.std.proofs.Common.{◌≡◌, ℕ, ◌+◌, ◌≤◌, false, List, get_or, refl, arith}
use Rattle.std.specs.declared.cmp.Ordering.TheVariants.{Less, Equal, Greater}
use Rattle.std.specs.Ordering.{nat_cmp, ordering_then, is_lt}
use Rattle.std.specs.Cmp.{IsTotalOrder, IsStrictWeakOrder}
use Rattle.std.proofs.lemmas.Cmp.{nat_cmp_total, then_total, on_total}
use Rattle.std.specs.declared.cmp.Ordering.{Ordering}
use Rattle.std.specs.List.Sorted.{IsSortedBy}
use Rattle.std.proofs.lemmas.Bool.Decides.{nat_tests}
use Rattle.std.proofs.lemmas.List.Sorted.{ranks_by, sorted_far}
use Rattle.omap_map.specs.declared.records.OmapRecord.{OmapRecord}
use Rattle.reach_rules.proofs.Equal.{record-is}
use Rattle.view_sweep.specs.declared.wanted.SweptView.{SweptView}
use Rattle.view_sweep.specs.declared.wanted.Want.{Want}
use Rattle.view_sweep.specs.declared.wanted.Wanted.{Wanted}
use Rattle.view_sweep.specs.declared.wanted.Asked.{Asked}
use Rattle.view_sweep.specs.declared.used.Used.{Used}
use Rattle.view_sweep.specs.Wanted.{number_by}
use Rattle.view_sweep.specs.Found.{used_of}
use Rattle.view_sweep.specs.Asked.{nth_asked}
use Rattle.view_sweep.specs.Order.{asked_rank, AreById, used_rank, is_used_below, is_hit_below}
use Rattle.view_sweep.proofs.Ranked.{nat-tie, then-tie}

pub asked_total : IsTotalOrder asked_rank
asked_total = then_total (on_total (λ (a : Asked). a.wanted.oid) nat_cmp_total) (on_total (λ (a : Asked). number_by a.wanted.want) nat_cmp_total)

pub asked_order : IsStrictWeakOrder (λ (a b : Asked). is_lt (asked_rank a b))
asked_order = ranks_by asked_total (λ (a : Asked). a)

pub used_total : IsTotalOrder used_rank
used_total =
    then_total (on_total (λ (u : Used). u.map) nat_cmp_total)
    (then_total (on_total (λ (u : Used). u.mapping.oid) nat_cmp_total)
    (then_total (on_total (λ (u : Used). u.mapping.xid) nat_cmp_total)
    (then_total (on_total (λ (u : Used). u.mapping.paddr) nat_cmp_total)
    (then_total (on_total (λ (u : Used). u.mapping.flags) nat_cmp_total) (on_total (λ (u : Used). u.mapping.size) nat_cmp_total)))))

pub used_order : IsStrictWeakOrder is_used_below
used_order = ranks_by used_total (λ (u : Used). u)

pub hit_order : IsStrictWeakOrder is_hit_below
hit_order = ranks_by used_total used_of

-- records by their parts
use_by : ℕ → OmapRecord → Used
use_by map mapping = record { map = map; mapping = mapping }

pub use-is : (a b : Used) → a.map ≡ b.map → a.mapping ≡ b.mapping → a ≡ b
unfolding use_by
use-is a b p q = let k : use_by a.map a.mapping ≡ use_by b.map b.mapping = cc in k

want_by : SweptView → ℕ → Want → Wanted
want_by view oid want = record { view = view; oid = oid; want = want }

pub wanted-is : (a b : Wanted) → a.view ≡ b.view → a.oid ≡ b.oid → a.want ≡ b.want → a ≡ b
unfolding want_by
wanted-is a b p q s = let k : want_by a.view a.oid a.want ≡ want_by b.view b.oid b.want = cc in k

-- used records that tie are one
pub used-one : (a b : Used) → used_rank a b ≡ Equal → a ≡ b
used-one a b e =
    let t1 = then-tie (nat_cmp a.map b.map) (ordering_then (nat_cmp a.mapping.oid b.mapping.oid) (ordering_then (nat_cmp a.mapping.xid b.mapping.xid) (ordering_then (nat_cmp a.mapping.paddr b.mapping.paddr) (ordering_then (nat_cmp a.mapping.flags b.mapping.flags) (nat_cmp a.mapping.size b.mapping.size))))) e in
    let t2 = then-tie (nat_cmp a.mapping.oid b.mapping.oid) (ordering_then (nat_cmp a.mapping.xid b.mapping.xid) (ordering_then (nat_cmp a.mapping.paddr b.mapping.paddr) (ordering_then (nat_cmp a.mapping.flags b.mapping.flags) (nat_cmp a.mapping.size b.mapping.size)))) t1.1 in
    let t3 = then-tie (nat_cmp a.mapping.xid b.mapping.xid) (ordering_then (nat_cmp a.mapping.paddr b.mapping.paddr) (ordering_then (nat_cmp a.mapping.flags b.mapping.flags) (nat_cmp a.mapping.size b.mapping.size))) t2.1 in
    let t4 = then-tie (nat_cmp a.mapping.paddr b.mapping.paddr) (ordering_then (nat_cmp a.mapping.flags b.mapping.flags) (nat_cmp a.mapping.size b.mapping.size)) t3.1 in
    let t5 = then-tie (nat_cmp a.mapping.flags b.mapping.flags) (nat_cmp a.mapping.size b.mapping.size) t4.1 in
    use-is a b (nat-tie a.map b.map t1.0)
    (record-is a.mapping b.mapping (nat-tie a.mapping.oid b.mapping.oid t2.0) (nat-tie a.mapping.xid b.mapping.xid t3.0) (nat-tie a.mapping.flags b.mapping.flags t5.0) (nat-tie a.mapping.size b.mapping.size t5.1) (nat-tie a.mapping.paddr b.mapping.paddr t4.0))

-- ids of what is sorted by them don't fall
less-first : (c d : Ordering) → is_lt (ordering_then c d) ≡ false → is_lt c ≡ false
less-first Less d e = e
less-first Equal d e = refl
less-first Greater d e = refl

not-below : (x y : ℕ) → is_lt (nat_cmp y x) ≡ false → x ≤ y
not-below x y e = grind (arith, nat_tests)

pub rising : (asked : List Asked) → IsSortedBy (λ (a b : Asked). is_lt (asked_rank a b)) asked → AreById asked
rising asked sorted = λ i j le low.
    not-below (nth_asked asked i).wanted.oid (nth_asked asked j).wanted.oid
    (sorted_far (λ (a b : Asked). is_lt (nat_cmp a.wanted.oid b.wanted.oid)) (ranks_by (on_total (λ (a : Asked). a.wanted.oid) nat_cmp_total) (λ (a : Asked). a)) asked
    (λ n d high low. less-first (nat_cmp (get_or asked (n + 1) d).wanted.oid (get_or asked n d).wanted.oid) _ (sorted n d high low)) i j _ le low)
