-- What was added, and what views use, is joined.
use Rattle.std.proofs.Common.{ℕ, List, sym, subst}
use Rattle.apfs_model.proofs.Searches.{in-map, from-map}
use Rattle.nx_ring.specs.Checkpoint.{Seen}
use Rattle.omap_map.specs.declared.records.OmapRecord.{OmapRecord}
use Rattle.reach_rules.specs.declared.naming.Naming.{Naming}
use Rattle.reach_gather.specs.Namings.{IsPlainNaming}
use Rattle.reach_gather.specs.Container.{all_views}
use Rattle.reach_gather.specs.ViewParts.{ResolvesTo, AreRecordsOf}
use Rattle.view_sweep.specs.declared.used.Used.{Used}
use Rattle.view_sweep.specs.Named as swept
use Rattle.reach_sweep.specs.Composed.{record_used, records_used, AreJoinedBy}
use Rattle.reach_sweep.proofs.Added.{held-same, held-part}

-- a plain naming, as views have it and as parts do
pub plain-as : (image : List ℕ) (seen : Seen) (n : Naming) → swept.IsPlainNaming image seen n → IsPlainNaming image seen n
plain-as image seen n p = record { object = p.object; found = p.found; sound = p.sound; plain = p.plain }

resolves-to : (image : List ℕ) (seen : Seen) (n : Naming) (u : Used) → swept.IsOfRecord image seen n u → ResolvesTo image seen n (record_used u)
resolves-to image seen n u o = record { object = o.object; found = o.found; record_is = o.record_is }

-- the records that views use
records-of : (image : List ℕ) (seen : Seen) (first : List Naming) (used : List Used) → swept.AreReached image seen first used → AreRecordsOf image seen first (records_used used)
records-of image seen first used r = record {
  each = λ n live.
      let h = r.each n live in
      (record_used h.by, (in-map record_used used h.by h.one, resolves-to image seen n h.by h.is));
  only = λ q k.
      let t = from-map record_used used q k in
      let b = r.only t.0 t.1.0 in
      (b.naming, (b.live, subst (λ (x : ℕ × OmapRecord). ResolvesTo image seen b.naming x) (sym t.1.1) (resolves-to image seen b.naming t.0 b.is)));
}

pub joined-by : (image : List ℕ) (seen : Seen) → AreJoinedBy image seen
joined-by image seen rest first used start parts s g once rest_is first_is r =
    let same = held-same image seen g.these start parts s g.grew in
    record {
      part = held-part image seen rest (all_views image seen) start parts s g rest_is;
      outside = λ n h. g.outside n (same.back n h);
      mapped_once = once.0;
      container_once = once.1;
      views_are = first_is;
      records_are = records-of image seen first used r;
      views_plain = λ n live. plain-as image seen n (r.plain n live);
      views_once = λ m n a b is how oid. r.once m n a b how oid;
    }
