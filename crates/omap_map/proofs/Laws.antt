-- What the record that an id resolves to means.
use Rattle.std.specs.Prelude.{◌≡◌, ◌⊎◌, ℕ, ◌<◌, ◌≤◌, true, false, List, [], ◌∷◌, filter, Option, None, Some, refl, option_and_then}
use Rattle.std.proofs.Common.{arith, subst, ◌∙◌}
use Rattle.std.proofs.lemmas.Grind.{common_steps}
use Rattle.omap_map.specs.Records.{is_deleted}
use Rattle.omap_map.specs.Resolve.{is_for, latest, resolved, unless_deleted}
use Rattle.omap_map.specs.Loading.{IsResolved}
use Rattle.omap_map.specs.declared.records.OmapRecord.{OmapRecord}
use Rattle.omap_map.proofs.Lists.{filter-in, in-filter, greatest_one, greatest_bound}

-- of a record that isn't marked deleted, the record
unless_deleted-some : (s r : OmapRecord) → unless_deleted s ≡ Some r → (s ≡ r) × (is_deleted s.flags ≡ false)
unless_deleted-some s r e = (grind (arith, common_steps), grind (arith, common_steps))

for-same : (oid x : ℕ) (r : OmapRecord) → is_for oid x r ≡ true → r.oid ≡ oid
for-same oid x r e = grind (arith, common_steps)

for-early : (oid x : ℕ) (r : OmapRecord) → is_for oid x r ≡ true → r.xid ≤ x
for-early oid x r e = grind (arith, common_steps)

for-both : (oid x : ℕ) (r : OmapRecord) → r.oid ≡ oid → r.xid ≤ x → is_for oid x r ≡ true
for-both oid x r e h = grind (arith, common_steps)

latest-means : (records : List OmapRecord) (oid x : ℕ) (r : OmapRecord) → latest records oid x ≡ Some r → is_deleted r.flags ≡ false → IsResolved records oid x r
unfolding latest
latest-means records oid x r e kept =
    let found = filter-in (is_for oid x) records r (greatest_one (λ (s : OmapRecord). s.xid) (filter (is_for oid x) records) r e) in
    record {
      one = found.0;
      same = for-same oid x r found.1;
      early = for-early oid x r found.1;
      last = λ s h f low. greatest_bound (λ (s : OmapRecord). s.xid) (filter (is_for oid x) records) r e s (in-filter (is_for oid x) records s h (for-both oid x s f low));
      kept = kept;
    }

resolved-step : (records : List OmapRecord) (oid x : ℕ) (r : OmapRecord) (o : Option OmapRecord) → latest records oid x ≡ o → option_and_then unless_deleted o ≡ Some r → IsResolved records oid x r
resolved-step records oid x r None e f = absurd (cc)
resolved-step records oid x r (Some s) e f =
    let u = unless_deleted-some s r f in
    subst (λ t. IsResolved records oid x t) u.0 (latest-means records oid x s e u.1)

-- the record that an id resolves to is one of the map's, of the id, early enough, the last of these, and not marked deleted
pub resolved-means : (records : List OmapRecord) (oid x : ℕ) (r : OmapRecord) → resolved records oid x ≡ Some r → IsResolved records oid x r
unfolding resolved
resolved-means records oid x r e = resolved-step records oid x r (latest records oid x) refl e
