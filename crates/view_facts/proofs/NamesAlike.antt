-- What records say rests on whether names are hashed, and on no more of how they are compared.
use Rattle.std.proofs.Common.{◌≡◌, ℕ, Bool, List, refl, ap, sym, ◌∙◌}
use Rattle.std.proofs.lemmas.Bool.{false≢true}
use Rattle.bt_node.specs.Entries.{Pair}
use Rattle.bt_cursor.specs.Line.{Item}
use Rattle.fs_name.specs.declared.naming.Names.{Names}
use Rattle.fs_name.specs.declared.naming.Names.TheVariants.{Exact, Normal, Folded}
use Rattle.fs_name.specs.Normal.{are_hashed}
use Rattle.fs_record.specs.Entries.{entry_of}
use Rattle.fs_record.specs.declared.fault.RecFault.{RecFault}
use Rattle.fs_record.specs.Facts.{entries_of, refused}
use Rattle.view_rules.specs.Facts.{Facts, facts_in}
use Rattle.view_rules.specs.Rules.{refusal_of, HasRecords, IsRecord}
use Rattle.view_facts.specs.Contents.{kept_facts}

-- the entries of records
pub entries-alike : (a b : Names) → are_hashed a ≡ are_hashed b → (ps : List Pair) → entries_of a ps ≡ entries_of b ps
unfolding entries_of entry_of
entries-alike Exact Exact e ps = refl
entries-alike Exact Normal e ps = absurd (false≢true e)
entries-alike Exact Folded e ps = absurd (false≢true e)
entries-alike Normal Exact e ps = absurd (false≢true (sym e))
entries-alike Normal Normal e ps = refl
entries-alike Normal Folded e ps = refl
entries-alike Folded Exact e ps = absurd (false≢true (sym e))
entries-alike Folded Normal e ps = refl
entries-alike Folded Folded e ps = refl

-- why a record is refused
pub refusal-alike : (a b : Names) → are_hashed a ≡ are_hashed b → (item : Item) → refusal_of a item ≡ refusal_of b item
unfolding refusal_of refused entry_of
refusal-alike Exact Exact e item = refl
refusal-alike Exact Normal e item = absurd (false≢true e)
refusal-alike Exact Folded e item = absurd (false≢true e)
refusal-alike Normal Exact e item = absurd (false≢true (sym e))
refusal-alike Normal Normal e item = refl
refusal-alike Normal Folded e item = refl
refusal-alike Folded Exact e item = absurd (false≢true (sym e))
refusal-alike Folded Normal e item = refl
refusal-alike Folded Folded e item = refl

pub records-alike : (a b : Names) (line : List Item) → are_hashed a ≡ are_hashed b → HasRecords a line → HasRecords b line
records-alike a b line e all item listed = sym (refusal-alike a b e item) ∙ all item listed

pub record-alike : (a b : Names) (line : List Item) (at : ℕ) (why : RecFault) → are_hashed a ≡ are_hashed b → IsRecord a line at why → IsRecord b line at why
record-alike a b line at why e r = record { number = r.number; item = r.item; found = r.found; part = sym (refusal-alike a b e r.item) ∙ r.part; same = r.same }

-- what is kept of the facts of records, with the other names
pub facts-alike : (files : Bool) (facts : Facts) (names : Names) (ps : List Pair) → are_hashed facts.names ≡ are_hashed names → facts ≡ kept_facts files (facts_in facts.names ps) → record facts { names = names } ≡ kept_facts files (facts_in names ps)
facts-alike files facts names ps e said = λ i. record {
  names = names;
  inodes = ap (λ (f : Facts). f.inodes) said i;
  entries = (ap (λ (f : Facts). f.entries) said ∙ entries-alike facts.names names e ps) i;
  attributes = ap (λ (f : Facts). f.attributes) said i;
  links = ap (λ (f : Facts). f.links) said i;
  siblings = ap (λ (f : Facts). f.siblings) said i;
  extents = ap (λ (f : Facts). f.extents) said i;
}
