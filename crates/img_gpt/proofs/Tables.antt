-- What the search tests is what the definitions say.
use Rattle.std.proofs.Common.{◌≡◌, inl, inr, ℕ, zero, suc, ◌+◌, ◌*◌, ◌-◌, ◌/◌, ◌%◌, ◌≤◌, ◌<◌, Bool, true, false, ◌&&◌, List, Option, None, Some, MatchOption, length, slice_range, refl, sym, ap, ◌∙◌, arith}
use Rattle.std.specs.Prelude.{nat_le, ◌==◌, SomeIff}
use Rattle.std.specs.Str.{bytes_eq}
use Rattle.std.specs.List.{find, range_with_len}
use Rattle.std.proofs.lemmas.Bool.{eq-eqb, ne_eqb, cases_eq, cases_lt, le-leb, lt-leb, and_left, and_right, and_from, cond-true, cond-false}
use Rattle.std.proofs.Math.Nat.{mul-le-mul}
use Rattle.apfs_model.specs.Bytes.{u32_at, u64_at, part_at}
use Rattle.apfs_model.specs.Blocks.{is_multiple}
use Rattle.img_gpt.specs.Table.{has_header, header_mark, sector_of, entries_at, entry_count, entry_size, is_entry_count, is_entry_size, is_table, entry_at, is_container_entry, container_entry, container_type, first_sector, last_sector}
use Rattle.img_gpt.specs.Partition.{part_of, is_placed}
use Rattle.img_gpt.specs.Reads.{IsTableOf}
use Rattle.img_gpt.specs.declared.part.Part.{Part}
use Rattle.img_gpt.specs.declared.table.Table.{Table}
use Rattle.img_gpt.proofs.Numbers.{u32-in, u64-in}
use Rattle.img_gpt.proofs.Sliced.{range-range}

-- ---- the header

pub header-short : (disk : List ℕ) (at size : ℕ) → length disk ≡ size → size < at + 92 → has_header disk at ≡ false
unfolding has_header
header-short disk at size long short = and_left (nat_le (at + 92) (length disk)) _ (lt-leb (at + 92) (length disk) (omega (arith, long, short)))

pub header-is : (disk header : List ℕ) (at size : ℕ) → length disk ≡ size → at + 92 ≤ size → header ≡ part_at disk at 92 → (b : Bool) → bytes_eq (slice_range header 0 8) header_mark ≡ b → has_header disk at ≡ b
unfolding has_header
header-is disk header at size long inside is b test =
    let there : nat_le (at + 92) (length disk) ≡ true = le-leb (at + 92) (length disk) (omega (arith, long, inside)) in
    let same : slice_range header 0 8 ≡ part_at disk at 8 = ap (λ (l : List ℕ). slice_range l 0 8) is ∙ range-range disk at 92 0 8 (omega arith) ∙ ap (λ (k : ℕ). slice_range disk k (k + 8)) (omega arith) in
    ap (λ (t : Bool). t && bytes_eq (part_at disk at 8) header_mark) there ∙ ap (λ (l : List ℕ). bytes_eq l header_mark) (sym same) ∙ test

pub small-sector : (disk : List ℕ) → has_header disk 512 ≡ true → sector_of disk ≡ Some 512
unfolding sector_of
small-sector disk has = cond-true (has_header disk 512) _ _ has

pub large-sector : (disk : List ℕ) → has_header disk 512 ≡ false → has_header disk 4096 ≡ true → sector_of disk ≡ Some 4096
unfolding sector_of
large-sector disk lacks has = cond-false (has_header disk 512) _ _ lacks ∙ cond-true (has_header disk 4096) _ _ has

pub no-sector : (disk : List ℕ) → has_header disk 512 ≡ false → has_header disk 4096 ≡ false → sector_of disk ≡ None
unfolding sector_of
no-sector disk lacks lacks' = cond-false (has_header disk 512) _ _ lacks ∙ cond-false (has_header disk 4096) _ _ lacks'

-- what is None where nothing is Some
pub none-since : {A : Type 0} (o : Option A) (P : Type 0) (Q : A → Type 0) → MatchOption o P Q → ((x : A) → o ≡ Some x → ⊥) → P
none-since None P Q is none = is
none-since (Some x) P Q is none = absurd (none x refl)

-- what a checked product or sum doesn't give is too large
pub over_from_none : (o : Option ℕ) (n top : ℕ) → SomeIff o (n < top) n → ((x : ℕ) → o ≡ Some x → ⊥) → top ≤ n
over_from_none None n top is none = grind (arith, is)
over_from_none (Some x) n top is none = absurd (none x refl)

pub value_from_some : (o : Option ℕ) (P : Type 0) (n x : ℕ) → SomeIff o P n → o ≡ Some x → x ≡ n
value_from_some None P n x is some = absurd Prim.cc
value_from_some (Some y) P n x is some = let same : y ≡ x = Prim.cc in grind (arith, is, same)

-- ---- the table

pub multiple_is : (n : ℕ) → ((n % 8) == 0) ≡ is_multiple n 8
multiple_is n =
    elim (cases_eq (n % 8) 0) [
      | inl e ↦ eq-eqb (n % 8) 0 e ∙ sym (eq-eqb (8 * (n / 8)) n (omega (arith, e)))
      | inr ne ↦ ne_eqb (n % 8) 0 ne ∙ sym (ne_eqb (8 * (n / 8)) n (λ e. ne (omega (arith, e))))
    ]

pub table-is : (disk header : List ℕ) (sector size : ℕ) → length disk ≡ size → header ≡ part_at disk sector 92 →
    is_table disk sector ≡ (is_entry_count (u32_at header 80) && (is_entry_size (u32_at header 84) && nat_le (u64_at header 72 * sector + u32_at header 80 * u32_at header 84) size))
unfolding is_table
table-is disk header sector size long is =
    let count : entry_count disk sector ≡ u32_at header 80 = sym (u32-in disk header sector 92 80 is (omega arith)) in
    let bytes : entry_size disk sector ≡ u32_at header 84 = sym (u32-in disk header sector 92 84 is (omega arith)) in
    let first : u64_at disk (sector + 72) ≡ u64_at header 72 = sym (u64-in disk header sector 92 72 is (omega arith)) in
    cc

pub table-of : (disk header : List ℕ) (table : Table) → header ≡ part_at disk table.sector 92 → table.entries ≡ u64_at header 72 * table.sector → table.count ≡ u32_at header 80 → table.size ≡ u32_at header 84 → IsTableOf disk table
table-of disk header table is entries count size = record {
  place = entries ∙ ap (λ (k : ℕ). k * table.sector) (u64-in disk header table.sector 92 72 is (omega arith));
  many = count ∙ u32-in disk header table.sector 92 80 is (omega arith);
  long = size ∙ u32-in disk header table.sector 92 84 is (omega arith);
}

-- ---- the entries

pub entry-place : (disk : List ℕ) (table : Table) (at : ℕ) → IsTableOf disk table → table.entries + at * table.size ≡ entry_at disk table.sector at
entry-place disk table at is = ap (λ (k : ℕ). k + at * table.size) is.place ∙ ap (λ (k : ℕ). entries_at disk table.sector + at * k) is.long

pub entry-is : (disk entry : List ℕ) (table : Table) (at : ℕ) → IsTableOf disk table → entry ≡ part_at disk (table.entries + at * table.size) 48 →
    (entry ≡ part_at disk (entry_at disk table.sector at) 48) × (bytes_eq (slice_range entry 0 16) container_type ≡ is_container_entry disk table.sector at)
entry-is disk entry table at is read =
    let here : entry ≡ part_at disk (entry_at disk table.sector at) 48 = read ∙ ap (λ (k : ℕ). part_at disk k 48) (entry-place disk table at is) in
    let e = entry_at disk table.sector at in
    let same : slice_range entry 0 16 ≡ part_at disk e 16 = ap (λ (l : List ℕ). slice_range l 0 16) here ∙ range-range disk e 48 0 16 (omega arith) ∙ ap (λ (k : ℕ). slice_range disk k (k + 16)) (omega arith) in
    (here, ap (λ (l : List ℕ). bytes_eq l container_type) same)

find-none : (p : ℕ → Bool) (a n : ℕ) → ((k : ℕ) → k < n → p (a + k) ≡ false) → find p (range_with_len a n) ≡ None
find-none p a zero none = refl
find-none p a (suc n) none =
    let here : p a ≡ false = ap p (omega arith) ∙ none 0 (omega arith) in
    cond-false (p a) _ _ here ∙ find-none p (a + 1) n (λ k low. ap p (omega arith) ∙ none (suc k) (omega (arith, low)))

find-some : (p : ℕ → Bool) (a n i : ℕ) → i < n → p (a + i) ≡ true → ((k : ℕ) → k < i → p (a + k) ≡ false) → find p (range_with_len a n) ≡ Some (a + i)
find-some p a zero i low is before = absurd (omega (arith, low))
find-some p a (suc n) zero low is before = let here : p a ≡ true = ap p (omega arith) ∙ is in cond-true (p a) _ _ here ∙ ap Some (omega arith)
find-some p a (suc n) (suc i) low is before =
    let here : p a ≡ false = ap p (omega arith) ∙ before 0 (omega arith) in
    cond-false (p a) _ _ here
    ∙ find-some p (a + 1) n i (omega (arith, low)) (ap p (omega arith) ∙ is) (λ k less. ap p (omega arith) ∙ before (suc k) (omega (arith, less)))
    ∙ ap Some (omega arith)

pub no-entry : (disk : List ℕ) (table : Table) → IsTableOf disk table → ((k : ℕ) → k < table.count → is_container_entry disk table.sector k ≡ false) → container_entry disk table.sector ≡ None
unfolding container_entry
no-entry disk table is none =
    find-none (is_container_entry disk table.sector) 0 (entry_count disk table.sector)
    (λ k low. ap (is_container_entry disk table.sector) (omega arith) ∙ none k (omega (arith, low, is.many)))

pub first-entry : (disk : List ℕ) (table : Table) (at : ℕ) → IsTableOf disk table → at < table.count → is_container_entry disk table.sector at ≡ true →
    ((k : ℕ) → k < at → is_container_entry disk table.sector k ≡ false) → container_entry disk table.sector ≡ Some at
unfolding container_entry
first-entry disk table at is low has before =
    find-some (is_container_entry disk table.sector) 0 (entry_count disk table.sector) at (omega (arith, low, is.many))
    (ap (is_container_entry disk table.sector) (omega arith) ∙ has)
    (λ k less. ap (is_container_entry disk table.sector) (omega arith) ∙ before k less)
    ∙ ap Some (omega arith)

-- ---- the partition

span : (first last sector : ℕ) → first ≤ last → first * sector + (last + 1 - first) * sector ≡ (last + 1) * sector
span first last sector low =
    let more = last + 1 - first in
    let e : last + 1 ≡ first + more = omega (arith, low) in
    let whole : (last + 1) * sector ≡ (first + more) * sector = ap (λ (k : ℕ). k * sector) e in
    omega (arith, whole)

pub not-placed : (disk entry : List ℕ) (sector i size : ℕ) → length disk ≡ size → entry ≡ part_at disk (entry_at disk sector i) 48 →
    (u64_at entry 32 ≤ u64_at entry 40 → size < (u64_at entry 40 + 1) * sector) → is_placed disk sector i ≡ false
unfolding is_placed
not-placed disk entry sector i size long is outside =
    let first : first_sector disk sector i ≡ u64_at entry 32 = sym (u64-in disk entry (entry_at disk sector i) 48 32 is (omega arith)) in
    let last : last_sector disk sector i ≡ u64_at entry 40 = sym (u64-in disk entry (entry_at disk sector i) 48 40 is (omega arith)) in
    elim (cases_lt (last_sector disk sector i) (first_sector disk sector i)) [
      | inl less ↦ and_left _ _ (lt-leb (first_sector disk sector i) (last_sector disk sector i) less)
      | inr low ↦
          let end : first_sector disk sector i * sector + (last_sector disk sector i + 1 - first_sector disk sector i) * sector ≡ (last_sector disk sector i + 1) * sector = span (first_sector disk sector i) (last_sector disk sector i) sector low in
          let same : (last_sector disk sector i + 1) * sector ≡ (u64_at entry 40 + 1) * sector = ap (λ (k : ℕ). (k + 1) * sector) last in
          let beyond : size < (u64_at entry 40 + 1) * sector = outside (omega (arith, first, last, low)) in
          and_right _ _ (lt-leb _ (length disk) (omega (arith, end, same, beyond, long)))
    ]

pub placed : (disk entry : List ℕ) (sector i size : ℕ) → length disk ≡ size → entry ≡ part_at disk (entry_at disk sector i) 48 →
    u64_at entry 32 ≤ u64_at entry 40 → (u64_at entry 40 + 1) * sector ≤ size → is_placed disk sector i ≡ true
unfolding is_placed
placed disk entry sector i size long is order inside =
    let first : first_sector disk sector i ≡ u64_at entry 32 = sym (u64-in disk entry (entry_at disk sector i) 48 32 is (omega arith)) in
    let last : last_sector disk sector i ≡ u64_at entry 40 = sym (u64-in disk entry (entry_at disk sector i) 48 40 is (omega arith)) in
    let low : first_sector disk sector i ≤ last_sector disk sector i = omega (arith, first, last, order) in
    let end : first_sector disk sector i * sector + (last_sector disk sector i + 1 - first_sector disk sector i) * sector ≡ (last_sector disk sector i + 1) * sector = span (first_sector disk sector i) (last_sector disk sector i) sector low in
    let same : (last_sector disk sector i + 1) * sector ≡ (u64_at entry 40 + 1) * sector = ap (λ (k : ℕ). (k + 1) * sector) last in
    and_from _ _ (le-leb _ _ low) (le-leb _ (length disk) (omega (arith, end, same, inside, long)))

pub part-is : (disk entry : List ℕ) (sector i start end : ℕ) → entry ≡ part_at disk (entry_at disk sector i) 48 →
    u64_at entry 32 ≤ u64_at entry 40 → start ≡ u64_at entry 32 * sector → end ≡ (u64_at entry 40 + 1) * sector → let part : Part = record { start = start; length = end - start } in part ≡ part_of disk sector i
part-is disk entry sector i start end is order from to =
    let first : first_sector disk sector i ≡ u64_at entry 32 = sym (u64-in disk entry (entry_at disk sector i) 48 32 is (omega arith)) in
    let last : last_sector disk sector i ≡ u64_at entry 40 = sym (u64-in disk entry (entry_at disk sector i) 48 40 is (omega arith)) in
    let whole : u64_at entry 32 * sector + (u64_at entry 40 + 1 - u64_at entry 32) * sector ≡ (u64_at entry 40 + 1) * sector = span (u64_at entry 32) (u64_at entry 40) sector order in
    let long : end - start ≡ (u64_at entry 40 + 1 - u64_at entry 32) * sector = omega (arith, from, to, whole) in
    cc

-- a sector beyond the greatest number lies outside
pub mul-low : (a b s : ℕ) → a ≤ b → a * s ≤ b * s
mul-low a b s low = mul-le-mul low (omega arith)

pub mul-one : (a s : ℕ) → 1 ≤ s → a ≤ a * s
mul-one a s some = let more : a * 1 ≤ a * s = mul-le-mul (omega arith) some in omega (arith, more)
