-- A search over extended fields, field by field.
use Rattle.std.specs.Prelude.{◌≡◌, ℕ, suc, ◌+◌, ◌-◌, ◌<◌, ◌≤◌, ◌*◌, length, true, false, List, [], ◌∷◌, map, Option, None, Some, IfSome, Ok, Err, refl}
use Rattle.std.specs.List.{range_with_len}
use Rattle.std.proofs.Common.{arith, ap, sym, subst}
use Rattle.std.proofs.lemmas.Grind.{common_steps}
use Rattle.std.proofs.lemmas.Bool.Decides.{nat_tests}
use Rattle.fs_record.specs.Fields.{size_at, sizes_of, field_count_of, laid_out, placed, padded, fields_of, field_of, has_table, have_fields_room, is_field_long}
use Rattle.fs_record.specs.Reading.{field_place}
use Rattle.fs_record.specs.Search.{fits, field_seen, place_after}
use Rattle.fs_record.specs.declared.fields.Field.{Field}
use Rattle.fs_record.specs.declared.fault.RecFault.{RecFault}
use Rattle.fs_record.specs.declared.fault.RecFault.TheVariants.{Fields}

-- a field that leaves the value is a fault
pub place_out : (len type least : ℕ) (found : Option ℕ) (f : Field) (fs : List Field) → fits len f ≡ false → place_after len type least found (f ∷ fs) ≡ Err Fields
unfolding place_after
place_out len type least found f fs e = grind (arith, common_steps)

-- a field of the type that is too short is a fault
pub place_short : (len type least : ℕ) (found : Option ℕ) (f : Field) (fs : List Field) (why : RecFault) → field_seen type least found f ≡ Err why → place_after len type least found (f ∷ fs) ≡ Err why
unfolding place_after field_seen is_field_long
place_short len type least (Some at) f fs why e = absurd (cc)
place_short len type least None f fs why e = grind (arith, common_steps)

-- what is found after a field that fits decides with the fields after it
pub place_more : (len type least : ℕ) (found new : Option ℕ) (f : Field) (fs : List Field) → fits len f ≡ true → field_seen type least found f ≡ Ok new → place_after len type least found (f ∷ fs) ≡ place_after len type least new fs
unfolding place_after field_seen is_field_long
place_more len type least (Some at) new f fs fit e = grind (arith, common_steps)
place_more len type least None new f fs fit e = grind (arith, common_steps)

-- a value that ends before its fields has none
pub place_none : (value : List ℕ) (at type least : ℕ) → length value ≡ at → field_place value at type least ≡ Ok None
unfolding field_place have_fields_room field_of fields_of is_field_long
place_none value at type least e = grind (arith, nat_tests, common_steps)

-- a table that leaves the value is a fault
pub place_untabled : (value : List ℕ) (at type least : ℕ) → (length value ≡ at → ⊥) → has_table value at ≡ false → field_place value at type least ≡ Err Fields
unfolding field_place have_fields_room
place_untabled value at type least e f = grind (arith, nat_tests, common_steps)

-- otherwise the place is that of the search over all fields
pub place_tabled : (value : List ℕ) (at type least : ℕ) → (length value ≡ at → ⊥) → has_table value at ≡ true → field_place value at type least ≡ place_after (length value) type least None (laid_out (at + 4 + 4 * field_count_of value at) (sizes_of value at))
unfolding field_place have_fields_room field_of fields_of place_after
place_tabled value at type least e f = grind (arith, nat_tests, common_steps)

-- a field is found inside the value
pub seen_inside : (len type least : ℕ) (found new : Option ℕ) (f : Field) → IfSome found (λ start. start + least ≤ len) → fits len f ≡ true → field_seen type least found f ≡ Ok new → IfSome new (λ start. start + least ≤ len)
unfolding field_seen
seen_inside len type least (Some at) new f inside fit e = grind (arith, nat_tests, common_steps)
seen_inside len type least None new f inside fit e = grind (arith, nat_tests, common_steps)

range-next : (i n : ℕ) → i < n → range_with_len i (n - i) ≡ i ∷ range_with_len (i + 1) (n - (i + 1))
range-next i n h = ap (range_with_len i) (let e : n - i ≡ suc (n - (i + 1)) = omega (arith, h) in e)

-- the fields that are left start with the next one
pub fields_next : (value : List ℕ) (at start i n : ℕ) → i < n
    → laid_out start (map (size_at value at) (range_with_len i (n - i))) ≡ placed start (size_at value at i) ∷ laid_out (start + padded (size_at value at i).len) (map (size_at value at) (range_with_len (i + 1) (n - (i + 1))))
fields_next value at start i n h = ap (λ is. laid_out start (map (size_at value at) is)) (range-next i n h)

end : (len type least : ℕ) (found : Option ℕ) → place_after len type least found [] ≡ Ok found
unfolding place_after is_field_long
end len type least None = refl
end len type least (Some at) = refl

-- no field is left
pub fields_end : (value : List ℕ) (at start i n len type least : ℕ) (found : Option ℕ) → n ≤ i → place_after len type least found (laid_out start (map (size_at value at) (range_with_len i (n - i)))) ≡ Ok found
fields_end value at start i n len type least found h =
    let none : n - i ≡ 0 = omega (arith, h) in
    subst (λ k. place_after len type least found (laid_out start (map (size_at value at) (range_with_len i k))) ≡ Ok found) (sym none) (end len type least found)
