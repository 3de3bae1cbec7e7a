-- Attributes, and the one of a name, by what was gathered.
use Rattle.std.proofs.Common.{◌≡◌, ℕ, zero, suc, ◌<◌, Bool, true, false, cond, List, [], ◌∷◌, length, map, get_or, Option, Some, None, Result, Ok, Err, refl, ap, sym, ◌∙◌, arith}
use Rattle.std.specs.List.{find}
use Rattle.apfs_model.specs.Lists.{and_then}
use Rattle.obj_base.specs.declared.site.Site.{Site}
use Rattle.fs_record.specs.Attributes.{Attribute}
use Rattle.fs_record.specs.Facts.{all_for}
use Rattle.vol_view.specs.Volumes.{Loaded}
use Rattle.vol_view.specs.declared.volume.View.{View}
use Rattle.view_rules.specs.Facts.{Facts}
use Rattle.view_rules.specs.Rules.{view_facts}
use Rattle.path_search.specs.Places.{Place}
use Rattle.path_search.specs.Found.{found}
use Rattle.path_search.specs.Order.{by_name}
use Rattle.path_search.specs.declared.answer.Answer.{Answer}
use Rattle.path_search.proofs.Laws.{err-same, ok-err}
use Rattle.path_read.specs.Attributes.{attributes_in, attribute_told, attributes, is_called, attribute_named, held_by, attribute}
use Rattle.path_read.specs.Needs.{AttributesNeed, HasExtents, ValueNeed}
use Rattle.path_read.specs.Parts.{attributes_at}

ok-equal : {T : Type 0} (x y : T) → ◌≡◌ {A = Result T Answer} (Ok x) (Ok y) → x ≡ y
ok-equal x y e = cc

-- what is gathered of a place
pub gathered_at : (facts : Facts) (path : List ℕ) (place : Place) (these : List Attribute) → found facts path ≡ Ok place → these ≡ all_for place.id facts.attributes → attributes_at facts path ≡ Ok these
gathered_at facts path place these there same =
    ap (λ (r : Result Place Answer). and_then {T = Place} {U = List Attribute} r (λ (p : Place). Ok (all_for p.id facts.attributes))) there ∙ ap Ok (sym same)

pub gathered_lost : (facts : Facts) (path : List ℕ) (a : Answer) → found facts path ≡ Err a → attributes_at facts path ≡ Err a
gathered_lost facts path a e = ap (λ (r : Result Place Answer). and_then {T = Place} {U = List Attribute} r (λ (p : Place). Ok (all_for p.id facts.attributes))) e

-- ---- by what is found of the path
listed-at : (facts : Facts) (r : Result Place Answer) (these : List Attribute) → and_then r (λ (p : Place). Ok (all_for p.id facts.attributes)) ≡ Ok these →
    and_then r (λ (p : Place). Ok (map attribute_told (attributes_in facts p.id))) ≡ Ok (map attribute_told (by_name (λ (a : Attribute). a.name) these))
unfolding attributes_in
listed-at facts (Ok place) these e = ap (λ (l : List Attribute). Ok (map attribute_told (by_name (λ (a : Attribute). a.name) l))) (ok-equal (all_for place.id facts.attributes) these e)
listed-at facts (Err a) these e = absurd (ok-err these a (sym e))

listed-lost : {U : Type 0} (facts : Facts) (r : Result Place Answer) (next : Place → Result U Answer) (a : Answer) → and_then r (λ (p : Place). Ok (all_for p.id facts.attributes)) ≡ Err a → and_then r next ≡ Err a
listed-lost facts (Ok place) next a e = absurd (ok-err (all_for place.id facts.attributes) a e)
listed-lost facts (Err b) next a e = ap Err (err-same b a e)

held-at : (block_size : ℕ) (image : List ℕ) (facts : Facts) (name : List ℕ) (r : Result Place Answer) (these : List Attribute) (o : Option Attribute) → and_then r (λ (p : Place). Ok (all_for p.id facts.attributes)) ≡ Ok these → find (is_called name) these ≡ o →
    and_then r (λ (p : Place). held_by block_size image facts (attribute_named facts p.id name)) ≡ held_by block_size image facts o
unfolding attribute_named
held-at block_size image facts name (Ok place) these o e f =
    ap (held_by block_size image facts) (ap (find (is_called name)) (ok-equal (all_for place.id facts.attributes) these e) ∙ f)
held-at block_size image facts name (Err a) these o e f = absurd (ok-err these a (sym e))

-- the attributes of a path, as they are told
pub attributes_given : (facts : Facts) (path : List ℕ) (these : List Attribute) → attributes_at facts path ≡ Ok these → attributes facts path ≡ Ok (map attribute_told (by_name (λ (a : Attribute). a.name) these))
attributes_given facts path these e = listed-at facts (found facts path) these e

pub attributes_lost : (facts : Facts) (path : List ℕ) (a : Answer) → attributes_at facts path ≡ Err a → attributes facts path ≡ Err a
attributes_lost facts path a e = listed-lost facts (found facts path) (λ (p : Place). Ok (map attribute_told (attributes_in facts p.id))) a e

-- what the attribute of a name holds
pub attribute_given : (block_size : ℕ) (image : List ℕ) (facts : Facts) (path name : List ℕ) (these : List Attribute) (o : Option Attribute) → attributes_at facts path ≡ Ok these → find (is_called name) these ≡ o → attribute block_size image facts path name ≡ held_by block_size image facts o
attribute_given block_size image facts path name these o e f = held-at block_size image facts name (found facts path) these o e f

pub attribute_lost : (block_size : ℕ) (image : List ℕ) (facts : Facts) (path name : List ℕ) (a : Answer) → attributes_at facts path ≡ Err a → attribute block_size image facts path name ≡ Err a
attribute_lost block_size image facts path name a e = listed-lost facts (found facts path) (λ (p : Place). held_by block_size image facts (attribute_named facts p.id name)) a e

-- ---- what the value of an attribute needs, by what was gathered
module _ (image : List ℕ) (site : Site) (volume : Loaded) (view : View) (path name : List ℕ) where
  pub value_lost : (a : Answer) → attributes_at (view_facts image site volume view) path ≡ Err a → AttributesNeed image site volume view path → ValueNeed image site volume view path name
  value_lost a lost needs = record {
    attributes = needs;
    extents = λ place x there named.
        let facts : Facts = view_facts image site volume view in
        let these : List Attribute = all_for place.id facts.attributes in
        absurd (ok-err these a (sym (gathered_at facts path place these there refl) ∙ lost));
  }

  pub value_given : (these : List Attribute) (o : Option Attribute) → attributes_at (view_facts image site volume view) path ≡ Ok these → find (is_called name) these ≡ o → ((a : Attribute) → o ≡ Some a → HasExtents image site volume view a.body) → AttributesNeed image site volume view path → ValueNeed image site volume view path name
  unfolding attribute_named
  value_given these o given first has needs = record {
    attributes = needs;
    extents = λ place a there named.
        let facts : Facts = view_facts image site volume view in
        let all : List Attribute = all_for place.id facts.attributes in
        let same : these ≡ all = ok-equal these all (sym given ∙ gathered_at facts path place all there refl) in
        has a (sym first ∙ ap (find (is_called name)) same ∙ named);
  }

-- ---- one attribute after another

-- the first that passes a test
pub find_first : {X : Type 0} (p : X → Bool) (xs : List X) (i : ℕ) (d : X) → i < length xs → ((k : ℕ) → k < i → p (get_or xs k d) ≡ false) → p (get_or xs i d) ≡ true → find p xs ≡ Some (get_or xs i d)
find_first p [] i d low before here = absurd (omega arith)
find_first p (x ∷ xs) zero d low before here = ap (λ b. cond b (Some x) (find p xs)) here
find_first {X} p (x ∷ xs) (suc i) d low before here =
    ap (λ b. cond b (Some x) (find p xs)) (before 0 (omega arith))
    ∙ find_first p xs i d (omega arith) (λ k less. before (suc k) (omega arith)) here

-- and none where none does
pub find_none : {X : Type 0} (p : X → Bool) (xs : List X) → ((k : ℕ) (d : X) → k < length xs → p (get_or xs k d) ≡ false) → find p xs ≡ None
find_none p [] before = refl
find_none p (x ∷ xs) before =
    ap (λ b. cond b (Some x) (find p xs)) (before 0 x (omega arith))
    ∙ find_none p xs (λ k d low. before (suc k) d (omega arith))
