-- What calls that follow one another add to the files of a volume.
use Rattle.std.proofs.Common.{◌≡◌, ℕ, List, [], ◌∷◌, ◌++◌, Some, None, codes, ap, subst, ◌∙◌, append_assoc, arith}
use Rattle.std.specs.List.{AllZip}
use Rattle.std.proofs.lemmas.Bool.Decides.{nat_tests}
use Rattle.fs_name.specs.declared.naming.Names.{Names}
use Rattle.img_plan.specs.declared.files.FileTree.{FileTree}
use Rattle.img_plan.specs.declared.records.inodes.InodePlan.{InodePlan}
use Rattle.img_plan.specs.Packing.{Pair}
use Rattle.img_plan.specs.Records.{directory_of}
use Rattle.img_plan.specs.Files.{AddsEntry, AddsLink, AddsNamed, AddsRecord, AddsStream, HasNoFiles, IsEntry, IsExtent, IsLink, IsSiblingMap, Places, Raises, entry_of, first_inodes, inode_of, names_of, placed, raised, records_of}

-- an inode that is placed, and then named, is added with its name
pub named : (plan : InodePlan) (name : List ℕ) (old mid new : FileTree) → Places plan old mid → AddsEntry (entry_of plan) name mid new → AddsNamed plan name old new
named plan name old mid new place add = record {
  names = add.names ∙ place.names;
  inodes = λ id. add.inodes id ∙ ap (raised plan.parent id) (place.inodes id);
  item = add.item;
  entry = subst (λ (n : Names). IsEntry n (entry_of plan) name add.item) place.names add.entry;
  records = add.records ∙ ap (λ l. l ++ add.item ∷ []) place.records;
}

-- an entry, one link more, and two records are one of several names
pub linked : (file sibling directory : ℕ) (name : List ℕ) (link map : Pair) (old a b c new : FileTree) →
    AddsEntry (record { directory = directory; file = file; kind = 8; sibling = Some sibling }) name old a → Raises file a b → AddsRecord link b c → AddsRecord map c new →
    IsLink file sibling directory name link → IsSiblingMap sibling file map → AddsLink file sibling directory name old new
linked file sibling directory name link map old a b c new add raise first second is_link is_map = record {
  names = second.names ∙ first.names ∙ raise.names ∙ add.names;
  inodes = λ id. second.inodes id ∙ first.inodes id ∙ raise.inodes id ∙ ap (raised file id) (add.inodes id);
  items = (add.item, link, map);
  entry = add.entry;
  link = is_link;
  map = is_map;
  records = second.records ∙ ap (λ l. l ++ map ∷ []) (first.records ∙ ap (λ l. l ++ link ∷ []) (raise.records ∙ add.records)) ∙ ap (λ l. l ++ map ∷ []) (append_assoc (records_of old) (add.item ∷ []) (link ∷ [])) ∙ append_assoc (records_of old) (add.item ∷ link ∷ []) (map ∷ []);
}

-- the inodes of a tree to which the two directories were added
first_two : (id : ℕ) → raised 1 id (placed (directory_of 3 1) id (raised 1 id (placed (directory_of 2 1) id None))) ≡ first_inodes id
first_two id = grind (arith, nat_tests)

-- a tree without inodes and records to which the two directories were added
pub no_files : (names : Names) (none one two : FileTree) → names_of none ≡ names → ((id : ℕ) → inode_of none id ≡ None) → records_of none ≡ [] →
    AddsNamed (directory_of 2 1) (codes "root") none one → AddsNamed (directory_of 3 1) (codes "private-dir") one two → HasNoFiles names two
no_files names none one two given empty bare first second = record {
  names = second.names ∙ first.names ∙ given;
  inodes = λ id. second.inodes id ∙ ap (λ o. raised 1 id (placed (directory_of 3 1) id o)) (first.inodes id ∙ ap (λ o. raised 1 id (placed (directory_of 2 1) id o)) (empty id)) ∙ first_two id;
  items = (first.item, second.item);
  root = subst (λ (n : Names). IsEntry n (entry_of (directory_of 2 1)) (codes "root") first.item) given first.entry;
  private = subst (λ (n : Names). IsEntry n (entry_of (directory_of 3 1)) (codes "private-dir") second.item) (first.names ∙ given) second.entry;
  records = second.records ∙ ap (λ l. l ++ second.item ∷ []) (first.records ∙ ap (λ l. l ++ first.item ∷ []) bare);
}

-- two lists that agree place by place do so with one item more each
pub zip_push : {A B : Type 0} (R : A → B → Type 0) (xs : List A) (ys : List B) (x : A) (y : B) → AllZip R xs ys → R x y → AllZip R (xs ++ x ∷ []) (ys ++ y ∷ [])
zip_push R [] [] x y all here = (here, tt)
zip_push R [] (b ∷ ys) x y all here = absurd all
zip_push R (a ∷ xs) [] x y all here = absurd all
zip_push R (a ∷ xs) (b ∷ ys) x y all here = (all.0, zip_push R xs ys x y all.1 here)

-- a stream to which one more extent is added
pub one_extent_more : (stream : ℕ) (extents : List (ℕ × ℕ × ℕ)) (extent : ℕ × ℕ × ℕ) (item : Pair) (old mid new : FileTree) →
    AddsStream stream extents old mid → AddsRecord item mid new → IsExtent stream extent item → AddsStream stream (extents ++ extent ∷ []) old new
one_extent_more stream extents extent item old mid new was add is_extent = record {
  names = add.names ∙ was.names;
  inodes = λ id. add.inodes id ∙ was.inodes id;
  head = was.head;
  tail = was.tail ++ item ∷ [];
  stream = was.stream;
  extents = zip_push (IsExtent stream) extents was.tail extent item was.extents is_extent;
  records = add.records ∙ ap (λ l. l ++ item ∷ []) was.records ∙ append_assoc (records_of old) (was.head ∷ was.tail) (item ∷ []);
}

-- one item more behind those that came after the first ones
pub pushed : (old more now new : List Pair) (item : Pair) → new ≡ now ++ item ∷ [] → now ≡ old ++ more → new ≡ old ++ (more ++ item ∷ [])
pushed old more now new item push was = push ∙ ap (λ l. l ++ item ∷ []) was ∙ append_assoc old more (item ∷ [])
