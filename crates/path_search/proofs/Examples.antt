-- Paths and listings on small lists of facts.
use Rattle.std.proofs.Common.{◌≡◌, ℕ, ◌*◌, true, false, List, [], ◌∷◌, Some, None, Result, Ok, Err, refl, ap₂, cond}
use Rattle.std.specs.Prelude.{codes, pos, ◌++◌, bytes_eq}
use Rattle.std.specs.Fmt.{digits}
use Rattle.fs_name.specs.Normal.{is_same_name}
use Rattle.fs_name.specs.declared.naming.Names.TheVariants.{Exact, Folded}
use Rattle.fs_name.proofs.NormalLemmas.{ascii_normal_form}
use Rattle.fs_record.specs.Inodes.{Inode}
use Rattle.fs_record.specs.Entries.{Entry}
use Rattle.fs_record.specs.Attributes.{Body, Attribute}
use Rattle.fs_record.specs.Facts.{Fact}
use Rattle.fs_record.specs.declared.extents.FileExt.{FileExt}
use Rattle.view_rules.specs.Facts.{Facts}
use Rattle.path_search.specs.Paths.{components}
use Rattle.path_search.specs.Found.{entries_in, entry_named, found}
use Rattle.path_search.specs.Listing.{children, listing}
use Rattle.path_search.specs.Texts.{kind_text, ls_text}
use Rattle.path_search.specs.declared.answer.Answer.{Answer}
use Rattle.path_search.specs.declared.answer.Answer.TheVariants.{NotFound, NotDirectory}
use Rattle.view_rules.proofs.HashExamples.{ascii-by}

-- ---- facts
abbrev pub inode : ℕ → ℕ → ℕ → Fact Inode
inode id kind flags = record { id = id; what = record { parent = 2; private_id = id; links = pos 1; bsd_flags = flags; mode = 4096 * kind; stream = None } }

-- a file with a stream of a size, whose private id is another
abbrev pub file : ℕ → ℕ → ℕ → ℕ → Fact Inode
file id private size flags = record { id = id; what = record { parent = 2; private_id = private; links = pos 1; bsd_flags = flags; mode = 4096 * 8; stream = Some (record { size = size; allocated = 4096 }) } }

abbrev pub entry : ℕ → List ℕ → ℕ → Fact Entry
entry id name file_id = record { id = id; what = record { name = name; hash = 0; file_id = file_id; kind = 8; sibling = None } }

abbrev pub held : ℕ → List ℕ → Body → Fact Attribute
held id name body = record { id = id; what = record { name = name; body = body } }

abbrev pub extent : ℕ → ℕ → ℕ → ℕ → Fact FileExt
extent id logical len block = record { id = id; what = record { logical = logical; length = len; block = block } }

-- the two directories and the two entries that each view has
abbrev base_inodes : List (Fact Inode)
base_inodes = inode 2 4 0 ∷ inode 3 4 0 ∷ []

abbrev base_entries : List (Fact Entry)
base_entries = entry 1 (codes "private-dir") 3 ∷ entry 1 (codes "root") 2 ∷ []

abbrev pub view : List (Fact Inode) → List (Fact Entry) → List (Fact Attribute) → List (Fact FileExt) → Facts
view inodes entries held_by extents = record { names = Exact; inodes = base_inodes ++ inodes; entries = base_entries ++ entries; attributes = held_by; links = []; siblings = []; extents = extents }

abbrev pub files : List (Fact Inode) → List (Fact Entry) → Facts
files inodes entries = view inodes entries [] []

-- what a command writes
abbrev pub written : {X : Type 0} → (X → List ℕ) → Result X Answer → Result (List ℕ) Answer
written text (Ok x) = Ok (text x)
written text (Err a) = Err a

abbrev ls : Facts → List ℕ → Result (List ℕ) Answer
ls facts path = written ls_text (listing facts path)

-- ---- paths
split : components (codes "//a/./b..//") ≡ codes "a" ∷ codes "." ∷ codes "b.." ∷ []
unfolding components
split = refl

unsplit : components [] ≡ []
unfolding components
unsplit = refl

-- ---- listings
-- two names that differ in their case, in another order than they are listed in
abbrev cased : Facts
cased = files (inode 16 8 0 ∷ inode 17 8 0 ∷ []) (entry 2 (codes "a") 16 ∷ entry 2 (codes "A") 17 ∷ [])

small_a : ls cased (codes "/a") ≡ Ok (codes "- 16 0 a\n")
unfolding components entries_in entry_named found children kind_text digits
small_a = refl

capital_a : ls cased (codes "/A") ≡ Ok (codes "- 17 0 A\n")
unfolding components entries_in entry_named found children kind_text digits
capital_a = refl

both : ls cased (codes "/") ≡ Ok (codes "- 17 0 A\n- 16 0 a\n")
unfolding components entries_in entry_named found children kind_text digits
both = refl

nothing_there : ls (files [] []) (codes "/") ≡ Ok []
unfolding components entries_in entry_named found children kind_text digits
nothing_there = refl

-- one file, by an empty path and by its own; a name that isn't there; a file that is no directory
abbrev pub hello : Facts
hello = view (file 16 20 5 0 ∷ []) (entry 2 (codes "hello.txt") 16 ∷ []) [] (extent 20 0 8 1 ∷ [])

by_nothing : ls hello [] ≡ Ok (codes "- 16 5 hello.txt\n")
unfolding components entries_in entry_named found children kind_text digits
by_nothing = refl

by_itself : ls hello (codes "/hello.txt") ≡ Ok (codes "- 16 5 hello.txt\n")
unfolding components entries_in entry_named found children kind_text digits
by_itself = refl

no_directory : ls hello (codes "/hello.txt/x") ≡ Err NotDirectory
unfolding components entries_in entry_named found children kind_text digits
no_directory = refl

-- a shorter name comes before a longer one that begins with it; a byte, a slash and a backslash that are hidden
shown : ls (files (inode 16 8 0 ∷ inode 17 8 0 ∷ inode 18 8 0 ∷ inode 19 12 0 ∷ []) (entry 2 (codes "ab") 16 ∷ entry 2 (codes "a") 17 ∷ entry 2 (97 ∷ 10 ∷ 98 ∷ []) 18 ∷ entry 2 (47 ∷ 92 ∷ []) 19 ∷ [])) (codes "/")
    ≡ Ok (codes "s 19 0 \\x2f\\x5c\n- 17 0 a\n- 18 0 a\\x0ab\n- 16 0 ab\n")
unfolding components entries_in entry_named found children kind_text digits
shown = refl

-- an entry whose name is a slash isn't shown as the root is
slash_alone : ls (files (inode 16 8 0 ∷ []) (entry 2 (codes "/") 16 ∷ [])) (codes "/") ≡ Ok (codes "- 16 0 \\x2f\n")
unfolding components entries_in entry_named found children kind_text digits
slash_alone = refl

-- entries of a reserved directory are neither followed nor listed; those of 3 are
abbrev pub kept_apart : Facts
kept_apart = files (inode 5 4 0 ∷ inode 16 8 0 ∷ []) (entry 2 (codes "five") 5 ∷ entry 2 (codes "three") 3 ∷ entry 3 (codes "x") 16 ∷ entry 5 (codes "x") 16 ∷ [])

reserved : ls kept_apart (codes "/five") ≡ Ok []
unfolding components entries_in entry_named found children kind_text digits
reserved = refl

reserved_entry : ls kept_apart (codes "/five/x") ≡ Err NotFound
unfolding components entries_in entry_named found children kind_text digits
reserved_entry = refl

private : ls kept_apart (codes "/three") ≡ Ok (codes "- 16 0 x\n")
unfolding components entries_in entry_named found children kind_text digits
private = refl

-- ---- names
-- names that differ in their case alone are the same where case is folded, and others aren't
read_me : is_same_name Folded (codes "ReadMe") (codes "README") ≡ true
unfolding is_same_name
read_me = ap₂ bytes_eq (ascii_normal_form Folded (codes "ReadMe") (ascii-by (codes "ReadMe") refl)) (ascii_normal_form Folded (codes "README") (ascii-by (codes "README") refl))

read_us : is_same_name Folded (codes "ReadUs") (codes "README") ≡ false
unfolding is_same_name
read_us = ap₂ bytes_eq (ascii_normal_form Folded (codes "ReadUs") (ascii-by (codes "ReadUs") refl)) (ascii_normal_form Folded (codes "README") (ascii-by (codes "README") refl))

-- the first of the same normal form is taken, where none has the same bytes
by_form : let us : Entry = (entry 2 (codes "ReadUs") 17).what in let me : Entry = (entry 2 (codes "ReadMe") 16).what in entry_named Folded (codes "README") (us ∷ me ∷ []) ≡ Some me
unfolding entry_named
by_form = let us : Entry = (entry 2 (codes "ReadUs") 17).what in let me : Entry = (entry 2 (codes "ReadMe") 16).what in
    ap₂ (λ b c. cond b (Some us) (cond c (Some me) None)) read_us read_me

-- a symbolic link
link_line : ls (files (inode 16 10 0 ∷ []) (entry 2 (codes "l") 16 ∷ [])) (codes "/l") ≡ Ok (codes "l 16 0 l\n")
unfolding components entries_in entry_named found children kind_text digits
link_line = refl
