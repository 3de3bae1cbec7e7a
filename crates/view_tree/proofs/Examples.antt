-- Trees on small lists of facts.
use Rattle.std.proofs.Common.{◌≡◌, ℕ, List, [], ◌∷◌, Result, Ok, inr, refl, ap, arith}
use Rattle.std.specs.Prelude.{codes}
use Rattle.std.specs.Fmt.{digits}
use Rattle.view_rules.specs.Facts.{Facts}
use Rattle.path_search.specs.Paths.{components}
use Rattle.path_search.specs.Places.{Place, placed, root_name}
use Rattle.path_search.specs.Found.{entries_in, entry_named, found, number_named}
use Rattle.path_search.specs.Listing.{children}
use Rattle.view_tree.specs.Tree.{rows_under, rows_below, tree}
use Rattle.path_search.specs.Texts.{kind_text}
use Rattle.view_tree.specs.Texts.{tree_text}
use Rattle.view_tree.specs.Met.{Spot, spot_in, taken, own, below, IsMetTwice}
use Rattle.path_search.specs.declared.answer.Answer.{Answer}
use Rattle.path_search.proofs.Examples.{inode, entry, files, written, kept_apart}

abbrev tree_lines : Facts → List ℕ → Result (List ℕ) Answer
tree_lines facts path = written tree_text (tree facts path)

-- ---- trees
abbrev nested : Facts
nested = files (inode 16 4 0 ∷ inode 17 8 0 ∷ inode 18 8 0 ∷ []) (entry 2 (codes "e") 18 ∷ entry 2 (codes "d") 16 ∷ entry 16 (codes "f") 17 ∷ [])

each_before_its_contents : tree_lines nested (codes "/") ≡ Ok (codes "d 16 0 d\n- 17 0 d/f\n- 18 0 e\n")
unfolding components entries_in entry_named found children kind_text rows_under rows_below digits
each_before_its_contents = refl

from_inside : tree_lines nested (codes "/d") ≡ Ok (codes "- 17 0 f\n")
unfolding components entries_in entry_named found children kind_text rows_under rows_below digits
from_inside = refl

of_a_file : tree_lines nested (codes "/d/f") ≡ Ok (codes "- 17 0 f\n")
unfolding components entries_in entry_named found children kind_text rows_under rows_below digits
of_a_file = refl

-- 3 and 5 are shown and not entered; 3 is entered as the path's own
shut : tree_lines kept_apart (codes "/") ≡ Ok (codes "d 5 0 five\nd 3 0 three\n")
unfolding components entries_in entry_named found children kind_text rows_under rows_below digits
shut = refl

open_by_path : tree_lines kept_apart (codes "/three") ≡ Ok (codes "- 16 0 x\n")
unfolding components entries_in entry_named found children kind_text rows_under rows_below digits
open_by_path = refl

reserved_tree : tree_lines kept_apart (codes "/five") ≡ Ok []
unfolding components entries_in entry_named found children kind_text rows_under rows_below digits
reserved_tree = refl

-- a directory that is in itself: its rows end, and it is met twice
abbrev ring : Facts
ring = files (inode 16 4 0 ∷ []) (entry 2 (codes "d") 16 ∷ entry 16 (codes "d") 16 ∷ [])

ring_ends : tree_lines ring (codes "/") ≡ Ok (codes "d 16 0 d\nd 16 0 d/d\nd 16 0 d/d/d\nd 16 0 d/d/d/d\n")
unfolding components entries_in entry_named found children kind_text rows_under rows_below digits
ring_ends = refl

-- the second component takes the entry of the directory in itself
taken_twice : taken ring (codes "/d/d") ≡ spot_in 2 0 ∷ spot_in 16 0 ∷ []
unfolding components entries_in entry_named taken number_named
taken_twice = refl

-- both entries name 16: in the root, and in the directory itself
ring_root : Place
ring_root = placed 2 root_name (inode 2 4 0).what

met_twice : IsMetTwice ring (codes "/") 16
unfolding components entries_in entry_named found ring_root
met_twice = record {
  one = spot_in 2 0;
  other = spot_in 16 0;
  different = λ e. let q : 2 ≡ 16 = ap (λ (s : Spot). s.id) e in absurd (omega arith);
  one_met = inr (record { place = ring_root; found_there = refl; directory = refl; entered = own });
  other_met = inr (record { place = ring_root; found_there = refl; directory = refl; entered = below (spot_in 2 0) 16 own (record { entry = (entry 2 (codes "d") 16).what; there = refl; names = refl }) refl });
  one_names = record { entry = (entry 2 (codes "d") 16).what; there = refl; names = refl };
  other_names = record { entry = (entry 16 (codes "d") 16).what; there = refl; names = refl };
  directory = refl;
}
