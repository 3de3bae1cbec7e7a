-- Chains of facts are in the order of their ids.
use Rattle.std.proofs.Common.{◌≡◌, ℕ, ◌+◌, ◌≤◌, Bool, true, List, get_or, arith}
use Rattle.std.specs.Prelude.{nat_lt, nat_le}
use Rattle.std.specs.List.Sorted.{IsNonDecreasingBy}
use Rattle.std.proofs.lemmas.Bool.Decides.{nat_tests}
use Rattle.std.proofs.lemmas.List.Sorted.{IsNonDecreasingBy-from_all_adjacent}
use Rattle.apfs_model.proofs.BoolTests.{left-true, right-true}
use Rattle.fs_record.specs.Entries.{Entry}
use Rattle.fs_record.specs.Facts.{Fact}
use Rattle.fs_record.specs.Inodes.{Inode}
use Rattle.rule_index.specs.Order.{IsChain, inode_follows, entry_follows, hash_rank}

-- a chain is in the order of numbers that don't fall in it
pub chain-in-order : {X : Type 0} (follows : X → X → Bool) (n : X → ℕ) (xs : List X) → ((x y : X) → follows x y ≡ true → n x ≤ n y) → IsChain follows xs → IsNonDecreasingBy n xs
chain-in-order follows n xs up chain = IsNonDecreasingBy-from_all_adjacent n xs (λ k d low. up (get_or xs k d) (get_or xs (k + 1) d) (chain k d low))

-- numbers of which the first isn't above the second
pub le-up : (a b : ℕ) → nat_le a b ≡ true → a ≤ b
le-up a b e = grind (arith, nat_tests)

lt-up : (a b : ℕ) → nat_lt a b ≡ true → a ≤ b
lt-up a b e = grind (arith, nat_tests)

pub inode-up : (f next : Fact Inode) → inode_follows f next ≡ true → f.id ≤ next.id
inode-up f next e = lt-up f.id next.id e

pub directory-up : (e next : Fact Entry) → entry_follows e next ≡ true → e.id ≤ next.id
directory-up e next both = le-up e.id next.id (left-true (nat_le e.id next.id) (nat_le (hash_rank e) (hash_rank next)) both)

pub hash-up : (e next : Fact Entry) → entry_follows e next ≡ true → hash_rank e ≤ hash_rank next
hash-up e next both = le-up (hash_rank e) (hash_rank next) (right-true (nat_le e.id next.id) (nat_le (hash_rank e) (hash_rank next)) both)
