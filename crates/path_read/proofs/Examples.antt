-- Contents and attributes of small lists of facts.
use Rattle.std.proofs.Common.{◌≡◌, ℕ, List, [], ◌∷◌, Ok, Err, refl}
use Rattle.std.specs.Prelude.{codes, ◌++◌}
use Rattle.std.specs.Fmt.{digits}
use Rattle.apfs_model.specs.Blocks.{block_of}
use Rattle.fs_record.specs.Attributes.Body.{Embedded, Streamed}
use Rattle.file_extent.specs.Streams.{stream_bytes, byte_of, byte_in}
use Rattle.view_rules.specs.Facts.{Facts}
use Rattle.path_search.specs.Paths.{components}
use Rattle.path_search.specs.Found.{entries_in, entry_named, found}
use Rattle.path_search.specs.declared.answer.Answer.TheVariants.{NotFile, Compressed, Dataless, NoAttribute}
use Rattle.path_search.proofs.Examples.{inode, entry, held, extent, view, files, written, hello}
use Rattle.path_read.specs.Contents.{readable, contents}
use Rattle.path_read.specs.Attributes.{attributes_in, attribute_named, attributes, attribute}
use Rattle.path_read.specs.Texts.{xattr_text}

-- ---- contents, of an image with blocks of 4 bytes
abbrev image : List ℕ
image = 0 ∷ 0 ∷ 0 ∷ 0 ∷ codes "hello..."

read : contents 4 image hello (codes "/hello.txt") ≡ Ok (codes "hello")
unfolding components entries_in entry_named found readable stream_bytes byte_of byte_in block_of
read = refl

root_is_no_file : contents 4 image hello (codes "/") ≡ Err NotFile
unfolding components entries_in entry_named found readable
root_is_no_file = refl

abbrev flagged : ℕ → ℕ → Facts
flagged kind flags = files (inode 16 kind flags ∷ []) (entry 2 (codes "f") 16 ∷ [])

no_stream : contents 4 image (flagged 8 0) (codes "f") ≡ Ok []
unfolding components entries_in entry_named found readable
no_stream = refl

compressed_first : contents 4 image (flagged 8 0x40000020) (codes "f") ≡ Err Compressed
unfolding components entries_in entry_named found readable
compressed_first = refl

dataless : contents 4 image (flagged 8 0x40000000) (codes "f") ≡ Err Dataless
unfolding components entries_in entry_named found readable
dataless = refl

not_file_first : contents 4 image (flagged 10 0x40000020) (codes "f") ≡ Err NotFile
unfolding components entries_in entry_named found readable
not_file_first = refl

-- ---- attributes
abbrev link : Facts
link = view (inode 16 10 0 ∷ []) (entry 2 (codes "l") 16 ∷ [])
    (held 16 (codes "com.apple.fs.symlink") (Embedded (codes "hello" ++ 0 ∷ [])) ∷ held 16 (codes "b") (Streamed 20 3) ∷ held 17 (codes "x") (Embedded []) ∷ []) (extent 20 0 4 1 ∷ [])

lengths : written xattr_text (attributes link (codes "/l")) ≡ Ok (codes "3 b\n6 com.apple.fs.symlink\n")
unfolding components entries_in entry_named found attributes_in digits
lengths = refl

embedded : attribute 4 image link (codes "/l") (codes "com.apple.fs.symlink") ≡ Ok (codes "hello" ++ 0 ∷ [])
unfolding components entries_in entry_named found attribute_named
embedded = refl

streamed : attribute 4 image link (codes "/l") (codes "b") ≡ Ok (codes "hel")
unfolding components entries_in entry_named found attribute_named stream_bytes byte_of byte_in block_of
streamed = refl

of_another_file : attribute 4 image link (codes "/l") (codes "x") ≡ Err NoAttribute
unfolding components entries_in entry_named found attribute_named
of_another_file = refl

link_is_no_file : contents 4 image link (codes "/l") ≡ Err NotFile
unfolding components entries_in entry_named found readable
link_is_no_file = refl
