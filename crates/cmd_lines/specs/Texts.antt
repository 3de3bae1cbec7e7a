-- The lines on the second sink, and how texts are joined.
use Rattle.std.specs.Prelude.{◌≡◌, ℕ, ◌++◌, List, codes}
use Rattle.std.specs.Fmt.{decimal}
use Rattle.obj_base.specs.declared.stop.Feature.{Feature}
use Rattle.obj_base.specs.Features.{feature_name}
use Rattle.path_search.specs.declared.answer.Answer.{Answer}
use Rattle.path_search.specs.declared.answer.Answer.TheVariants.{NotFound, NotDirectory, NotFile, Compressed, Dataless, NoAttribute, NoVolume, NoSnapshot}

-- a piece of a text, and what follows it
infixr 5 ◌▹◌
abbrev pub ◌▹◌ : List ℕ → List ℕ → List ℕ
piece ▹ rest = piece ++ rest

-- a text is a prefix of another
abbrev pub IsPrefix : List ℕ → List ℕ → Type 0
IsPrefix part text = (rest : List ℕ) × (text ≡ part ++ rest)

-- the words are no line of the program
abbrev pub usage_line : List ℕ
usage_line = codes "apfs: usage: apfs COMMAND IMAGE [WORDS]\n"

-- a fault is there; the text names it and its place
abbrev pub fault_line : List ℕ → List ℕ
fault_line text = codes "apfs: fault: " ▹ text ▹ codes "\n"

-- a read of the image failed
abbrev pub read_failed_line : List ℕ
read_failed_line = codes "apfs: read failed\n"

-- memory ran out
abbrev pub out_of_memory_line : List ℕ
out_of_memory_line = codes "apfs: out of memory\n"

-- a feature that is refused stands in a block
abbrev pub unsupported_line : Feature → ℕ → List ℕ
unsupported_line feature block = codes "apfs: unsupported: " ▹ feature_name feature ▹ codes " block " ▹ decimal block ▹ codes "\n"

-- the word of an answer
abbrev pub answer_name : Answer → List ℕ
answer_name NotFound = codes "NotFound"
answer_name NotDirectory = codes "NotDirectory"
answer_name NotFile = codes "NotFile"
answer_name Compressed = codes "Compressed"
answer_name Dataless = codes "Dataless"
answer_name NoAttribute = codes "NoAttribute"
answer_name NoVolume = codes "NoVolume"
answer_name NoSnapshot = codes "NoSnapshot"

-- what is asked for isn't there
abbrev pub answer_line : Answer → List ℕ
answer_line answer = codes "apfs: answer: " ▹ answer_name answer ▹ codes "\n"

-- no image was handed in
abbrev pub no_image_line : List ℕ
no_image_line = codes "apfs: no image\n"

-- no folder was handed in
abbrev pub no_folder_line : List ℕ
no_folder_line = codes "apfs: no folder\n"
