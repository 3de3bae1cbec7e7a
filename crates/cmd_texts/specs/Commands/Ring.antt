-- The command `ring`: the candidates of the descriptor ring.
use Rattle.std.specs.Prelude.{◌≡◌, ℕ, List, codes, Ok, Err}
use Rattle.std.specs.Fmt.{decimal}
use Rattle.std.specs.List.{flat_map}
use Rattle.obj_base.specs.declared.stop.Feature.{Feature}
use Rattle.obj_base.specs.declared.stop.Stop.TheVariants.{Found, Unsupported}
use Rattle.nx_ring.specs.declared.line.RingLine.{RingLine}
use Rattle.nx_ring.specs.declared.fault.RingFault.{RingFault}
use Rattle.nx_ring.specs.Ring.{ring_of, IsRingFault}
use Rattle.nx_ring.specs.Zero.{IsNonContiguous}
use Rattle.apfs_check.specs.declared.fault.Fault.{Fault}
use Rattle.apfs_check.specs.Raised.{of_ring}
use Rattle.cmd_lines.specs.Texts.{◌▹◌}

-- the line of a candidate: its index, its block, its transaction, and where the blocks of its checkpoint begin and how many they are
abbrev pub line_text : RingLine → List ℕ
line_text line =
    decimal line.index ▹ codes " block " ▹ decimal line.block ▹ codes " xid " ▹ decimal line.xid
    ▹ codes " from " ▹ decimal line.desc_index ▹ codes " length " ▹ decimal line.desc_len ▹ codes "\n"

-- a line for each candidate
abbrev pub ring_text : List RingLine → List ℕ
ring_text lines = flat_map line_text lines

-- the text
abbrev pub IsText : List ℕ → List ℕ → Type 0
IsText image text = (lines : List RingLine) × (ring_of image ≡ Ok lines) × (text ≡ ring_text lines)

-- the fault that is named: the first of those that are looked for
abbrev pub IsFault : List ℕ → Fault → Type 0
IsFault image fault = (why : RingFault) × (ring_of image ≡ Err (Found why)) × IsRingFault image why × (fault ≡ of_ring why)

-- the feature that is refused
abbrev pub IsFeature : List ℕ → Feature → ℕ → Type 0
IsFeature image feature block = (ring_of image ≡ Err (Unsupported feature block)) × IsNonContiguous image feature block
