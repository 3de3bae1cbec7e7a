-- What a call that writes contents has answered.
use Rattle.std.specs.Prelude.{◌≡◌, ◌++◌, ◌⊎◌, ℕ, List, [], Option, None, Some, Result, Ok, Err}
use Rattle.apfs_model.specs.Sink.{Wrote, WrotePart}
use Rattle.obj_base.specs.declared.site.Site.{Site}
use Rattle.obj_base.specs.declared.stop.Stop.TheVariants.{Found, Unsupported, ReadFault, NoMemory}
use Rattle.vol_view.specs.Volumes.{Loaded}
use Rattle.vol_view.specs.declared.volume.View.{View}
use Rattle.file_extent.specs.Streams.{Opened, stream_bytes}
use Rattle.path_search.specs.Calls.{IsStopThere}
use Rattle.path_search.specs.declared.answer.Answer.{Answer}
use Rattle.path_search.specs.declared.stop.PathStop.TheVariants as stops
use Rattle.path_read.specs.declared.stop.WriteStop.{WriteStop}
use Rattle.path_read.specs.declared.stop.WriteStop.TheVariants as writes

-- contents were wanted, and they were put
pub record IsPut (old new : Option (List ℕ)) (wanted : Result (List ℕ) Answer) : Type 0 where
  pub text : List ℕ
  pub same : wanted ≡ Ok text
  pub put : Wrote old new text

-- contents were wanted, and a front of them was put
pub record IsPutPart (old new : Option (List ℕ)) (wanted : Result (List ℕ) Answer) : Type 0 where
  pub text : List ℕ
  pub same : wanted ≡ Ok text
  pub put : WrotePart old new text

-- what a call that writes has answered of a view that meets its rules: the contents were put; or the answer was given and nothing was put; or a read or a put failed after a front of them; nothing is told of the image where memory ran out
abbrev pub IsWritten : Option (List ℕ) → Option (List ℕ) → Result (List ℕ) Answer → Result (Unit {0}) WriteStop → Type 0
IsWritten old new wanted (Ok _) = IsPut old new wanted
IsWritten old new wanted (Err (writes.Stopped (Found (stops.Answer a)))) = wanted ≡ Err a
IsWritten old new wanted (Err (writes.Stopped (Found (stops.Fault fault)))) = ⊥
IsWritten old new wanted (Err (writes.Stopped (Unsupported feature block))) = ⊥
IsWritten old new wanted (Err (writes.Stopped ReadFault)) = (text : List ℕ) → wanted ≡ Ok text → WrotePart old new text
IsWritten old new wanted (Err (writes.Stopped NoMemory)) = Unit {0}
IsWritten old new wanted (Err writes.WriteFault) = IsPutPart old new wanted

-- where a call stops before it writes, the sink has what it had: at an answer, a fault or a feature, and where memory ran out
abbrev pub IsUntouched : Option (List ℕ) → Option (List ℕ) → WriteStop → Type 0
IsUntouched old new (writes.Stopped (Found fault)) = new ≡ old
IsUntouched old new (writes.Stopped (Unsupported feature block)) = new ≡ old
IsUntouched old new (writes.Stopped ReadFault) = Unit {0}
IsUntouched old new (writes.Stopped NoMemory) = new ≡ old
IsUntouched old new writes.WriteFault = Unit {0}

-- what stops a call that writes is there; of a put that failed nothing is said of the image
abbrev pub IsWriteStopThere : List ℕ → Site → Loaded → View → WriteStop → Type 0
IsWriteStopThere image site volume view (writes.Stopped stop) = IsStopThere image site volume view stop
IsWriteStopThere image site volume view writes.WriteFault = Unit {0}

-- the bytes of a stream that was opened, none where there is no stream
abbrev pub opened_bytes : List ℕ → Option Opened → List ℕ
opened_bytes image None = []
opened_bytes image (Some stream) = stream_bytes stream.site.block_size image stream.extents stream.size

-- nothing was put, or a front of a text, which is the one that is wanted where the view meets its rules
abbrev pub HasFront : Option (List ℕ) → (List ℕ → Type 0) → (List ℕ → Result (List ℕ) Answer) → List ℕ → Type 0
HasFront told lawful wanted part =
    (part ≡ []) ⊎ ((image : List ℕ) → told ≡ Some image → (text : List ℕ) × (rest : List ℕ) × (text ≡ part ++ rest) × (lawful image → wanted image ≡ Ok text))

-- what was put is the text that is wanted, where the view meets its rules
abbrev pub HasWhole : Option (List ℕ) → (List ℕ → Type 0) → (List ℕ → Result (List ℕ) Answer) → List ℕ → Type 0
HasWhole told lawful wanted part = (image : List ℕ) → told ≡ Some image → lawful image → wanted image ≡ Ok part

-- how much of what is wanted was put: the whole, or after an error a front
abbrev pub HasSome : Option (List ℕ) → (List ℕ → Type 0) → (List ℕ → Result (List ℕ) Answer) → Result (Unit {0}) WriteStop → List ℕ → Type 0
HasSome told lawful wanted (Ok _) part = HasWhole told lawful wanted part
HasSome told lawful wanted (Err _) part = HasFront told lawful wanted part

-- the sink keeps what it had and has one part more: the whole text, or after an error a front of it
abbrev pub HasPart : Option (List ℕ) → Option (List ℕ) → Option (List ℕ) → (List ℕ → Type 0) → (List ℕ → Result (List ℕ) Answer) → Result (Unit {0}) WriteStop → Type 0
HasPart old new told lawful wanted result = (part : List ℕ) × Wrote old new part × HasSome told lawful wanted result part
