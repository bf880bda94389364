-- What a call finds and leaves of its shelf and its sink.
use Rattle.std.specs.Prelude.{◌≡◌, ℕ, ◌≤◌, List, [], ◌∷◌, Option, Some, None, Result, Ok, Err, take, length, ◌++◌}
use Rattle.bl_outside.specs.Faults.{Rose}
use Rattle.bl_outside.specs.Shelf.{Files, Faults, with_file}
use Rattle.bl_outside.specs.declared.sink.SinkFault.{SinkFault}
use Rattle.bl_job.specs.declared.status.Status.{Status}
use Rattle.bl_job.specs.declared.status.Status.TheVariants.{WriteFault, Memory}

-- what a sink took, if it exposes that, and the count of its faults
pub record Stream : Type 0 where
  pub taken : Option (List ℕ)
  pub faults : ℕ

-- the files of a shelf, if it exposes its contents, its faults, and the sink
pub record World : Type 0 where
  pub files : Option Files
  pub faults : Faults
  pub sink : Stream

-- the world of a shelf and a sink, by what their traits say of them
abbrev pub world : {F O : Type 0} → (F → Option Files) → (F → Faults) → (O → Option (List ℕ)) → (O → ℕ) → F → O → World
world files_of faults_of taken_of sink_faults_of shelf sink = record {
  files = files_of shelf;
  faults = faults_of shelf;
  sink = record { taken = taken_of sink; faults = sink_faults_of sink };
}

-- a sink, by what its trait says of it
abbrev pub stream : {O : Type 0} → (O → Option (List ℕ)) → (O → ℕ) → O → Stream
stream taken_of faults_of sink = record { taken = taken_of sink; faults = faults_of sink }

-- nothing is changed
pub record Unchanged (old new : World) : Type 0 where
  pub files : new.files ≡ old.files
  pub faults : new.faults ≡ old.faults
  pub sink : new.sink ≡ old.sink

-- the shelf is not changed
pub record SameShelf (old new : World) : Type 0 where
  pub files : new.files ≡ old.files
  pub faults : new.faults ≡ old.faults

-- the files with all of these kept, in order
abbrev pub with_files : Option Files → List (List ℕ × List ℕ) → Option Files
with_files files [] = files
with_files files (keep ∷ keeps) = with_files (with_file files keep.0 keep.1) keeps

-- what a sink holds once it took the text too
abbrev pub took : Option (List ℕ) → List ℕ → Option (List ℕ)
took None text = None
took (Some taken) text = Some (taken ++ text)

-- a text was taken whole, and nothing failed
pub record TakenWhole (text : List ℕ) (old new : Stream) : Type 0 where
  pub taken : new.taken ≡ took old.taken text
  pub faults : new.faults ≡ old.faults

-- the sink failed, after some prefix of the text
pub record TakenInPart (text : List ℕ) (old new : Stream) : Type 0 where
  pub count : ℕ
  pub within : count ≤ length text
  pub taken : new.taken ≡ took old.taken (take count text)
  pub rose : Rose old.faults new.faults
  pub not_fell : old.faults ≤ new.faults

-- what pushing a text leaves
abbrev pub Pushes : Result (Unit {0}) SinkFault → List ℕ → Stream → Stream → Type 0
Pushes (Ok done) text old new = TakenWhole text old new
Pushes (Err fault) text old new = TakenInPart text old new

-- a text was printed, and the status is the one that was meant; or the sink failed after a prefix of it, and the status is that
-- of a write fault
pub data Said (text : List ℕ) (meant : Status) (old new : Stream) (status : Status) : Type 0 where
  whole : TakenWhole text old new → status ≡ meant → Said text meant old new status
  cut : TakenInPart text old new → status ≡ WriteFault → Said text meant old new status

-- a text was printed, or there was no memory to make it
pub data SaidIfRoom (text : List ℕ) (meant : Status) (old new : Stream) (status : Status) : Type 0 where
  is_said : Said text meant old new status → SaidIfRoom text meant old new status
  no_memory_to_say : new ≡ old → status ≡ Memory → SaidIfRoom text meant old new status
