-- What stands after a call, whatever its status is.
use Rattle.std.specs.Prelude.{◌≡◌, ℕ, ◌≤◌, List, Option, Some, None, slice_get, length, take}
use Rattle.bl_outside.specs.Shelf.{ReadFails, WriteFails}
use Rattle.bl_job.specs.Jobs.{AreRead, FirstRefusal, Job, Plan, ReadsName}
use Rattle.bl_job.specs.Refusals.{Refusal}
use Rattle.bl_job.specs.Texts.{read_fault_text, refusal_text, usage_text, write_fault_text}
use Rattle.bl_job.specs.Worlds.{Stream, World, took, with_files}

-- the sink took a prefix of a text, and nothing else
pub record Prints (text : List ℕ) (old new : Stream) : Type 0 where
  pub count : ℕ
  pub within : count ≤ length text
  pub taken : new.taken ≡ took old.taken (take count text)

-- how far a plan was carried out
pub data Keeps (plan : Plan) (old new : World) : Type 0 where
  -- all its files are kept, and a prefix of its text is printed
  all : new.files ≡ with_files old.files plan.keeps → Prints plan.text old.sink new.sink → Keeps plan old new
  -- a write fault came at one of them: those before it are kept, in order and whole, nothing else of the shelf's map is changed, and a prefix
  -- of the fault's line is printed
  at_write_fault : (count : ℕ) (keep : List ℕ × List ℕ) → slice_get plan.keeps count ≡ Some keep → WriteFails old.faults new.faults keep.0
      → new.files ≡ with_files old.files (take count plan.keeps) → Prints (write_fault_text keep.0) old.sink new.sink → Keeps plan old new
  -- memory ran out at one of them: those before it are kept, in order and whole, nothing else of the shelf's map is changed, and nothing is
  -- printed
  at_no_memory : (count : ℕ) (keep : List ℕ × List ℕ) → slice_get plan.keeps count ≡ Some keep
      → new.files ≡ with_files old.files (take count plan.keeps) → new.sink.taken ≡ old.sink.taken → Keeps plan old new

-- for requests of any kind, each with its job
module _ {Request : Type 0} (jobs : Request → Job) where
  -- a text on words that are no request, on a refusal, or on a file that could not be read
  pub data IsLine (asked : Option Request) (old new : World) (text : List ℕ) : Type 0 where
    of_usage : asked ≡ None → text ≡ usage_text → IsLine asked old new text
    of_refusal : (request : Request) (refusal : Refusal) → asked ≡ Some request → FirstRefusal (jobs request) old.files refusal
        → text ≡ refusal_text refusal → IsLine asked old new text
    of_read_fault : (request : Request) (name : List ℕ) → asked ≡ Some request → ReadsName old.files (jobs request).reads name
        → ReadFails old.faults new.faults name → text ≡ read_fault_text name → IsLine asked old new text

  pub data Leaves (asked : Option Request) (old new : World) : Type 0 where
    -- no file is changed, and nothing is printed
    nothing : new.files ≡ old.files → new.sink.taken ≡ old.sink.taken → Leaves asked old new
    -- no file is changed, and at most a line on why is printed
    a_line : (text : List ℕ) → IsLine asked old new text → new.files ≡ old.files → Prints text old.sink new.sink → Leaves asked old new
    -- what is to be done with the contents of the files that are read is done so far
    so_far : (request : Request) (contents : List (List ℕ)) (plan : Plan) → asked ≡ Some request
        → AreRead old.files (jobs request).reads contents → (jobs request).Does contents plan → Keeps plan old new → Leaves asked old new
