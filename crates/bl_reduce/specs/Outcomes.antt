-- What a run of a function from a start ends with (WebAssembly 1.0, section 4.5.5).
use Rattle.std.specs.Prelude.{◌≡◌, ℕ, List, [], map, slice_get, Some}
use Rattle.std.specs.List.{fold}
pub use Rattle.bl_base.specs.Bytes.{patch_over, patched}
use Rattle.bl_base.specs.Fits.{Fits}
use Rattle.bl_base.specs.Runs.{MemoryState, Outcome, EndsAfter}
use Rattle.bl_base.specs.declared.start.Start.{Start}
use Rattle.bl_wasm.specs.declared.linked.Signature.{Signature}
use Rattle.bl_wasm.specs.declared.linked.Function.{Function}
use Rattle.bl_wasm.specs.declared.linked.Memory.{Memory}
use Rattle.bl_wasm.specs.declared.linked.Tree.{Tree}
use Rattle.bl_reduce.specs.Configurations.{Store, Config, entering}
use Rattle.bl_reduce.specs.Steps.{source_step}

-- a memory before the patches
abbrev pub first_memory : Memory → MemoryState
first_memory memory = record { pages = memory.pages; bytes = memory.bytes }

-- the store at the start: the globals have their initial values, and the memories their first contents with the patches written
-- over them in order
abbrev pub first_store : Tree → Start → Store
first_store tree start = record {
  memories = fold patched (map first_memory tree.memories) start.patches;
  globals = map (λ global. global.initial) tree.globals;
}

-- the entering of a function with the arguments of the start
abbrev pub opening : Tree → ℕ → Start → Config
opening tree number start = entering (first_store tree start) number start.args []

-- the start fits the function of that number: its type has these arguments, and the patches lie in the first pages
pub record IsStart (tree : Tree) (number : ℕ) (start : Start) : Type 0 where
  pub function : Function
  pub exists : slice_get tree.functions number ≡ Some function
  pub type : Signature
  pub typed : slice_get tree.types function.type_index ≡ Some type
  pub fits : Fits type.params (map (λ memory. memory.pages) tree.memories) start

-- the start fits, and the run from the entering of the function ends with that outcome after exactly so many steps
pub record source (tree : Tree) (number : ℕ) (start : Start) (steps : ℕ) (outcome : Outcome) : Type 0 where
  pub start_fits : IsStart tree number start
  pub run : EndsAfter (source_step tree) steps (opening tree number start) outcome
