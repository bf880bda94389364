use Rattle.std.proofs.Common.{◌≡◌, ◌++◌, drop, filter_map}
use Rattle.bl_wasm.specs.Validity.{function_of}
use Rattle.bl_labels.proofs.spaces.imported_functions.Given as goal

abbrev pub invariant-loop-entry : goal.invariant-loop-entry
invariant-loop-entry l = l.functions ++ filter_map (λ entry. function_of entry.kind) (drop l.entry-index l.imports) ≡ filter_map (λ entry. function_of entry.kind) l.imports
