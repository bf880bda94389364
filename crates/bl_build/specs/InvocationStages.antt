-- The function of a linked tree that is run, and its start.
use Rattle.std.specs.Prelude.{◌≡◌, ℕ, List, map, Some, None, Ok, Err}
use Rattle.bl_base.specs.declared.start.Start.{Start}
use Rattle.bl_wasm.specs.Exports.{value_named}
use Rattle.bl_wasm.specs.Linked.{type_of}
use Rattle.bl_wasm.specs.declared.linked.Signature.{Signature}
use Rattle.bl_wasm.specs.declared.linked.Tree.{Tree}
use Rattle.bl_trace.specs.StartFiles.{answer_of}
use Rattle.bl_trace.specs.declared.error.StartError.TheVariants.{Line, Count}
use Rattle.bl_job.specs.Refusals.{Refusal}
use Rattle.bl_build.specs.EntryStages.{bad_line, few_arguments, no_export}
use Rattle.bl_job.specs.Stages.{Stage, chain}
use Rattle.bl_build.specs.LoadStages.{Part, loading}

-- the first pages of a tree's memories
abbrev pub sizes_of : Tree → List ℕ
sizes_of tree = map (λ memory. memory.pages) tree.memories

-- a tree, a function of it, its type, and a start of it
pub record Invoked : Type 0 where
  pub tree : Tree
  pub function : ℕ
  pub type : Signature
  pub start : Start

-- a function of the tree is exported under a name, it has that type, and the bytes of a start file ask for that start of it
pub record Invokes (export bytes : List ℕ) (tree : Tree) (invoked : Invoked) : Type 0 where
  pub same_tree : invoked.tree ≡ tree
  pub exported : value_named export tree.exports ≡ Some invoked.function
  pub typed : type_of tree invoked.function ≡ Some invoked.type
  pub read : answer_of invoked.type.params (sizes_of tree) bytes ≡ Ok invoked.start

-- why an exported name and the bytes of a start file are refused
pub data InvokingRefuses (export bytes : List ℕ) (tree : Tree) (refusal : Refusal) : Type 0 where
  -- no function is exported under that name
  not_exported : value_named export tree.exports ≡ None → refusal ≡ no_export → InvokingRefuses export bytes tree refusal
  -- a line is bad; the first one
  line_is_bad : (function line : ℕ) (type : Signature) → value_named export tree.exports ≡ Some function → type_of tree function ≡ Some type
      → answer_of type.params (sizes_of tree) bytes ≡ Err (Line line) → refusal ≡ bad_line line → InvokingRefuses export bytes tree refusal
  -- no line is bad, and there are too few arguments
  too_few : (function count : ℕ) (type : Signature) → value_named export tree.exports ≡ Some function → type_of tree function ≡ Some type
      → answer_of type.params (sizes_of tree) bytes ≡ Err (Count count) → refusal ≡ few_arguments count
      → InvokingRefuses export bytes tree refusal

abbrev pub invoking : List ℕ → List ℕ → Stage Tree Invoked
invoking export bytes = record { Passes = Invokes export bytes; Refuses = InvokingRefuses export bytes }

-- from the bytes of modules and of a start file to the function that is run and its start
abbrev pub preparing : List ℕ → List ℕ → Stage (List Part) Invoked
preparing export start = chain loading (invoking export start)
