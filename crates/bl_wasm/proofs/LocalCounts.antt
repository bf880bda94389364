-- How many locals the runs of a function are.
use Rattle.std.proofs.Common.{◌≡◌, ◌≤◌, List, length, replicate, ◌∙◌, arith, length-append, map, sum_by}
use Rattle.std.proofs.lemmas.List.{length-replicate}
use Rattle.std.proofs.lemmas.List.Concat.{length-flat_map}
use Rattle.bl_base.specs.Quantity.{limit_of}
use Rattle.bl_base.specs.declared.quantity.Quantity.TheVariants as quantity
use Rattle.bl_wasm.specs.Linked.{IsFunction}
use Rattle.bl_wasm.specs.Typing.{integer}
use Rattle.bl_wasm.specs.Validity.{locals_of}
use Rattle.bl_wasm.specs.declared.module.Code.{Code}
use Rattle.bl_wasm.specs.declared.module.LocalRun.{LocalRun}
use Rattle.bl_wasm.specs.declared.linked.Function.{Function}
use Rattle.bl_wasm.specs.declared.linked.Tree.{Tree}

counts : (runs : List LocalRun) → sum_by (λ run. length (replicate run.count run.kind)) runs ≡ sum_by (λ run. run.count) runs
counts runs = simp length-replicate

pub locals_counted : (code : Code) → length (locals_of code) ≡ sum_by (λ run. run.count) code.locals
locals_counted code = length-flat_map (λ run. replicate run.count run.kind) code.locals ∙ counts code.locals

pub few_locals : (tree : Tree) (function : Function) → IsFunction tree function → sum_by (λ run. run.count) function.code.locals ≤ limit_of quantity.Locals
few_locals tree function is = omega (arith, is.room, length-append (map integer is.type.params) (locals_of function.code), locals_counted function.code)
