-- How many functions a module has.
use Rattle.std.proofs.Common.{◌≤◌, ◌+◌, List, [], ◌∷◌, length, length-append, Option, Some, None, arith}
use Rattle.std.specs.List.{filter_map, cons_option}
use Rattle.bl_wasm.specs.Validity.{functions_of, imported, function_of}
use Rattle.bl_wasm.specs.declared.module.Module.{Module}

one_more : {A : Type 0} (o : Option A) (xs : List A) → length (cons_option o xs) ≤ length xs + 1
one_more None xs = omega arith
one_more (Some x) xs = omega arith

filtered : {A B : Type 0} (f : A → Option B) (xs : List A) → length (filter_map f xs) ≤ length xs
filtered f [] = omega arith
filtered f (x ∷ xs) = omega (arith, one_more (f x) (filter_map f xs), filtered f xs)

-- at most one for each import and one for each function that is defined
pub functions_at_most : (tree : Module) → length (functions_of tree) ≤ length tree.imports + length tree.functions
functions_at_most tree =
    omega (arith, length-append (imported function_of tree) tree.functions, filtered (λ entry. function_of entry.kind) tree.imports)
