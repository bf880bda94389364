-- What a module within the limits has.
use Rattle.std.proofs.Common.{◌≡◌, ℕ, ◌<◌, ◌≤◌, ◌^◌, length, None, arith}
use Rattle.bl_base.specs.Quantity.{limit_of}
use Rattle.bl_base.specs.declared.quantity.Quantity.{Quantity}
use Rattle.bl_base.specs.declared.quantity.Quantity.TheVariants as quantity
use Rattle.bl_base.proofs.OptionLemmas.{either_none}
use Rattle.bl_wasm.specs.Limits.{above, first_excess}
use Rattle.bl_wasm.specs.Validity.{functions_of}
use Rattle.bl_wasm.specs.declared.module.Module.{Module}

-- nothing above a limit is within it
pub above_none : (which : Quantity) (value : ℕ) → above which value ≡ None → value ≤ limit_of which
above_none which value none = grind arith

-- few functions
pub few_functions : (tree : Module) → first_excess tree ≡ None → length (functions_of tree) < 2 ^ 32
few_functions tree none =
    let few = above_none quantity.Functions (length (functions_of tree)) (either_none (above quantity.Functions (length (functions_of tree))) _ none).0 in
    omega (arith, few)
