use Rattle.std.proofs.Common.{◌≡◌, drop}
use Rattle.bl_base.specs.declared.quantity.Quantity.TheVariants.{Table}
use Rattle.bl_wasm.specs.Limits.{above, first_in}
use Rattle.bl_decode.proofs.limits.first_table.Given as goal

abbrev pub invariant-loop-table : goal.invariant-loop-table
invariant-loop-table l = first_in (λ table. above Table table.min) (drop l.table-index l.tables) ≡ first_in (λ table. above Table table.min) l.tables
