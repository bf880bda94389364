use Rattle.std.proofs.Common.{rules}
use Rattle.bl_wasm.specs.Values.{u32}
use Rattle.bl_wasm.specs.Types.{limits, table_type, global_type}
use Rattle.bl_wasm.specs.Sections.{import_kind}
use Rattle.bl_wasm.specs.declared.module.ImportKind.TheVariants.{Function, Table, Memory, Global}
use Rattle.bl_code.specs.declared.error.CodeError.TheVariants.{Malformed}
use Rattle.bl_code.proofs.Places.{passes, err_byte}
use Rattle.bl_code.proofs.ImportForms.{kind_never_empty, none_function, none_table, none_memory, none_global, err_kind, at_kind, none_kind}
use Rattle.bl_decode.proofs.entries.ImportKindsFormat.read.Goals as goal

pub returns-in_err-code : goal.returns-in_err-code
returns-in_err-code c =
    passes import_kind c.args.bytes.now c.args.at c.from_residual.result _ c.from_residual.ensures.1
    (err_byte import_kind c.args.bytes.now c.args.at Malformed kind_never_empty c.in_err-code.ensures)

pub returns-in_err-kind-in-0 : goal.returns-in_err-kind-in-0
returns-in_err-kind-in-0 c = err_kind u32 0 c.in_ok-code.code c.in-0.is c.args.bytes.now c.args.at c.in_ok-code.place c.in_ok-code.ensures c.from_residual-in_err-kind-in-0.result _ none_function c.from_residual-in_err-kind-in-0.ensures.1 c.in_err-kind-in-0.ensures

pub returns-in_ok-kind-in-0 : goal.returns-in_ok-kind-in-0
returns-in_ok-kind-in-0 c = at_kind u32 0 c.in_ok-code.code c.in-0.is c.args.bytes.now c.args.at c.in_ok-code.place c.in_ok-code.ensures Function c.in_ok-kind-in-0.end c.in_ok-kind-in-0.kind (λ z t h. h) c.in_ok-kind-in-0.ensures

pub returns-in_err-table-in-1 : goal.returns-in_err-table-in-1
returns-in_err-table-in-1 c = err_kind table_type 1 c.in_ok-code.code c.in-1.is c.args.bytes.now c.args.at c.in_ok-code.place c.in_ok-code.ensures c.from_residual-in_err-table-in-1.result _ none_table c.from_residual-in_err-table-in-1.ensures.1 c.in_err-table-in-1.ensures

pub returns-in_ok-table-in-1 : goal.returns-in_ok-table-in-1
returns-in_ok-table-in-1 c = at_kind table_type 1 c.in_ok-code.code c.in-1.is c.args.bytes.now c.args.at c.in_ok-code.place c.in_ok-code.ensures Table c.in_ok-table-in-1.end c.in_ok-table-in-1.table (λ z t h. h) c.in_ok-table-in-1.ensures

pub returns-in_err-memory-in-2 : goal.returns-in_err-memory-in-2
returns-in_err-memory-in-2 c = err_kind limits 2 c.in_ok-code.code c.in-2.is c.args.bytes.now c.args.at c.in_ok-code.place c.in_ok-code.ensures c.from_residual-in_err-memory-in-2.result _ none_memory c.from_residual-in_err-memory-in-2.ensures.1 c.in_err-memory-in-2.ensures

pub returns-in_ok-memory-in-2 : goal.returns-in_ok-memory-in-2
returns-in_ok-memory-in-2 c = at_kind limits 2 c.in_ok-code.code c.in-2.is c.args.bytes.now c.args.at c.in_ok-code.place c.in_ok-code.ensures Memory c.in_ok-memory-in-2.end c.in_ok-memory-in-2.memory (λ z t h. h) c.in_ok-memory-in-2.ensures

pub returns-in_err-global-in-3 : goal.returns-in_err-global-in-3
returns-in_err-global-in-3 c = err_kind global_type 3 c.in_ok-code.code c.in-3.is c.args.bytes.now c.args.at c.in_ok-code.place c.in_ok-code.ensures c.from_residual-in_err-global-in-3.result _ none_global c.from_residual-in_err-global-in-3.ensures.1 c.in_err-global-in-3.ensures

pub returns-in_ok-global-in-3 : goal.returns-in_ok-global-in-3
returns-in_ok-global-in-3 c = at_kind global_type 3 c.in_ok-code.code c.in-3.is c.args.bytes.now c.args.at c.in_ok-code.place c.in_ok-code.ensures Global c.in_ok-global-in-3.end c.in_ok-global-in-3.global (λ z t h. h) c.in_ok-global-in-3.ensures

pub returns-in_default : goal.returns-in_default
returns-in_default c =
    none_kind c.in_ok-code.code c.args.bytes.now c.args.at c.in_ok-code.place
    (λ e. search rules) (λ e. search rules) (λ e. search rules) (λ e. search rules) c.in_ok-code.ensures
