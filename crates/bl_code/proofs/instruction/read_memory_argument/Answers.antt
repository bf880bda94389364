use Rattle.bl_wasm.specs.Values.{u32}
use Rattle.bl_wasm.specs.Instructions.{memory_argument}
use Rattle.bl_wasm.specs.declared.instruction.MemoryArgument.{MemoryArgument}
use Rattle.bl_code.specs.Laws.{u32_prefix_free}
use Rattle.bl_code.specs.declared.error.CodeError.TheVariants.{Malformed}
use Rattle.bl_code.proofs.Places.{passes_none, stands, is_at, join, err_first, err_second}
use Rattle.bl_code.proofs.instruction.read_memory_argument.Goals as goal

pub returns-in_err-alignment : goal.returns-in_err-alignment
returns-in_err-alignment c =
    passes_none _ c.args.bytes.now c.args.at c.from_residual.result _ c.from_residual.ensures.1
    (err_first u32 (λ (m : MemoryArgument). u32 m.offset) (λ m. m.alignment) c.args.bytes.now c.args.at Malformed c.in_err-alignment.ensures)

pub returns-in_err-offset : goal.returns-in_err-offset
returns-in_err-offset c =
    passes_none _ c.args.bytes.now c.args.at c.from_residual-in_err-offset.result _ c.from_residual-in_err-offset.ensures.1
    (err_second u32 u32 (λ (m : MemoryArgument). m.alignment) (λ m. m.offset) c.args.bytes.now c.args.at c.in_ok-alignment.place c.in_ok-alignment.alignment Malformed u32_prefix_free c.in_ok-alignment.ensures c.in_err-offset.ensures)

pub returns : goal.returns
returns c =
    let bytes = c.args.bytes.now in
    let first = stands u32 bytes c.args.at c.in_ok-alignment.place c.in_ok-alignment.alignment c.in_ok-alignment.ensures in
    let second = stands u32 bytes c.in_ok-alignment.place c.in_ok-offset.place c.in_ok-offset.offset c.in_ok-offset.ensures in
    is_at memory_argument bytes c.args.at c.in_ok-offset.place _ (join bytes c.args.at c.in_ok-alignment.place c.in_ok-offset.place first second)
