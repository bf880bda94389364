use Rattle.bl_leb.specs.Grammar.{◌⨾◌, exactly}
use Rattle.bl_wasm.specs.Values.{name}
use Rattle.bl_wasm.specs.declared.module.CustomSection.{CustomSection}
use Rattle.bl_code.proofs.Places.{err_first}
use Rattle.bl_decode.proofs.Sizes.{err_whole}
use Rattle.bl_decode.proofs.customs.read_contents.Goals as goal

pub returns-in_err-name : goal.returns-in_err-name
returns-in_err-name c =
    err_whole (λ (custom : CustomSection). name custom.name ⨾ exactly custom.bytes) c.args.bytes.now _ c.from_residual.result c.from_residual.ensures.1
    (err_first name (λ (custom : CustomSection). exactly custom.bytes) (λ custom. custom.name) c.args.bytes.now 0 _ c.in_err-name.ensures)
