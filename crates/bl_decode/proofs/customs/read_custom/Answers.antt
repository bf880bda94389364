use Rattle.std.proofs.Common.{◌+◌, arith}
use Rattle.bl_leb.specs.Grammar.{◌⨾◌, exactly}
use Rattle.bl_wasm.specs.Values.{name}
use Rattle.bl_wasm.specs.Sections.{custom_section}
use Rattle.bl_wasm.specs.declared.module.CustomSection.{CustomSection}
use Rattle.bl_code.specs.declared.error.CodeError.TheVariants.{Malformed}
use Rattle.bl_code.proofs.Places.{passes}
use Rattle.bl_decode.proofs.Sizes.{none_id, none_sized, at_sized, at_section, err_section, err_sized}
use Rattle.bl_decode.proofs.customs.read_custom.Goals as goal

pub returns-then-not-stands_at : goal.returns-then-not-stands_at
returns-then-not-stands_at c =
    none_id (λ (custom : CustomSection). name custom.name ⨾ exactly custom.bytes) 0 c.args.bytes.now c.args.at
    (λ stands. let h = c.stands_at.ensures.stands.1 stands in cc)

pub sized_at-requires : goal.sized_at-requires
sized_at-requires c = let h = c.stands_at.ensures.inside c.if-not-stands_at.false in omega arith

pub returns-in_default : goal.returns-in_default
returns-in_default c =
    err_section (λ (custom : CustomSection). name custom.name ⨾ exactly custom.bytes) 0 c.args.bytes.now c.args.at Malformed
    (none_sized (λ (custom : CustomSection). name custom.name ⨾ exactly custom.bytes) c.args.bytes.now (c.args.at + 1) c.in_default.ensures.none)

pub returns-in_err-custom : goal.returns-in_err-custom
returns-in_err-custom c =
    passes custom_section c.args.bytes.now c.args.at c.from_residual.result _ c.from_residual.ensures.1
    (err_section (λ (custom : CustomSection). name custom.name ⨾ exactly custom.bytes) 0 c.args.bytes.now c.args.at _
    (err_sized (λ (custom : CustomSection). name custom.name ⨾ exactly custom.bytes) c.args.bytes.now _ (c.args.at + 1) c.in-Some.end _ c.in-Some.ensures.found c.in_err-custom.ensures))

pub returns : goal.returns
returns c =
    at_section (λ (custom : CustomSection). name custom.name ⨾ exactly custom.bytes) 0 c.args.bytes.now c.args.at c.in-Some.end c.in_ok-custom.custom
    (c.stands_at.ensures.stands.0 c.if-not-stands_at.false)
    (at_sized (λ (custom : CustomSection). name custom.name ⨾ exactly custom.bytes) c.args.bytes.now _ (c.args.at + 1) c.in-Some.end c.in_ok-custom.custom c.in-Some.ensures.found c.in_ok-custom.ensures)
