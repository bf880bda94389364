use Rattle.std.proofs.Common.{◌≡◌, ◌∷◌, ◌^◌, Some, None, rules, sym, ◌∙◌}
use Rattle.bl_text.specs.Digits.{decimal_below}
use Rattle.bl_trace.specs.Digits.{bytes_of_hex}
use Rattle.bl_trace.specs.Lines.{words_of}
use Rattle.bl_trace.proofs.Operands.{patch_of_rest}
use Rattle.bl_trace.proofs.line.read_patch.Goals as goal

pub returns-in_default-3 : goal.returns-in_default-3
returns-in_default-3 c =
    let first : words_of c.args.operands.now ≡ c.in-Some.memory.now ∷ words_of c.in-Some.rest.now = search rules in
    let second : words_of c.in-Some.rest.now ≡ c.in-Some-cut.offset.now ∷ words_of c.in-Some-cut.bytes.now = search rules in
    let memory : decimal_below (2 ^ 32) c.in-Some.memory.now ≡ Some c.in-Some-Some.memory = search rules in
    let offset : decimal_below (2 ^ 32) c.in-Some-cut.offset.now ≡ Some c.in-Some-Some.offset = search rules in
    let bytes : bytes_of_hex c.in-Some-cut.bytes.now ≡ None = search rules in
    sym (patch_of_rest c.args.sizes.now c.args.operands.now c.in-Some.memory.now c.in-Some.rest.now
    c.in-Some-cut.offset.now c.in-Some-cut.bytes.now _ _ _ first second memory offset bytes)

pub returns : goal.returns
returns c =
    let first : words_of c.args.operands.now ≡ c.in-Some.memory.now ∷ words_of c.in-Some.rest.now = search rules in
    let second : words_of c.in-Some.rest.now ≡ c.in-Some-cut.offset.now ∷ words_of c.in-Some-cut.bytes.now = search rules in
    let memory : decimal_below (2 ^ 32) c.in-Some.memory.now ≡ Some c.in-Some-Some.memory = search rules in
    let offset : decimal_below (2 ^ 32) c.in-Some-cut.offset.now ≡ Some c.in-Some-Some.offset = search rules in
    let bytes : bytes_of_hex c.in-Some-cut.bytes.now ≡ Some c.in-Some-2.bytes = search rules in
    c.patch_inside.ensures
    ∙ sym (patch_of_rest c.args.sizes.now c.args.operands.now c.in-Some.memory.now c.in-Some.rest.now
    c.in-Some-cut.offset.now c.in-Some-cut.bytes.now _ _ _ first second memory offset bytes)
