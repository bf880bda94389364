use Rattle.std.proofs.Common.{◌≡◌, ◌∙◌, ◌+◌, suc, true, false, ap, arith, drop, get_or, sym}
use Rattle.std.specs.Str.{bytes_eq}
use Rattle.bl_build.specs.EntryStages.{function_named}
use Rattle.bl_build.proofs.ExportedFunctions.{named_behind, named_here}
use Rattle.bl_build.proofs.entry.number_named.Goals as goal

pub returns-then-eq : goal.returns-then-eq
returns-then-eq c =
    let export = c.export-item.result in
    let is : export ≡ get_or c.args.exports.now c.loop-export.export-index export = cc in
    let same : bytes_eq c.as_bytes.result.now c.as_slice.result.now ≡ bytes_eq c.args.name.now export.name = λ i. bytes_eq (c.as_bytes.ensures.value i) (c.as_slice.ensures i) in
    let test : bytes_eq c.args.name.now export.name ≡ true = sym same ∙ sym c.if-eq.ensures in
    sym (named_here c.args.name.now c.args.exports.now c.loop-export.export-index export export (omega arith) is test) ∙ c.loop-export.invariant

pub loop-export-preserved : goal.loop-export-preserved
loop-export-preserved c =
    let export = c.export-item.result in
    let is : export ≡ get_or c.args.exports.now c.loop-export.export-index export = cc in
    let same : bytes_eq c.as_bytes.result.now c.as_slice.result.now ≡ bytes_eq c.args.name.now export.name = λ i. bytes_eq (c.as_bytes.ensures.value i) (c.as_slice.ensures i) in
    let test : bytes_eq c.args.name.now export.name ≡ false = sym same ∙ sym c.if-eq.ensures in
    let next : c.loop-export.export-index + 1 ≡ suc c.loop-export.export-index = omega arith in
    ap (λ j. function_named c.args.name.now (drop j c.args.exports.now)) next
    ∙ sym (named_behind c.args.name.now c.args.exports.now c.loop-export.export-index export export (omega arith) is test) ∙ c.loop-export.invariant
