use Rattle.std.proofs.Common.{sym, ap, ◌∙◌}
use Rattle.std.specs.Str.{bytes_eq}
use Rattle.bl_iface.proofs.FunctionLookup.{exported_here, exported_skip}
use Rattle.bl_iface.proofs.NameLemmas.{eq_back}
use Rattle.bl_iface.proofs.matching.function_named.Goals as goal

pub returns-then-eq : goal.returns-then-eq
returns-then-eq c =
    let same = eq_back c.args.name.now c.export-item.result.name ∙ ap (λ n. bytes_eq n c.args.name.now) (sym c.as_slice.ensures) ∙ sym c.eq.ensures ∙ c.if-eq.true in
    sym (c.loop-export.invariant ∙ exported_here c.args.exports.now c.loop-export.export-index c.export-item.result c.args.name.now c.loop-export-test.true c.export-item.is same)

pub loop-export-preserved : goal.loop-export-preserved
loop-export-preserved c =
    let apart = eq_back c.args.name.now c.export-item.result.name ∙ ap (λ n. bytes_eq n c.args.name.now) (sym c.as_slice.ensures) ∙ sym c.eq.ensures ∙ c.if-eq.false in
    c.loop-export.invariant ∙ exported_skip c.args.exports.now c.loop-export.export-index c.export-item.result c.args.name.now c.loop-export-test.true c.export-item.is apart
