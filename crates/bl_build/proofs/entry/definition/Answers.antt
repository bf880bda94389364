use Rattle.std.proofs.Common.{◌∙◌, ◌<◌, ap, length, subst, sym}
use Rattle.std.proofs.lemmas.Option.{get_or_from_slice_get}
use Rattle.bl_base.proofs.Lists.{item_at}
use Rattle.bl_build.proofs.entry.definition.Goals as goal

pub returns : goal.returns
returns c =
    let item = c.index-as_slice-function.result in
    let functions = c.as_slice.ensures ∙ ap (λ p. p.functions) (c.parts.ensures.same ∙ c.program.ensures.same) in
    let lt = subst (λ l. c.args.function < length l) (sym functions) c.requires in
    sym (get_or_from_slice_get _ c.args.function item _ (item_at c.args.program.now.functions c.as_slice.result.now c.args.function item functions lt c.index-as_slice-function.is))
