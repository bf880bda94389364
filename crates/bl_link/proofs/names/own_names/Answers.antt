use Rattle.std.proofs.Common.{◌∙◌, []}
use Rattle.bl_link.proofs.AddedNames.{value_is_new, values_more}
use Rattle.bl_link.proofs.names.own_names.Goals as goal

pub add-requires : goal.add-requires
add-requires c =
    value_is_new c.args.spaces.now c.args.entries.now c.loop-entry.entry-index c.entry-item.result _ _ c.loop-entry-test.true c.entry-item.is c.loop-entry.invariant c.requires
    (c.into_vec-name.ensures ∙ c.in_ok-copy_of.ensures ∙ c.as_slice.ensures)

pub loop-entry-preserved : goal.loop-entry-preserved
loop-entry-preserved c =
    values_more c.args.spaces.now c.args.entries.now c.loop-entry.entry-index c.entry-item.result _ _ _ c.external.result c.loop-entry-test.true c.entry-item.is c.loop-entry.invariant
    (c.into_vec-name.ensures ∙ c.in_ok-copy_of.ensures ∙ c.as_slice.ensures) (c.external.ensures []) c.in_ok-add.ensures.ok
