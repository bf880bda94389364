use Rattle.bl_iface.proofs.joining.join.Goals as goal

pub joined_parts-requires-clause-kept : goal.joined_parts-requires-clause-kept
joined_parts-requires-clause-kept c = rw (c.as_slice.ensures, c.as_slice-2.ensures, c.parts.ensures.same, c.program.ensures.same) at c.in_ok-kept.ensures
