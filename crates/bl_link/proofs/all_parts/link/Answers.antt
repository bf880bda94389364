use Rattle.std.proofs.Common.{◌≡◌, ◌∙◌, subst, List}
use Rattle.std.specs.List.{All}
use Rattle.std.specs.Vec.Iter.{into_iter_items}
use Rattle.bl_link.specs.Linkable.{IsSound}
use Rattle.bl_link.specs.IndexSpaces.{Part}
use Rattle.bl_link.proofs.PartLoop.{all_left, can_run, few_reserved, from_fold}
use Rattle.bl_link.proofs.LinkedTrees.{all_kept}
use Rattle.bl_link.proofs.all_parts.link.Goals as goal

-- what was read of the parts
are_sound : (parts these : List Part) → these ≡ parts → All IsSound these → All IsSound parts
are_sound parts these same sound = subst (All IsSound) same sound

pub link_rest-requires : goal.link_rest-requires
link_rest-requires c =
    all_left c.args.parts (into_iter_items c.into_iter.result) c.nothing-store.result c.requires.parts (are_sound c.args.parts c.as_slice.result.now c.as_slice.ensures c.check_parts.ensures) c.nothing-store.ensures
    (c.into_iter.ensures.rest ∙ c.into_vec.ensures)

pub within_reserve-requires-clause-linked : goal.within_reserve-requires-clause-linked
within_reserve-requires-clause-linked c =
    can_run c.args.parts c.link_rest.new.store c.requires.parts (all_kept c.args.parts c.link_rest.new.store c.requires.parts (are_sound c.args.parts c.as_slice.result.now c.as_slice.ensures c.check_parts.ensures)
    (from_fold c.args.parts (into_iter_items c.into_iter.result) c.nothing-store.result c.link_rest.new.store c.nothing-store.ensures (c.into_iter.ensures.rest ∙ c.into_vec.ensures) c.in-Ok.ensures))

pub within_reserve-requires-clause-few : goal.within_reserve-requires-clause-few
within_reserve-requires-clause-few c =
    few_reserved c.args.parts c.link_rest.new.store c.requires.parts (all_kept c.args.parts c.link_rest.new.store c.requires.parts (are_sound c.args.parts c.as_slice.result.now c.as_slice.ensures c.check_parts.ensures)
    (from_fold c.args.parts (into_iter_items c.into_iter.result) c.nothing-store.result c.link_rest.new.store c.nothing-store.ensures (c.into_iter.ensures.rest ∙ c.into_vec.ensures) c.in-Ok.ensures))
