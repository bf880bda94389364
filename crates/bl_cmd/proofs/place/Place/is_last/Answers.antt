use Rattle.std.proofs.Common.{arith}
use Rattle.bl_cmd.proofs.TableLemmas.{place_within}
use Rattle.bl_cmd.proofs.place.Place.is_last.Goals as goal

pub overflow_add-result : goal.overflow_add-result
overflow_add-result c =
    let within = place_within _ c.requires in
    let few = c.requires.tables.rule.commands in
    omega arith
