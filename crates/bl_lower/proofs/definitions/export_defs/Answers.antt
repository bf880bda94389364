use Rattle.std.proofs.Common.{◌≡◌, ◌∙◌, ap, map, refl, rules}
use Rattle.std.proofs.lemmas.Result.{IfOk-at_ok}
use Rattle.std.proofs.lemmas.Iterator.{YieldsList-from_map, items_from_collect}
use Rattle.std.proofs.lemmas.Iterator.Consumers.{YieldsList-at, YieldsList-from_rest}
use Rattle.bl_lower.specs.Trees.{export_def}
use Rattle.bl_lower.proofs.Moving.{all_moved, moved}
use Rattle.bl_lower.proofs.definitions.export_defs.Goals as goal

pub returns : goal.returns
returns c =
    let entries = c.into_pairs.result in
    let made : c.in_ok-all.all.items ≡ map moved entries =
    IfOk-at_ok _ c.in_ok-all.was (items_from_collect _ c.collect.ensures.ran
    (YieldsList-from_map _ moved (YieldsList-at c.map.ensures.source (YieldsList-from_rest entries refl)) c.map.ensures.closure (λ x r q k. search rules))) in
    c.of.ensures ∙ made ∙ all_moved entries ∙ ap (map export_def) c.into_pairs.ensures
