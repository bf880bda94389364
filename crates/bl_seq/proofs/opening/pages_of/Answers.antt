use Rattle.std.proofs.Common.{◌≡◌, ◌∙◌, ap, arith, length, map, rules}
use Rattle.std.proofs.lemmas.Result.{IfOk-at_ok}
use Rattle.std.proofs.lemmas.List.{map-id}
use Rattle.std.proofs.lemmas.Iterator.{YieldsList-from_map_by}
use Rattle.std.proofs.lemmas.Iterator.Adapters.{YieldsList-from_vec}
use Rattle.std.proofs.lemmas.Iterator.Consumers.{YieldsList-at, map_from_collect}
use Rattle.bl_base.specs.Runs.{MemoryState, memory_of}
use Rattle.bl_seq.proofs.opening.pages_of.Goals as goal

pub returns : goal.returns
returns c =
    let len : c.into_iter.result.rest.len ≡ length c.args.contents.items = omega (arith, c.into_iter.ensures.len, c.args.contents.ok.0) in
    let made : map memory_of c.in_ok-pages.pages.items ≡ map (λ (state : MemoryState). state) c.args.contents.items =
    IfOk-at_ok _ c.in_ok-pages.was (map_from_collect _ c.collect.ensures.ran
    (YieldsList-from_map_by _ memory_of (λ (state : MemoryState). state)
    (YieldsList-at c.map.ensures.source (YieldsList-from_vec c.args.contents.items c.into_iter.ensures.rest len))
    c.map.ensures.closure (λ x r q k. search rules))) in
    ap (map memory_of) c.of.ensures ∙ made ∙ map-id c.args.contents.items
