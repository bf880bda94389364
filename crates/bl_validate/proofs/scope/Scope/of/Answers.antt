use Rattle.std.proofs.Common.{rules, ◌∙◌, ap, map, arith}
use Rattle.std.proofs.lemmas.Result.{IfOk-at_ok}
use Rattle.std.proofs.lemmas.Iterator.{YieldsList-from_map, YieldsList-from_slice}
use Rattle.std.proofs.lemmas.Iterator.Adapters.{items_from_extend}
use Rattle.std.proofs.lemmas.Iterator.Consumers.{YieldsList-at}
use Rattle.bl_wasm.specs.declared.module.DefinedGlobal.{DefinedGlobal}
use Rattle.bl_validate.proofs.Spaces.{space_whole, space_imported}
use Rattle.bl_validate.proofs.scope.Scope.of.Goals as goal

pub returns : goal.returns
returns c =
    let kinds = IfOk-at_ok _ c.in_ok-extend.was (items_from_extend c.extend.result c.extend.ensures.ran
    (YieldsList-from_map _ (λ (global : DefinedGlobal). global.kind) (YieldsList-at c.map.ensures.source (YieldsList-from_slice c.as_slice-6.result.now c.iter-defined.ensures.rest)) c.map.ensures.closure (λ x r q k. search rules))) in
    record {
      types = c.in_ok-import_all.ensures.types ∙ c.as_slice.ensures;
      functions = space_whole _ c.new.ensures.items c.as_slice-2.ensures c.in_ok-import_all.ensures.functions c.as_slice-3.ensures c.in_ok-extend_from_slice.ensures.items;
      tables = space_whole _ c.new-2.ensures.items c.as_slice-2.ensures c.in_ok-import_all.ensures.tables c.as_slice-4.ensures c.in_ok-extend_from_slice-2.ensures.items;
      memories = space_whole _ c.new-3.ensures.items c.as_slice-2.ensures c.in_ok-import_all.ensures.memories c.as_slice-5.ensures c.in_ok-extend_from_slice-3.ensures.items;
      globals = space_whole _ c.new-4.ensures.items c.as_slice-2.ensures c.in_ok-import_all.ensures.globals (ap (map (λ (global : DefinedGlobal). global.kind)) c.as_slice-6.ensures) kinds.0;
      imports = let same = space_imported _ c.new-4.ensures.items c.as_slice-2.ensures c.in_ok-import_all.ensures.globals in omega (arith, c.import_all.new.self.globals.ok.0);
    }
