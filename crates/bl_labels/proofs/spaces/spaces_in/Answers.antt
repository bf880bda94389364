use Rattle.bl_labels.proofs.CountLemmas.{spaces_made}
use Rattle.bl_labels.proofs.spaces.spaces_in.Goals as goal

pub returns : goal.returns
returns c =
    spaces_made c.args.wasm.now c.as_slice-imports.result.now c.as_slice.result.now c.in_ok-functions.functions c.in_ok-imported.imported c.len-imported_functions.result c.imported_globals-imported_globals.result c.len.result
    c.imported_memories-imported_memories.result c.len-2.result c.as_slice-imports.ensures c.as_slice.ensures c.in_ok-imported.ensures c.in_ok-functions.ensures c.len-imported_functions.ensures
    c.imported_globals-imported_globals.ensures.count c.len.ensures c.imported_memories-imported_memories.ensures.count c.len-2.ensures
