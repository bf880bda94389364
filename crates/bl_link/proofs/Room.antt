-- There are few enough of what is linked for numbers of 32 bits.
use Rattle.std.proofs.Common.{◌≡◌, ◌∙◌, ap, ℕ, ◌+◌, ◌^◌, ◌<◌, ◌≤◌, List, [], ◌∷◌, ◌++◌, length, map, Some, None, arith, length-append, Ok}
use Rattle.std.specs.List.{AllZip, range_with_len}
use Rattle.std.proofs.lemmas.List.{length-map}
use Rattle.std.proofs.lemmas.List.FromFn.{length-range_with_len}
use Rattle.std.specs.Prelude.{if◌then◌else◌}
use Rattle.bl_base.proofs.Lists.{length-filter_map, zip_length}
use Rattle.bl_wasm.specs.Validity.{imported, function_of, memory_of, global_of}
use Rattle.bl_wasm.specs.declared.module.DefinedGlobal.{DefinedGlobal}
use Rattle.bl_wasm.specs.declared.module.ExportKind.{ExportKind}
use Rattle.bl_wasm.specs.declared.module.ExportKind.TheVariants as export
use Rattle.bl_link.specs.CanLink.{CanLink}
use Rattle.bl_link.specs.HasRoom.{HasRoom, IsSpace}
use Rattle.bl_link.specs.Links.{exported, with_part}
use Rattle.bl_link.specs.ImportMatches.{all_given}
use Rattle.bl_link.specs.IndexSpaces.{External, Part, Store, of_kind, same_kind, spaces_of}
use Rattle.bl_link.specs.Stores.{AreApart, IsStore}
use Rattle.bl_link.proofs.ImportMatchLemmas.{Suits}
use Rattle.bl_link.proofs.PartSteps.{part_kept}
use Rattle.bl_link.proofs.LinkedTrees.{all_suit}

-- ---- the spaces of a part

-- a space of what is imported, and then so many
is_space : (kind : ExportKind) (given : List External) (first many : ℕ) → length given < 2 ^ 26 → many < 2 ^ 27 → IsSpace (of_kind kind given ++ range_with_len first many) many
is_space kind given first many few some =
    let all : length (of_kind kind given ++ range_with_len first many) ≡ length (of_kind kind given) + many = length-append (of_kind kind given) (range_with_len first many) ∙ ap (λ n. length (of_kind kind given) + n) (length-range_with_len first many) in
    let less : length (of_kind kind given) ≤ length given = length-filter_map (λ value. if same_kind kind value.kind then Some value.number else None) given in
    record { within = omega (arith, all); few = omega (arith, all, less, few, some) }

module _ (store : Store) (part : Part) (number : ℕ) (given : List External) (can : CanLink store part) (made : all_given store part.wasm number ≡ Ok given) where
  suit : AllZip (Suits store part.wasm) part.wasm.imports given
  suit = all_suit store part.wasm number 0 part.wasm.imports given made

  few_given : length given < 2 ^ 26
  few_given = omega (arith, zip_length (Suits store part.wasm) part.wasm.imports given suit, can.good.imports)

  kept : IsStore (can.done ++ part ∷ []) (with_part store part (spaces_of store part.wasm given))
  kept = part_kept can.done store part given can.is can.good can.sound suit can.fresh

  -- the spaces have room, and the names are distinct
  pub room_of : HasRoom store.tree part (spaces_of store part.wasm given)
  room_of = record {
    functions = is_space export.Function given (length store.tree.functions) (length part.wasm.functions) few_given
        (omega (arith, can.good.functions, length-append (imported function_of part.wasm) part.wasm.functions));
    memories = is_space export.Memory given (length store.tree.memories) (length part.wasm.memories) few_given
        (omega (arith, can.sound.typed.rules.one_memory, length-append (imported memory_of part.wasm) part.wasm.memories));
    globals = is_space export.Global given (length store.tree.globals) (length part.wasm.globals) few_given
        (omega (arith, can.good.globals, length-append (imported global_of part.wasm) (map (λ (global : DefinedGlobal). global.kind) part.wasm.globals), length-map part.wasm.globals (λ (global : DefinedGlobal). global.kind)));
    counts = can.sound.typed.rules.counts;
    pairs = kept.distinct;
  }

  pub values_apart : AreApart (λ (value : List ℕ × External). value.0) (store.exports ++ map (exported part.name (spaces_of store part.wasm given)) part.wasm.exports)
  values_apart = kept.values_distinct
