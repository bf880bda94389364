-- What the spelling of a module says of a part that it is.
use Rattle.std.proofs.Common.{◌≡◌, refl, sym, subst, ℕ, zero, suc, ◌<◌, ◌≤◌, ◌^◌, List, [], ◌∷◌, length, length-append, map, ap, arith, Option, None}
use Rattle.std.specs.List.{All, zip}
use Rattle.std.proofs.lemmas.List.{length-map}
use Rattle.std.proofs.lemmas.List.Elements.{All-nil, All-cons, All-weaker}
use Rattle.std.proofs.lemmas.Option.{none-some}
use Rattle.bl_base.specs.Quantity.{limit_of}
use Rattle.bl_base.specs.declared.quantity.Quantity.TheVariants.{Functions, Locals, Memory, Results, Table}
use Rattle.bl_base.proofs.OptionLemmas.{either_none}
use Rattle.bl_base.proofs.Lists.{length-filter_map}
use Rattle.bl_labels.specs.Faults.{IsConsistent}
use Rattle.bl_labels.specs.declared.labels.Labels.{Labels}
use Rattle.bl_wasm.specs.Limits.{Excess, above, first_excess, first_in, function_excess, local_count}
use Rattle.bl_wasm.specs.Modules.{Spells}
use Rattle.bl_wasm.specs.Sections.{global_entry, import_entry, import_kind}
use Rattle.bl_wasm.specs.Types.{function_type}
use Rattle.bl_wasm.specs.Validity.{functions_of, global_of, imported}
use Rattle.bl_wasm.specs.declared.module.DefinedGlobal.{DefinedGlobal}
use Rattle.bl_wasm.specs.declared.module.Import.{Import}
use Rattle.bl_wasm.specs.declared.module.ImportKind.{ImportKind}
use Rattle.bl_wasm.specs.declared.module.ImportKind.TheVariants as import
use Rattle.bl_wasm.specs.declared.module.Module.{Module}
use Rattle.bl_wasm.specs.declared.module.Code.{Code}
use Rattle.bl_wasm.specs.declared.types.FuncType.{FuncType}
use Rattle.bl_wasm.specs.declared.types.Limits.{Limits}
use Rattle.bl_wasm.proofs.LimitLemmas.{above_none}
use Rattle.bl_wasm.proofs.SpelledGlobals.{global_spelled, section_length, stands}
use Rattle.bl_link.specs.Linkable.{IsPart, NoSolidus}
use Rattle.bl_link.specs.Links.{part_of}
use Rattle.bl_link.specs.Stores.{AreApart}
use Rattle.bl_link.specs.declared.part.Part.{Part}

type_spelled : (type : FuncType) (bytes : List ℕ) → function_type type bytes → 1 ≤ length bytes
type_spelled type bytes h = omega (arith, ap length h.whole, length-append h.front h.rest, ap length h.first)

kind_spelled : (kind : ImportKind) (bytes : List ℕ) → import_kind kind bytes → 1 ≤ length bytes
kind_spelled (import.Function type) bytes h = omega (arith, ap length h.whole, length-append h.front h.rest, ap length h.first)
kind_spelled (import.Table type) bytes h = omega (arith, ap length h.whole, length-append h.front h.rest, ap length h.first)
kind_spelled (import.Memory type) bytes h = omega (arith, ap length h.whole, length-append h.front h.rest, ap length h.first)
kind_spelled (import.Global type) bytes h = omega (arith, ap length h.whole, length-append h.front h.rest, ap length h.first)

import_spelled : (entry : Import) (bytes : List ℕ) → import_entry entry bytes → 1 ≤ length bytes
import_spelled entry bytes h =
    let last = h.second in
    omega (arith, ap length h.whole, length-append h.front h.rest, ap length last.whole, length-append last.front last.rest, kind_spelled entry.kind last.rest last.second)

-- each type, import and global takes a byte
pub record IsSpelled (bytes : List ℕ) (tree : Module) : Type 0 where
  pub types : length tree.types ≤ length bytes
  pub imports : length tree.imports ≤ length bytes
  pub globals : length tree.globals ≤ length bytes

pub is_spelled : (bytes : List ℕ) (tree : Module) → Spells bytes tree → IsSpelled bytes tree
is_spelled bytes tree h =
    let start = h.1.second in
    let most : length start.rest ≤ length bytes = omega (arith, ap length h.1.whole, length-append h.1.front h.1.rest, ap length start.whole, length-append start.front start.rest) in
    let types = stands tree.customs start.rest (length bytes) most start.second in
    let imports = stands types.customs types.rest (length bytes) types.left types.behind in
    let functions = stands imports.customs imports.rest (length bytes) imports.left imports.behind in
    let tables = stands functions.customs functions.rest (length bytes) functions.left functions.behind in
    let memories = stands tables.customs tables.rest (length bytes) tables.left tables.behind in
    let globals = stands memories.customs memories.rest (length bytes) memories.left memories.behind in
    record {
      types = omega (arith, section_length 1 function_type type_spelled tree.types types.section types.spelled, types.within);
      imports = omega (arith, section_length 2 import_entry import_spelled tree.imports imports.section imports.spelled, imports.within);
      globals = omega (arith, section_length 6 global_entry global_spelled tree.globals globals.section globals.spelled, globals.within);
    }

-- ---- the limits

all_none : {A : Type 0} (found : A → Option Excess) (xs : List A) → first_in found xs ≡ None → All (λ x. found x ≡ None) xs
all_none found [] none = All-nil (λ x. found x ≡ None)
all_none found (x ∷ xs) none =
    let parts = either_none (found x) (first_in found xs) none in
    All-cons (λ x. found x ≡ None) x xs parts.0 (all_none found xs parts.1)

few_locals : (types : List FuncType) (defined : ℕ × Code) → function_excess types defined ≡ None → local_count types defined ≤ limit_of Locals
few_locals types defined none = above_none Locals (local_count types defined) (either_none (above Locals (local_count types defined)) _ none).0

-- a part by its bytes, with labels that don't contradict themselves
pub labelled_part : (name bytes : List ℕ) (tree : Module) (labels : Labels) → IsConsistent labels → NoSolidus name → Spells bytes tree → length bytes < 2 ^ 25 → first_excess tree ≡ None → IsPart (part_of name tree labels)
labelled_part name bytes tree labels consistent named spelled few none =
    let s = is_spelled bytes tree spelled in
    let functions = either_none (above Functions (length (functions_of tree))) _ none in
    let results = either_none (first_in (λ (type : FuncType). above Results (length type.results)) tree.types) _ functions.1 in
    let tables = either_none (first_in (λ (table : Limits). above Table table.min) tree.tables) _ results.1 in
    let memories = either_none (first_in (λ (limits : Limits). above Memory limits.min) tree.memories) _ tables.1 in
    record {
      name = named;
      functions = above_none Functions (length (functions_of tree)) functions.0;
      results = All-weaker (λ (type : FuncType). above Results (length type.results) ≡ None) (λ type. length type.results ≤ limit_of Results)
          (λ type. above_none Results (length type.results)) tree.types (all_none (λ (type : FuncType). above Results (length type.results)) tree.types results.0);
      locals = All-weaker (λ defined. function_excess tree.types defined ≡ None) (λ defined. local_count tree.types defined ≤ limit_of Locals)
          (few_locals tree.types) (zip tree.functions tree.bodies) (all_none (function_excess tree.types) (zip tree.functions tree.bodies) memories.1);
      memories = All-weaker (λ (limits : Limits). above Memory limits.min ≡ None) (λ limits. limits.min ≤ limit_of Memory)
          (λ limits. above_none Memory limits.min) tree.memories (all_none (λ (limits : Limits). above Memory limits.min) tree.memories memories.0);
      globals = omega (
        arith,
        s.globals,
        s.imports,
        few,
        length-append (imported global_of tree) (map (λ (global : DefinedGlobal). global.kind) tree.globals),
        length-map tree.globals (λ (global : DefinedGlobal). global.kind),
        length-filter_map (λ (entry : Import). global_of entry.kind) tree.imports,
      );
      types = omega (arith, s.types, few);
      imports = omega (arith, s.imports, few);
      labels = consistent;
    }

-- ---- what is read

-- a part is put together of a name that is copied, a module that is decoded and then validated, and labels
pub read_part : (name letters bytes : List ℕ) (tree wasm : Module) (labels : Labels) → name ≡ letters → wasm ≡ tree → IsConsistent labels → NoSolidus letters
    → Spells bytes tree → length bytes < 2 ^ 25 → first_excess tree ≡ None → IsPart (part_of name wasm labels)
read_part name letters bytes tree wasm labels named same consistent is spelled few none =
    subst (λ n. IsPart (part_of n wasm labels)) (sym named)
    (subst (λ w. IsPart (part_of letters w labels)) (sym same) (labelled_part letters bytes tree labels consistent is spelled few none))

-- ---- one part by itself

pub one_apart : (part : Part) → AreApart (λ (one : Part). one.name) (part ∷ [])
one_apart part zero zero a b e f same = refl
one_apart part zero (suc j) a b e f same = absurd (none-some b f)
one_apart part (suc i) j a b e f same = absurd (none-some a e)
