-- The program of modules has an image, where its commands are few enough and the modules' names are texts.
use Rattle.std.proofs.Common.{◌≡◌, ℕ, zero, suc, ◌+◌, ◌*◌, ◌/◌, ◌^◌, ◌<◌, ◌≤◌, List, length, map, slice_index_or, drop, length-drop, length-take, sym, subst, arith}
use Rattle.std.specs.List.{All, range_with_len}
use Rattle.std.proofs.lemmas.List.{length-map}
use Rattle.std.proofs.lemmas.List.Elements.{All-cons, All-filter, All-map, All-nil}
use Rattle.bl_base.specs.Fits.{AreBytes}
use Rattle.bl_base.specs.Quantity.{limit_of}
use Rattle.bl_base.specs.declared.quantity.Quantity.TheVariants as quantity
use Rattle.bl_wasm.specs.Linked.{IsLinked}
use Rattle.bl_wasm.specs.declared.linked.Memory.{Memory}
use Rattle.bl_wasm.specs.declared.linked.Tree.{Tree}
use Rattle.bl_program.specs.declared.definitions.ExportDef.{ExportDef}
use Rattle.bl_program.specs.declared.definitions.MemRow.{MemRow}
use Rattle.bl_program.specs.declared.definitions.MemoryDef.{MemoryDef}
use Rattle.bl_program.specs.declared.definitions.SiteWeight.{SiteWeight}
use Rattle.bl_program.specs.Widths.{HasWidths}
use Rattle.bl_format.specs.Image.{Image}
use Rattle.bl_format.proofs.ImageExistence.{some_image}
use Rattle.bl_link.specs.Linkable.{AreFew, HasFewExports}
use Rattle.bl_link.proofs.Exports.{of_links}
use Rattle.bl_link.proofs.ModuleWidths.{few_exports}
use Rattle.bl_lower.specs.Trees.{export_def, is_filled, low_tree, memory_def, memory_row_at, rows_of}
use Rattle.bl_lower.proofs.WellFormed.{facts, rules}
use Rattle.bl_lower.proofs.Constants.{constants}
use Rattle.bl_build.specs.BuildStages.{AreCompilable, command_count}
use Rattle.bl_build.specs.LoadStages.{Part, linked_parts, loading}
use Rattle.bl_build.proofs.LoadLemmas.{all_accepted}
use Rattle.bl_build.proofs.LoadTotal.{as_many, each_one, turned}

-- ---- rows

abbrev IsWhole : MemRow → Type 0
IsWhole row = length row.bytes ≡ 16

whole_rows : (bytes : List ℕ) (from count : ℕ) → (from + count) * 16 ≤ length bytes → All IsWhole (map (memory_row_at bytes) (range_with_len from count))
whole_rows bytes from zero le = All-nil IsWhole
whole_rows bytes from (suc count) le =
    All-cons IsWhole (memory_row_at bytes from) (map (memory_row_at bytes) (range_with_len (from + 1) count)) (omega (arith, le, length-take 16 (drop (from * 16) bytes), length-drop (from * 16) bytes))
    (whole_rows bytes (from + 1) count (omega (arith, le)))

memory_rows : (memory : Memory) → All IsWhole (rows_of memory.bytes)
memory_rows memory =
    let bytes = memory.bytes in
    All-filter (λ row. is_filled row.bytes) IsWhole (map (memory_row_at bytes) (range_with_len 0 (length bytes / 16))) (whole_rows bytes 0 (length bytes / 16) (omega arith))

-- ---- linked trees

-- a tree that is linked of so many parts, few enough, with few exports of short names
pub record IsOfParts (tree : Tree) : Type 0 where
  pub linked : IsLinked tree
  pub parts : ℕ
  pub few : parts ≤ limit_of quantity.Modules
  pub exports : AreFew parts tree.exports

module _ (tree : Tree) (is : IsOfParts tree) (few : command_count tree ≤ limit_of quantity.Commands) where
  pub widths : HasWidths (low_tree tree)
  widths = record {
    constants = constants tree is.linked (omega (arith, few));
    rows = All-map (λ (memory : MemoryDef). All IsWhole memory.rows) memory_def tree.memories (λ k d lt. memory_rows (slice_index_or tree.memories k d));
    exports = (let count = is.exports.few in let parts = is.few in omega (arith, length-map tree.exports export_def, count, parts));
    names = All-map (λ (entry : ExportDef). length entry.name < 2 ^ 64) export_def tree.exports is.exports.names;
    weights = All-nil (λ (entry : SiteWeight). entry.weight < 2 ^ 64);
  }

  pub has_image : (bytes : List ℕ) × Image (low_tree tree) bytes
  has_image = some_image (low_tree tree) (facts tree is.linked) (rules tree is.linked few) widths

-- ---- modules

pub of_parts : (parts : List Part) (tree : Tree) → AreCompilable parts → loading.Passes parts tree → IsOfParts tree
of_parts parts tree given loaded =
    let labelled = loaded.2.2.0 in
    let h = turned parts labelled (all_accepted parts loaded.0 loaded.2.0 labelled loaded.1 loaded.2.1 loaded.2.2.1) in
    let few = each_one (λ (part : Part). (length part.name < 2 ^ 63) × AreBytes part.bytes) HasFewExports
    (λ one part is known. few_exports one.name part.bytes one.tree one.labels known.1 is.1.spelled (subst (λ (name : List ℕ). length name < 2 ^ 63) (sym is.0) known.0)) labelled parts h
    (λ k d lt. (given.names k d lt, given.loadable.bytes k d lt)) in
    let count = given.loadable.few in
    record {
      linked = loaded.2.2.2.can_run;
      parts = length (linked_parts labelled);
      few = omega (arith, as_many labelled parts h, count);
      exports = of_links (linked_parts labelled) tree few loaded.2.2.2.is_tree;
    }
