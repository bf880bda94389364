-- Two programs that have images of few enough bytes, and can be joined, are joined to a program that has one.
use Rattle.std.proofs.Common.{◌≡◌, ℕ, ◌^◌, ◌<◌, ◌≤◌, Bool, List, ◌++◌, length, map, take, drop, arith, length-append}
use Rattle.std.specs.Prelude.{not}
use Rattle.std.specs.List.{All}
use Rattle.std.proofs.lemmas.List.{length-map}
use Rattle.std.proofs.lemmas.List.Elements.{All-append, All-drop, All-filter, All-map, All-take}
use Rattle.std.proofs.lemmas.List.Sums.{count_by-le-length, length-filter}
use Rattle.bl_base.specs.Quantity.{limit_of}
use Rattle.bl_base.specs.declared.quantity.Quantity.TheVariants as quantity
use Rattle.bl_program.specs.Rules.{IsWellFormed}
use Rattle.bl_program.specs.declared.command.Command.{Command}
use Rattle.bl_program.specs.declared.command.Command.TheVariants.{Set, Load, Store, Test, Arg, Out}
use Rattle.bl_program.specs.declared.command.Operand.{Operand}
use Rattle.bl_program.specs.declared.command.Operand.TheVariants as operands
use Rattle.bl_program.specs.declared.definitions.ExportDef.{ExportDef}
use Rattle.bl_program.specs.declared.definitions.MemRow.{MemRow}
use Rattle.bl_program.specs.declared.definitions.MemoryDef.{MemoryDef}
use Rattle.bl_program.specs.declared.definitions.ProgramParts.{ProgramParts as Program}
use Rattle.bl_program.specs.declared.definitions.SiteWeight.{SiteWeight}
use Rattle.bl_program.specs.Widths.{HasConstants, HasWidth, HasWidths}
use Rattle.bl_format.specs.Image.{Image}
use Rattle.bl_format.proofs.ImageExistence.{some_image}
use Rattle.bl_format.proofs.ImageWidths.{few_exports, image_widths}
use Rattle.bl_iface.specs.JoinedProgram.{CanJoin, Renaming, client_numbers, is_named, joined, kept, library_numbers, library_shift, moved_export, moved_weight, operand_by, renamed}
use Rattle.bl_iface.specs.declared.iface.Iface.{Iface}
use Rattle.bl_iface.proofs.JoinedWellFormed.{joined_is, joined_well}

-- ---- renamed commands have the same constants

same_width : (read : ℕ → ℕ) (one : Operand) → HasWidth one → HasWidth (operand_by read one)
same_width read (operands.Var x) h = tt
same_width read (operands.Const n) h = h

same_constants : (n : Renaming) (one : Command) → HasConstants one → HasConstants (renamed n one)
same_constants n (Set mark op to a b c) h = (same_width n.read a h.0, same_width n.read b h.1, same_width n.read c h.2)
same_constants n (Load mark kind space to offset address) h = same_width n.read address h
same_constants n (Store kind space offset address value) h = (same_width n.read address h.0, same_width n.read value h.1)
same_constants n (Test cond one other) h = same_width n.read cond h
same_constants n (Arg mark callee index value) h = same_width n.read value h
same_constants n (Out mark index value) h = same_width n.read value h
same_constants n _ h = tt

renamed_constants : (n : Renaming) (commands : List Command) → All HasConstants commands → All HasConstants (map (renamed n) (drop 7 commands))
renamed_constants n commands all = All-map HasConstants (renamed n) (drop 7 commands) (λ k d lt. same_constants n _ (All-drop HasConstants 7 commands all k d lt))

-- ---- the joined program

module _ (client library : Program) (iface : Iface) (one other : List ℕ) (ours : Image client one) (theirs : Image library other)
    (few : length one ≤ limit_of quantity.Image) (few_too : length other ≤ limit_of quantity.Image) where
  abbrev mine : HasWidths client
  mine = image_widths client one ours

  abbrev its : HasWidths library
  its = image_widths library other theirs

  abbrev HasShortName : ExportDef → Type 0
  HasShortName one = length one.name < 2 ^ 64

  abbrev IsSmall : SiteWeight → Type 0
  IsSmall entry = entry.weight < 2 ^ 64

  abbrev HasWholeRows : MemoryDef → Type 0
  HasWholeRows one = All (λ (row : MemRow). length row.bytes ≡ 16) one.rows

  joined_exports : length (joined client library iface).exports < 2 ^ 64
  joined_exports =
      let test : ExportDef → Bool = λ export. not (is_named iface.functions export.name) in
      let kept_few = length-filter test client.exports in
      let fewer = count_by-le-length test client.exports in
      let moved = length-map library.exports (moved_export (length client.functions)) in
      let all = length-append (kept iface client) (map (moved_export (length client.functions)) library.exports) in
      let ours_few = few_exports client one ours in
      let theirs_few = few_exports library other theirs in
      omega arith

  joined_widths : HasWidths (joined client library iface)
  joined_widths = record {
    constants = All-append HasConstants (take 7 client.commands)
        (map (renamed (client_numbers iface client library)) (drop 7 client.commands) ++ map (renamed (library_numbers client library)) (drop 7 library.commands))
        (All-take HasConstants 7 client.commands mine.constants)
        (All-append HasConstants (map (renamed (client_numbers iface client library)) (drop 7 client.commands)) (map (renamed (library_numbers client library)) (drop 7 library.commands))
        (renamed_constants (client_numbers iface client library) client.commands mine.constants)
        (renamed_constants (library_numbers client library) library.commands its.constants));
    rows = All-append HasWholeRows client.memories library.memories mine.rows its.rows;
    exports = joined_exports;
    names = All-append HasShortName (kept iface client) (map (moved_export (length client.functions)) library.exports)
        (All-filter (λ (export : ExportDef). not (is_named iface.functions export.name)) HasShortName client.exports mine.names)
        (All-map HasShortName (moved_export (length client.functions)) library.exports its.names);
    weights = All-append IsSmall client.weights (map (moved_weight (library_shift client)) library.weights) mine.weights
        (All-map IsSmall (moved_weight (library_shift client)) library.weights its.weights);
  }

  pub joined_image : IsWellFormed client → IsWellFormed library → CanJoin client library iface → (bytes : List ℕ) × Image (joined client library iface) bytes
  joined_image rules other_rules can =
      some_image (joined client library iface) (joined_is client library iface ours.is_program theirs.is_program)
      (joined_well client library iface ours.is_program theirs.is_program rules other_rules can) joined_widths
